-- `unit::Networks::butterfly` meets its contract. Assumes nothing.
use borrow.Author.Rules.{rules}
use Rattle.unit.proofs.KeptNetworks.{butterfly-kept}
use Rattle.unit.proofs.Networks.butterfly.Goals as goal

pub returns : goal.returns
returns c = butterfly-kept c.args.registers (search rules) (search rules) c.keep.ensures.swaps c.butterfly_prepared.ensures
