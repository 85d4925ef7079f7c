-- `unit::Networks::inverse` meets its contract. Assumes nothing.
use borrow.Author.Rules.{rules}
use Rattle.unit.proofs.KeptNetworks.{inverse-kept}
use Rattle.unit.proofs.Networks.inverse.Goals as goal

pub returns : goal.returns
returns c = inverse-kept c.args.registers (search rules) (search rules) c.keep.ensures.swaps c.inverse_prepared.ensures
