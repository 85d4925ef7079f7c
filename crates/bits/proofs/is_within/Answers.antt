-- `bits::is_within` meets its contract. Assumes nothing.
use mathlib.Core.Path.{sym}
use borrow.Author.Rules.{rules}
use Rattle.bits.proofs.Refusals.{shr-fits, wide_fits}
use Rattle.bits.proofs.is_within.Goals as goal

pub returns-then-width-ge64 : goal.returns-then-width-ge64
returns-then-width-ge64 c = sym (wide_fits c.args.x c.args.width (search rules) (search rules))

pub returns : goal.returns
returns c = shr-fits c.args.x c.args.width
