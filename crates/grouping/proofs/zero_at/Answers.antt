-- `grouping::zero_at` meets its contract. Assumes nothing.
use Rattle.bits.specs.Bit.{bit}
use borrow.Author.Rules.{rules}
use Rattle.grouping.proofs.zero_at.Goals as goal

pub returns : goal.returns
unfolding bit
returns c = search rules
