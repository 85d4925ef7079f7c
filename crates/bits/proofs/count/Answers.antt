-- `bits::count` meets its contract. Assumes nothing.
use mathlib.Core.Path.{sym}
use borrow.Author.Rules.{rules}
use Rattle.bits.proofs.Rank.{rank-ones}
use Rattle.bits.proofs.count.Goals as goal

pub returns : goal.returns
returns c = sym (rank-ones 64 (search rules))
