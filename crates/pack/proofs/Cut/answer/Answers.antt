-- `pack::Cut::answer` meets its contract. Assumes nothing.
use mathlib.Core.Path.{refl}
use native.Mathlib.Omega.{arith}
use Rattle.bits.proofs.Rank.{rank-le}
use Rattle.pack.proofs.FieldAnswers.{answer-done}
use Rattle.pack.proofs.Cut.answer.Goals as goal

pub overflow_cast-result : goal.overflow_cast-result
overflow_cast-result c = record { fits = omega (arith, c.args.self.sized, rank-le c.args.self.mask 64) }

pub returns : goal.returns
returns c = rw (c.args.self.sized, c.bits.ensures.0) (answer-done _ _ _ _ refl)
