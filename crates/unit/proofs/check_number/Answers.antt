-- `unit::check_number` meets its contract. Assumes nothing.
use borrow.Author.Tests.{le-leb, lt-leb}
use Rattle.unit.specs.Calls.{number_refusal}
use Rattle.unit.proofs.check_number.Goals as goal

pub returns-then-number-gt15 : goal.returns-then-number-gt15
unfolding number_refusal
returns-then-number-gt15 c = simp (lt-leb _ _ c.if-number-gt15.true)

pub returns : goal.returns
unfolding number_refusal
returns c = simp (le-leb _ _ c.if-number-gt15.false)
