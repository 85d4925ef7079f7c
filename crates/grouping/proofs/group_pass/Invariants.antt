-- What the loops of `grouping::group_pass` keep. Assumes nothing.
use Rattle.grouping.proofs.Passing.{Passed}
use Rattle.grouping.proofs.group_pass.Given as goal

abbrev pub invariant-loop-place : goal.invariant-loop-place
invariant-loop-place l = Passed l.mask l.index l.from l.place l.low l.next l.into
