-- What the loops of `grouping::take_destinations` keep. Assumes nothing.
use Rattle.grouping.proofs.Taking.{Taken}
use Rattle.grouping.proofs.take_destinations.Given as goal

abbrev pub invariant-loop-place : goal.invariant-loop-place
invariant-loop-place l = Taken l.entries l.place l.mask l.to
