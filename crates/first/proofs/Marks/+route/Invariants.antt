-- What falls at each call of the cycle. Assumes nothing.
use Rattle.first.proofs.Marks.+route.Given as goal

abbrev pub decreases-route : goal.decreases-route
decreases-route l = l.block.exponent
