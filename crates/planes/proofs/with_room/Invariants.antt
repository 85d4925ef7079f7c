-- What the loop of `planes::with_room` keeps. Assumes nothing.
use mathlib.Core.Path.{◌≡◌}
use Rattle.network.proofs.Filling.{filled_to}
use Rattle.planes.proofs.with_room.Given as goal

abbrev pub invariant-loop-at : goal.invariant-loop-at
invariant-loop-at l = l.filled ≡ filled_to 32 0 l.at l.words
