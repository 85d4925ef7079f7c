-- What the loop of `planes::last_eight` keeps. Assumes nothing.
use mathlib.Core.Path.{◌≡◌}
use lib.ListN.{drop}
use Rattle.network.proofs.Filling.{filled_to}
use Rattle.planes.proofs.last_eight.Given as goal

abbrev pub invariant-loop-at : goal.invariant-loop-at
invariant-loop-at l = l.last ≡ filled_to 8 0 l.at (drop 24 l.words)
