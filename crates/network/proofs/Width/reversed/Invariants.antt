-- What the loops of `network::Width::reversed` keep. Assumes nothing.
use mathlib.Core.Path.{◌≡◌}
use mathlib.Core.List.{reverse}
use lib.ListN.{take}
use Rattle.network.proofs.Filling.{filled}
use Rattle.network.proofs.Width.reversed.Given as goal

abbrev pub invariant-loop-at : goal.invariant-loop-at
invariant-loop-at l = l.out ≡ filled 0 l.at (reverse (take l.self.log l.stages))
