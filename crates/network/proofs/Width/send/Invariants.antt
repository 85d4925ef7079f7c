-- What the loops of `network::Width::send` keep. Assumes nothing.
use mathlib.Core.Path.{◌≡◌}
use Prim.Native.Nat.{◌^◌, ◌<◌}
use Rattle.network.proofs.SixSteps.{left}
use Rattle.network.proofs.Width.send.Given as goal

abbrev pub invariant-loop-at : goal.invariant-loop-at
invariant-loop-at g l = (l.carried < 2 ^ 64) × (left g.D.Direction.is_rising l.self.log l.stages l.at l.carried ≡ left g.D.Direction.is_rising l.self.log l.stages 0 l.word)
