-- What the loops of `network::Width::narrowed` keep. Assumes nothing.
use mathlib.Core.Path.{◌≡◌}
use Rattle.network.proofs.Filling.{filled}
use Rattle.network.specs.Decoder.{in_use}
use Rattle.network.proofs.Width.narrowed.Given as goal

abbrev pub invariant-loop-at : goal.invariant-loop-at
invariant-loop-at l = l.out ≡ filled 0 l.at (in_use l.fn.self.log l.fn.stages)
