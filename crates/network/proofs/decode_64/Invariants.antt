-- What the loops of `network::decode_64` keep. Assumes nothing.
use mathlib.Core.Path.{◌≡◌}
use Rattle.network.specs.Decoder.{decode_of}
use Rattle.network.proofs.Filling.{filled}
use Rattle.network.proofs.decode_64.Given as goal

abbrev pub invariant-loop-at : goal.invariant-loop-at
invariant-loop-at l = l.stages ≡ filled 0 l.at (decode_of 6 l.mask)
