-- What the loops of `network::stage_bits` keep. Assumes nothing.
use mathlib.Core.Path.{◌≡◌}
use Prim.Native.Nat.{◌*◌}
use Rattle.bits.specs.Bit.{of_bits}
use Rattle.network.specs.Decoder.{control_by}
use Rattle.network.proofs.stage_bits.Given as goal

abbrev pub invariant-loop-block : goal.invariant-loop-block
invariant-loop-block l = l.out ≡ of_bits (l.distance * l.block) (control_by l.distance l.counts)
