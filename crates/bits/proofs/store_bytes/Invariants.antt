-- What the loops of `bits::store_bytes` keep. Assumes nothing.
use mathlib.Core.Path.{◌≡◌}
use lib.Seq.{sets}
use Rattle.bits.specs.Bit.{byte_at, up_to}
use Rattle.bits.proofs.store_bytes.Given as goal

abbrev pub invariant-loop-at : goal.invariant-loop-at
invariant-loop-at l = l.out ≡ sets l.initial.out l.first (up_to l.at (byte_at l.word))
