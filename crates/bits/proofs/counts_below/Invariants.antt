-- What the loops of `bits::counts_below` keep. Assumes nothing.
use mathlib.Core.Path.{◌≡◌}
use Prim.Native.Nat.{◌*◌}
use Rattle.bits.proofs.ByteCounts.{count_at, counted_to}
use Rattle.bits.proofs.counts_below.Given as goal

abbrev pub invariant-loop-part : goal.invariant-loop-part
invariant-loop-part l = (l.counts ≡ counted_to l.mask l.start (8 * l.part)) × (l.below ≡ count_at l.mask l.start (8 * l.part))
