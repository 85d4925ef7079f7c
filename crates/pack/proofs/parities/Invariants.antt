-- What the loops of `pack::parities` keep. Assumes nothing.
use Prim.Native.Nat.{◌^◌}
use Rattle.pack.proofs.Gaps.{Sums}
use Rattle.pack.proofs.parities.Given as goal

abbrev pub invariant-loop-i : goal.invariant-loop-i
invariant-loop-i l = Sums (2 ^ l.i) l.x l.sums
