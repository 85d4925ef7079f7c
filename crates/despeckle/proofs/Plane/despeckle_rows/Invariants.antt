-- What the loops of `despeckle::Plane::despeckle_rows` keep. Assumes nothing.
use mathlib.Core.Path.{◌≡◌}
use Prim.Native.Nat.{◌*◌}
use Rattle.bits.specs.Bit.{overwritten}
use Rattle.despeckle.specs.Plane.{new_word}
use Rattle.despeckle.proofs.Plane.despeckle_rows.Given as goal

abbrev pub invariant-loop-row : goal.invariant-loop-row
invariant-loop-row l = l.out ≡ overwritten (l.row * l.self.words) (new_word l.self.pixels.now l.self.words l.self.rows) l.initial.out
