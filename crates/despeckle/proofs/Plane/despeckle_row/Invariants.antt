-- What the loops of `despeckle::Plane::despeckle_row` keep. Assumes nothing.
use mathlib.Core.Path.{◌≡◌}
use Prim.Native.Nat.{◌+◌, ◌*◌}
use Rattle.bits.specs.Bit.{overwritten}
use Rattle.despeckle.specs.Plane.{around, new_word}
use Rattle.despeckle.proofs.Plane.despeckle_row.Given as goal

abbrev pub invariant-loop-at : goal.invariant-loop-at
invariant-loop-at l =
    (l.window.number ≡ around l.self.pixels.now l.self.words l.self.rows l.row (64 * l.at))
    × (l.out ≡ overwritten l.at (λ at. new_word l.self.pixels.now l.self.words l.self.rows (l.row * l.self.words + at)) l.initial.out)
