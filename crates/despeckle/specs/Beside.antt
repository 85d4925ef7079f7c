-- What the rule says of a plane, in its pixels: the statements of theorems. Assumes nothing.
use Rattle.std.specs.Prelude.{◌≡◌, List, ℕ, ◌+◌, ◌<◌}
use Rattle.despeckle.specs.Plane.{bordered}

-- One of the eight pixels around that of row y and column x is lit. In the bordered plane, which counts from 1, these are rows y to y + 2 and columns x to x + 2 without
-- row y + 1, column x + 1.
pub record LitBeside (ws : List ℕ) (v h y x : ℕ) : Type 0 where
  pub down : ℕ
  pub right : ℕ
  pub down_near : down < 3
  pub right_near : right < 3
  pub other : (down ≡ 1) × (right ≡ 1) → ⊥
  pub lit : bordered ws v h (y + down) (x + right) ≡ 1
