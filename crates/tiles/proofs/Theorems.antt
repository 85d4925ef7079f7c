-- Req 05's theorems on tiles, each from the law of two movements. Assumes nothing.
use mathlib.Core.Path.{◌≡◌, refl, sym, ◌∙◌, ap, ap₂}
use mathlib.Core.List.{[], ◌∷◌}
use Prim.Native.Nat.{ℕ, ◌-◌, ◌^◌, ◌<◌}
use native.Mathlib.Omega.{arith}
use Rattle.bits.specs.Bit.{bit, up_to, put}
use Rattle.tiles.specs.Tile.{Rule, transpose_rule, left_rule, right_rule, columns_rule, rows_rule, moved, after, TakesBack, Inverse}
use Rattle.tiles.proofs.Moves.{moved-after, moved_back}

-- the inverse of each rule

twice : (n : ℕ) → n < 8 → 7 - (7 - n) ≡ n
twice n h = omega arith

pub transpose-inverse : Inverse transpose_rule transpose_rule
transpose-inverse = (back, back)
  where
    back : TakesBack transpose_rule transpose_rule
    back r c hr hc = (hc, hr, refl)

pub columns-inverse : Inverse columns_rule columns_rule
columns-inverse = (back, back)
  where
    back : TakesBack columns_rule columns_rule
    back r c hr hc = (hr, omega arith, ap (λ (n : ℕ). (r, n)) (twice c hc))

pub rows-inverse : Inverse rows_rule rows_rule
rows-inverse = (back, back)
  where
    back : TakesBack rows_rule rows_rule
    back r c hr hc = (omega arith, hc, ap (λ (n : ℕ). (n, c)) (twice r hr))

pub left-inverse : Inverse left_rule right_rule
left-inverse = (right, left)
  where
    right : TakesBack right_rule left_rule
    right r c hr hc = (hc, omega arith, ap (λ (n : ℕ). (n, c)) (twice r hr))

    left : TakesBack left_rule right_rule
    left r c hr hc = (omega arith, hr, ap (λ (n : ℕ). (r, n)) (twice c hc))

pub right-inverse : Inverse right_rule left_rule
right-inverse = (left-inverse.1, left-inverse.0)

-- transpose, and then a mirror, is a turn

pub left_is : (x : ℕ) → moved left_rule x ≡ moved columns_rule (moved transpose_rule x)
left_is x = sym (moved-after transpose_rule transpose_rule columns_rule columns_rule transpose-inverse columns-inverse x)

pub right_is : (x : ℕ) → moved right_rule x ≡ moved rows_rule (moved transpose_rule x)
right_is x = sym (moved-after transpose_rule transpose_rule rows_rule rows_rule transpose-inverse rows-inverse x)

-- the same left turn, the mirror first
pub rows-then-transpose : (x : ℕ) → moved transpose_rule (moved rows_rule x) ≡ moved left_rule x
rows-then-transpose x = moved-after rows_rule rows_rule transpose_rule transpose_rule rows-inverse transpose-inverse x

-- two left turns
abbrev half_turn : Rule
half_turn = after left_rule left_rule

half-inverse : Inverse half_turn half_turn
half-inverse = (back, back)
  where
    back : TakesBack half_turn half_turn
    back r c hr hc = (omega arith, omega arith, ap₂ (λ (m n : ℕ). (m, n)) (twice r hr) (twice c hc))

two-lefts : (x : ℕ) → moved left_rule (moved left_rule x) ≡ moved half_turn x
two-lefts x = moved-after left_rule right_rule left_rule right_rule left-inverse left-inverse x

module _ {x : ℕ} (h : x < 2 ^ 64) where
  -- "four left turns must restore the tile"
  pub four-lefts : moved left_rule (moved left_rule (moved left_rule (moved left_rule x))) ≡ x
  four-lefts =
      two-lefts (moved left_rule (moved left_rule x)) ∙ ap (moved half_turn) (two-lefts x) ∙ moved_back half_turn half_turn half-inverse h

  pub right-undoes-left : moved right_rule (moved left_rule x) ≡ x
  right-undoes-left = moved_back left_rule right_rule left-inverse h

  pub left-undoes-right : moved left_rule (moved right_rule x) ≡ x
  left-undoes-right = moved_back right_rule left_rule right-inverse h

  pub transpose-twice : moved transpose_rule (moved transpose_rule x) ≡ x
  transpose-twice = moved_back transpose_rule transpose_rule transpose-inverse h

  pub columns-twice : moved columns_rule (moved columns_rule x) ≡ x
  columns-twice = moved_back columns_rule columns_rule columns-inverse h

  pub rows-twice : moved rows_rule (moved rows_rule x) ≡ x
  rows-twice = moved_back rows_rule rows_rule rows-inverse h

-- A letter, drawn by hand with row 0 on top and column 7 at the left, and as each movement leaves it:
--
--   given      transpose  left       right      columns    rows
--   .######.   ........   ........   ........   .######.   ........
--   .#......   .......#   #.......   .#######   ......#.   .#......
--   .#......   .......#   #.......   ....#..#   ......#.   .#......
--   .####...   ....#..#   #..#....   ....#..#   ...####.   .#......
--   .#......   ....#..#   #..#....   ....#..#   ......#.   .####...
--   .#......   ....#..#   #..#....   .......#   ......#.   .#......
--   .#......   .#######   #######.   .......#   ......#.   .#......
--   ........   ........   ........   ........   ........   .######.

abbrev letter : ℕ
letter = 0x004040407840407E

pub letter-moved :
    moved transpose_rule letter
    ∷ moved left_rule letter
    ∷ moved right_rule letter
    ∷ moved columns_rule letter
    ∷ moved rows_rule letter
    ∷ []
    ≡ 0x007F090909010100 ∷ 0x00FE909090808000 ∷ 0x0001010909097F00 ∷ 0x000202021E02027E ∷ 0x7E40407840404000 ∷ []
unfolding moved up_to put bit
letter-moved = refl
