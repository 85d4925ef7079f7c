-- Planes drawn by hand, and what the definitions make of them; refusals of lists and factors at their limits. Assumes nothing.
use mathlib.Core.Path.{◌≡◌, refl}
use mathlib.Core.List.{List, [], ◌∷◌}
use Prim.Native.Nat.{ℕ, ◌^◌}
use Rattle.bits.specs.Bit.{bit, of_bits, up_to, rank}
use Rattle.despeckle.specs.Plane.{pixel, bordered, window, around, lit_rule, new_word, despeckled}
use Rattle.despeckle.specs.Calls.{plane_refusal}

-- Row 0 has two pixels side by side across the edge of its words, and a lone one at its end. That is no neighbour of the one at the beginning of row 1, which is
-- lone too. Rows 1 and 2 have two that touch at a corner; row 2 has a lone one in its second word.
abbrev drawn : List ℕ
drawn =
    0x0000000000000001
    ∷ 0x8000000000000001
    ∷ 0x8000010000000000
    ∷ 0x0000000000000000
    ∷ 0x0000008000000000
    ∷ 0x0000000000000400
    ∷ []

pub drawn-plane : despeckled drawn 2 3
    ≡ 0x0000000000000001
    ∷ 0x8000000000000000
    ∷ 0x0000010000000000
    ∷ 0x0000000000000000
    ∷ 0x0000008000000000
    ∷ 0x0000000000000000
    ∷ []
unfolding up_to new_word lit_rule rank bit of_bits window bordered pixel
drawn-plane = refl

-- Three rows of one word, which begin with # . . and . # # and . # ., and of which the last ends with #. The rule does not see in which order the eight neighbours
-- stand in a number: these are the numbers, as read off the drawing, around the middle pixel, the first of the first row, the one below the middle, and the last.
abbrev cornered : List ℕ
cornered = 0x8000000000000000 ∷ 0x6000000000000000 ∷ 0x4000000000000001 ∷ []

pub drawn-numbers : (around cornered 1 3 1 1 ≡ 0b100011010) × (around cornered 1 3 0 0 ≡ 0b000010001) × (around cornered 1 3 2 1 ≡ 0b011010000)
    × (around cornered 1 3 2 63 ≡ 0b000010000)
unfolding window of_bits bordered pixel bit
drawn-numbers = (refl, refl, refl, refl)

-- Of lists of `own` and `other` words, h rows of v words: planes of 6 and of 2,048 words; a list of 2,049 words, whatever else applies; v×h words missing, by the
-- product of the numbers, also where both factors are 2^32; no rows or no words, whatever the other factor; a plane of another length.
pub drawn-refusals : (plane_refusal 6 3 2 6 ≡ 0)
    × (plane_refusal 2048 2048 1 2048 ≡ 0)
    × (plane_refusal 2049 0 1 0 ≡ 9)
    × (plane_refusal 6 3 2 2049 ≡ 9)
    × (plane_refusal 6 3 2 5 ≡ 10)
    × (plane_refusal 4 (2 ^ 32) (2 ^ 32) 4 ≡ 10)
    × (plane_refusal 0 0 (2 ^ 64) 0 ≡ 13)
    × (plane_refusal 6 6 0 6 ≡ 13)
    × (plane_refusal 5 3 2 6 ≡ 13)
unfolding plane_refusal
drawn-refusals = (refl, refl, refl, refl, refl, refl, refl, refl, refl)
