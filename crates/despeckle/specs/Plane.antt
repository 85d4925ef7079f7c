-- Planes of pixels, of paper 02, Req 06 (a "dot" is a pixel here, a lit one is 1, a dark one 0). Assumes nothing.
use Rattle.std.specs.Prelude.{ℕ, zero, suc, ◌+◌, ◌-◌, ◌*◌, ◌/◌, ◌%◌, cond, ◌&&◌, List, eqb, ltb, get_or}
use Rattle.bits.specs.Bit.{bit, of_bits, up_to, rank}

-- "A plane is h rows of v words, the top row first, each row's leftmost dot in the highest line of its first word; dots outside the plane are dark": the pixel
-- of row y and column x of the plane whose words are ws, both from 0, columns from the left
unfoldable pub pixel : List ℕ → ℕ → ℕ → ℕ → ℕ → ℕ
pixel ws v h y x = cond (ltb y h && ltb x (64 * v)) (bit (get_or ws (y * v + x / 64) 0) (63 - x % 64)) 0

-- the same with rows and columns counted from 1: so those just outside the first have a number too, 0
unfoldable pub bordered : List ℕ → ℕ → ℕ → ℕ → ℕ → ℕ
bordered ws v h zero x = 0
bordered ws v h (suc y) zero = 0
bordered ws v h (suc y) (suc x) = pixel ws v h y x

-- the number of the three by three pixels of g from row y and column x on: "The row above fills bits 8 to 6 from the left, the own row 5 to 3, the row below 2 to 0"
unfoldable pub window : (ℕ → ℕ → ℕ) → ℕ → ℕ → ℕ
window g y x = of_bits 9 (λ i. g (y + 2 - i / 3) (x + 2 - i % 3))

-- "Each dot's three by three surroundings make a number from 0 to 511": row y - 1 is row y in the bordered plane
abbrev pub around : List ℕ → ℕ → ℕ → ℕ → ℕ → ℕ
around ws v h y x = window (bordered ws v h) y x

-- "the new dot is lit exactly if bit 4 and at least one other bit are one": bit 4, and of the nine more than one
unfoldable pub lit_rule : ℕ → ℕ
lit_rule n = cond (eqb (bit n 4) 1 && ltb 1 (rank n 9)) 1 0

-- "The output must equal that rule at every dot, edges included": word k of the new plane is word k % v of row k / v, its leftmost pixel in bit 63
unfoldable pub new_word : List ℕ → ℕ → ℕ → ℕ → ℕ
new_word ws v h k = of_bits 64 (λ i. lit_rule (around ws v h (k / v) (64 * (k % v) + (63 - i))))

-- the words of the new plane
abbrev pub despeckled : List ℕ → ℕ → ℕ → List ℕ
despeckled ws v h = up_to (v * h) (new_word ws v h)
