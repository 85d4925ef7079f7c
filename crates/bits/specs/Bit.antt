-- Words as their bits. A word is a natural number; a bit (paper 01: "line") is a digit, 0 or 1, counted from 0 at the right.
-- Assumes nothing.
use Rattle.std.specs.Prelude.{ℕ, zero, suc, ◌+◌, ◌*◌, ◌/◌, ◌%◌, ◌^◌, List, [], ◌∷◌, ◌++◌, cond, eqb, length, get_or, drop}

-- bit i of the word x
unfoldable pub bit : ℕ → ℕ → ℕ
bit x i = x / 2 ^ i % 2

-- byte t of the word x
abbrev pub byte_at : ℕ → ℕ → ℕ
byte_at x t = x / 2 ^ (8 * t) % 2 ^ 8

-- the word of w bits whose bit i is f i
unfoldable pub of_bits : ℕ → (ℕ → ℕ) → ℕ
of_bits zero f = zero
of_bits (suc w) f = of_bits w (λ i. f (suc i)) * 2 + f zero % 2

-- f 0, f 1, .., f (n - 1)
unfoldable pub up_to : ℕ → (ℕ → ℕ) → List ℕ
up_to zero f = []
up_to (suc n) f = up_to n f ++ (f n ∷ [])

-- the words `old` with the first j replaced by f 0, .., f (j - 1)
abbrev pub overwritten : ℕ → (ℕ → ℕ) → List ℕ → List ℕ
overwritten j f old = up_to j f ++ drop j old

-- the number of ones of m in the places below p; rank m w is the count of a mask of width w
unfoldable pub rank : ℕ → ℕ → ℕ
rank m zero = zero
rank m (suc p) = rank m p + bit m p

-- "notes for every line how many ones lie below it" (paper 02, Req 04): for each of 64 bits, on top of the number to start from
unfoldable pub counts_below : ℕ → ℕ → List ℕ
counts_below m start = up_to 64 (λ p. start + rank m p)

-- the places below w, from the right, where the bit of m is v
unfoldable pub places : ℕ → ℕ → ℕ → List ℕ
places v m zero = []
places v m (suc w) = places v m w ++ cond (eqb (bit m w) v) (w ∷ []) []

-- "the marked lines, from the right, are m0, m1, .."
abbrev pub marked : ℕ → ℕ → List ℕ
marked m w = places 1 m w

abbrev pub unmarked : ℕ → ℕ → List ℕ
unmarked m w = places 0 m w

-- the word whose bit i is the bit of x at place number i of the list; zeros from the list's length up
unfoldable pub pick : List ℕ → ℕ → ℕ
pick ps x = of_bits (length ps) (λ i. bit x (get_or ps i 0))

-- the word whose bit at place number i of the list is bit i of x; zeros at the places not listed
unfoldable pub put : List ℕ → ℕ → ℕ
put [] x = zero
put (p ∷ ps) x = bit x 0 * 2 ^ p + put ps (x / 2)
