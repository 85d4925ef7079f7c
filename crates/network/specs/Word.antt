-- The word forms of a stage, which the code computes: control bits spread to the lower places of its pairs, and pairs exchanged all at once.
-- Of the calls, only a prepared network cites them; `butterfly-prepared-same`, `butterfly-prepared-below` and the two of the inverse say that it is the
-- network. Assumes nothing.
use Rattle.std.specs.Prelude.{ℕ, ◌-◌, ◌*◌, ◌/◌, ◌%◌, ◌^◌, Bool, cond, List, [], ◌∷◌, ◌++◌, reverse, eqb, take, replicate}
use Rattle.std.specs.Int.Bits.{bit_and, bit_xor}
use Rattle.bits.specs.Bit.{bit, of_bits}
use Rattle.network.specs.Stage.{switch_of, travel, falling, rising}

-- the word of 64 bits that is f p at the lower place p of each pair at distance d, and zero at the upper ones
unfoldable pub at_lower : ℕ → (ℕ → ℕ) → ℕ
at_lower d f = of_bits 64 (λ p. cond (eqb (p / d % 2) 0) (f p) 0)

-- every lower place marked
abbrev pub pairs : ℕ → ℕ
pairs d = at_lower d (λ p. 1)

-- the control bits c at the lower places of their switches
unfoldable pub spread_of : ℕ → ℕ → ℕ
spread_of d c = at_lower d (λ p. bit c (switch_of d p))

-- the lower places of the pairs that swap
unfoldable pub swaps_of : ℕ → ℕ → ℕ
swaps_of d c = bit_and (pairs d) ((2 ^ 64 - 1) - spread_of d c)

-- each pair whose lower place is marked in s exchanged, where s marks no upper place
unfoldable pub exchange_of : ℕ → ℕ → ℕ → ℕ
exchange_of d s x = let t = bit_and (bit_xor x (x / 2 ^ d)) s in bit_xor (bit_xor x t) (t * 2 ^ d % 2 ^ 64)

-- stage after stage
unfoldable pub exchanges_of : List ℕ → List ℕ → ℕ → ℕ
exchanges_of [] ss x = x
exchanges_of (d ∷ ds) [] x = x
exchanges_of (d ∷ ds) (s ∷ ss) x = exchanges_of ds ss (exchange_of d s x)

-- the swaps of each stage
abbrev pub swaps_at : List ℕ → List ℕ → List ℕ
swaps_at [] cs = []
swaps_at (d ∷ ds) [] = []
swaps_at (d ∷ ds) (c ∷ cs) = swaps_of d c ∷ swaps_at ds cs

-- a stage that passes every bit
abbrev pub all_pass : ℕ
all_pass = 2 ^ 32 - 1

-- the L stages in use of the inverse (true) or of the butterfly at their places in the table of six distances, widest first; the wider ones pass every bit
abbrev pub by_index : Bool → ℕ → List ℕ → List ℕ
by_index b L cs = replicate (6 - L) all_pass ++ cond b (reverse (take L cs)) (take L cs)

-- the swaps of the inverse (true) or of the butterfly, from the widest of six stages
abbrev pub prepared_of : Bool → ℕ → List ℕ → List ℕ
prepared_of b L cs = swaps_at (falling 6) (by_index b L cs)

-- the distances of the inverse (true) or of the butterfly
abbrev pub distances : Bool → ℕ → List ℕ
distances b L = cond b (rising L) (falling L)

-- the exchanges of a prepared inverse (true), from the narrowest stage, or of a prepared butterfly, from the widest
abbrev pub exchanges : Bool → List ℕ → ℕ → ℕ
exchanges b ss x = exchanges_of (distances b 6) (cond b (reverse ss) ss) x

-- through the inverse (true) or the butterfly
unfoldable pub travel_of : Bool → ℕ → List ℕ → ℕ → ℕ
travel_of b L cs x = travel (2 ^ L) (distances b L) cs x
