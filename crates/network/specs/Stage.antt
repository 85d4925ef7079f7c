-- Stages and both networks of paper 01, 'Columns' (its column is a stage here, its settings are controls). Assumes nothing.
use Rattle.std.specs.Prelude.{ℕ, zero, suc, ◌+◌, ◌-◌, ◌*◌, ◌/◌, ◌%◌, ◌^◌, cond, List, [], ◌∷◌, ◌++◌, eqb}
use Rattle.bits.specs.Bit.{bit, of_bits}

-- "At distance d, switch j×d + t (t below d) joins lines 2×j×d + t and 2×j×d + t + d": the switch of place p
unfoldable pub switch_of : ℕ → ℕ → ℕ
switch_of d p = p / d / 2 * d + p % d

-- the other place of that switch
unfoldable pub partner : ℕ → ℕ → ℕ
partner d p = cond (eqb (p / d % 2) 0) (p + d) (p - d)

-- the place whose bit comes to place p: "One means pass, zero means swap"
unfoldable pub source : ℕ → ℕ → ℕ → ℕ
source d c p = cond (eqb (bit c (switch_of d p)) 1) p (partner d p)

-- a word of width w through a stage of distance d with control bits c
unfoldable pub stage : ℕ → ℕ → ℕ → ℕ → ℕ
stage w d c x = of_bits w (λ p. bit x (source d c p))

-- through stages one after the other: their distances, and their controls in the direction of travel
unfoldable pub travel : ℕ → List ℕ → List ℕ → ℕ → ℕ
travel w [] cs x = x
travel w (d ∷ ds) [] x = x
travel w (d ∷ ds) (c ∷ cs) x = travel w ds cs (stage w d c x)

-- "The butterfly has L columns. Column i (from 1) joins lines w/2^i apart"
unfoldable pub falling : ℕ → List ℕ
falling zero = []
falling (suc n) = 2 ^ n ∷ falling n

-- "The inverse has distances 1, 2, 4, .. up to w/2."
unfoldable pub rising : ℕ → List ℕ
rising zero = []
rising (suc n) = rising n ++ (2 ^ n ∷ [])

unfoldable pub butterfly_of : ℕ → List ℕ → ℕ → ℕ
butterfly_of L cs x = travel (2 ^ L) (falling L) cs x

unfoldable pub inverse_of : ℕ → List ℕ → ℕ → ℕ
inverse_of L cs x = travel (2 ^ L) (rising L) cs x

-- "A fresh unit's kind 1 reverses the word": the word of width w whose bit i is bit w - 1 - i of x
unfoldable pub reversed_word : ℕ → ℕ → ℕ
reversed_word w x = of_bits w (λ i. bit x (w - 1 - i))
