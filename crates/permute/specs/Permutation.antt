-- Permutations of the bits of a word (paper 01: orders), and what it means that controls realise one. Assumes nothing.
use Rattle.std.specs.Prelude.{◌≡◌, Bool, true, not, ◌&&◌, List, [], ◌∷◌, ℕ, ◌^◌, ◌<◌, eqb, ltb}
use Rattle.bits.specs.Bit.{pick}
use Rattle.network.specs.Stage.{butterfly_of, inverse_of}
use Rattle.routing.specs.Lists.{Words}

-- "An order has w entries. Entry p names the line of the word that result line p takes": the permuted word is `pick` of the entries.

-- x is not among the entries
unfoldable pub absent : ℕ → List ℕ → Bool
absent x [] = true
absent x (y ∷ ys) = not (eqb x y) && absent x ys

-- every entry is below w, and none is repeated; else 5, "order entry w or above, or repeated"
unfoldable pub names_once : ℕ → List ℕ → Bool
names_once w [] = true
names_once w (x ∷ xs) = ltb x w && absent x xs && names_once w xs

-- "settings for butterfly then inverse that bring every line of every word to its place"
abbrev pub Realises : ℕ → Words → List ℕ → Type 0
Realises L k entries = (x : ℕ) → x < 2 ^ 2 ^ L → inverse_of L k.inverse (butterfly_of L k.butterfly x) ≡ pick entries x

-- the same of one network f alone (butterfly_of or inverse_of)
abbrev pub RealisesAlone : (ℕ → List ℕ → ℕ → ℕ) → ℕ → List ℕ → List ℕ → Type 0
RealisesAlone f L cs entries = (x : ℕ) → x < 2 ^ 2 ^ L → f L cs x ≡ pick entries x
