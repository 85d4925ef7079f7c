-- Subwords of paper 02, Req 05, and the operations on them of source document 002, Tables 1 and 2. A word has 64 / z subwords of z bits, counted here from 0
-- at the left: "Letter a of that paper's tables is the leftmost subword." Assumes nothing.
use Rattle.std.specs.Prelude.{ℕ, zero, suc, ◌+◌, ◌-◌, ◌*◌, ◌/◌, ◌%◌, ◌^◌, Bool, false, not, cond, ◌||◌, List, [], ◌∷◌, eqb}
use Rattle.bits.specs.Refusal.{lowest}
use Rattle.network.specs.declared.Carried.{Carried}

-- subword number i of the word x, from the left
unfoldable pub subword : ℕ → ℕ → ℕ → ℕ
subword z x i = x / 2 ^ (64 - (i + 1) * z) % 2 ^ z

-- the word of n subwords that are f 0, .., f (n - 1) from the left
unfoldable pub from_left : ℕ → ℕ → (ℕ → ℕ) → ℕ
from_left z zero f = zero
from_left z (suc n) f = from_left z n f * 2 ^ z + f n

-- the word whose subwords from the left are by turns left 0, right 1, left 2, right 3, ..: those of even number are the left ones of their pairs
unfoldable pub woven : ℕ → (ℕ → ℕ) → (ℕ → ℕ) → ℕ
woven z left right = from_left z (64 / z) (λ i. cond (eqb (i % 2) 0) (left i) (right i))

-- check, "R3 = a B c D e F g H": "it selects alternately from the corresponding subwords in the two source registers"
unfoldable pub check_of : ℕ → ℕ → ℕ → ℕ
check_of z x y = woven z (λ i. subword z x i) (λ i. subword z y i)

-- exchange, "R3 = b a d c f e h g": "it swaps adjacent subwords in each pair of consecutive subwords"
unfoldable pub exchange_pairs_of : ℕ → ℕ → ℕ
exchange_pairs_of z x = woven z (λ i. subword z x (i + 1)) (λ i. subword z x (i - 1))

-- excheck, "R3 = B a D c F e H g"
unfoldable pub excheck_of : ℕ → ℕ → ℕ → ℕ
excheck_of z x y = woven z (λ i. subword z y (i + 1)) (λ i. subword z x (i - 1))

-- mix_l, "R3 = a A c C e E g G": "interleave the corresponding 'even' elements from the two source registers, starting from the leftmost elements in
-- each register"
unfoldable pub mix_left_of : ℕ → ℕ → ℕ → ℕ
mix_left_of z x y = woven z (λ i. subword z x i) (λ i. subword z y (i - 1))

-- mix_r, "R3 = b B d D f F h H": "interleave the corresponding 'odd' elements from the two source registers, ending with the rightmost elements in each
-- register"
unfoldable pub mix_right_of : ℕ → ℕ → ℕ → ℕ
mix_right_of z x y = woven z (λ i. subword z x (i + 1)) (λ i. subword z y i)

-- "Their subword sizes are 1, 2, 4, 8, 16 and 32 bits"
abbrev pub sizes : List ℕ
sizes = 1 ∷ 2 ∷ 4 ∷ 8 ∷ 16 ∷ 32 ∷ []

abbrev pub among : List ℕ → ℕ → Bool
among [] z = false
among (s ∷ ss) z = eqb z s || among ss z

abbrev pub is_size : ℕ → Bool
is_size z = among sizes z

-- "12, another subword size"
abbrev pub size_conditions : ℕ → List (ℕ × Bool)
size_conditions z = (12, not (is_size z)) ∷ []

unfoldable pub size_refusal : ℕ → ℕ
size_refusal z = lowest (size_conditions z)

-- the whole answer of a call on subwords of size z that is carried out with the word x
unfoldable pub subword_answer : ℕ → ℕ → Carried
subword_answer z x = cond (eqb (size_refusal z) 0) (record { refusal = 0; word = x }) (record { refusal = size_refusal z; word = 0 })
