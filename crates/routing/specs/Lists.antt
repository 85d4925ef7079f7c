-- Permutations as lists and stages as words, as the paper writes them.
-- Assumes nothing.
use Rattle.std.specs.Prelude.{◌≡◌, Bool, cond, List, [], ◌∷◌, ℕ, zero, suc, ◌+◌, ◌-◌, ◌/◌, ◌%◌, ◌^◌, ◌<◌, eqb, length, get_or}
use Rattle.routing.specs.FirstControls.{first_controls}
use Rattle.routing.specs.Alone.{butterfly_controls, inverse_controls, butterfly_test, inverse_test}
use Rattle.routing.specs.Stages.{Butterfly, Inverse, StageControls}

-- where x stands in a list
unfoldable pub find : ℕ → List ℕ → ℕ
find x [] = 0
find x (y ∷ ys) = let i = find x ys in cond (eqb x y) 0 (suc i)

-- entry p of a permutation names the bit that place p takes
abbrev pub entry : List ℕ → ℕ → ℕ
entry entries p = get_or entries p 0

-- a permutation of w places names every one of them once
pub record ListPermutes (w : ℕ) (entries : List ℕ) : Type 0 where
  pub long : length entries ≡ w
  pub small : (p : ℕ) → p < w → entry entries p < w
  pub once : (p q : ℕ) → p < w → q < w → entry entries p ≡ entry entries q → p ≡ q

unfoldable pub controls_of : ℕ → List ℕ → StageControls
controls_of n entries = first_controls n (entry entries) (λ x. find x entries)

-- a stage as a word: bit s is one where switch s passes
unfoldable pub word_of : ℕ → (ℕ → Bool) → ℕ
word_of zero c = 0
word_of (suc k) c = word_of k c + cond (c k) 0 (2 ^ k)

unfoldable pub control_in : ℕ → ℕ → Bool
control_in word s = eqb (word / 2 ^ s % 2) 0

-- The stages of one network in the direction of travel, of w switches each: the butterfly's from exponent k - 1 down,
-- the inverse's k stages from exponent e up.
unfoldable pub butterfly_words : (w k : ℕ) → (ℕ → ℕ → Bool) → List ℕ
butterfly_words w zero c = []
butterfly_words w (suc e) c = word_of w (c e) ∷ butterfly_words w e c

unfoldable pub inverse_words : (w e k : ℕ) → (ℕ → ℕ → Bool) → List ℕ
inverse_words w e zero c = []
inverse_words w e (suc k) c = word_of w (c e) ∷ inverse_words w (suc e) k c

-- the controls that such stages stand for
unfoldable pub butterfly_from : ℕ → List ℕ → ℕ → ℕ → Bool
butterfly_from n words e = control_in (get_or words (n - suc e) 0)

unfoldable pub inverse_from : List ℕ → ℕ → ℕ → Bool
inverse_from words e = control_in (get_or words e 0)

-- controls of both networks
pub record Words : Type 0 where
  pub butterfly : List ℕ
  pub inverse : List ℕ

unfoldable pub words_of : ℕ → StageControls → Words
words_of n C =
    record {
      butterfly = butterfly_words (2 ^ n / 2) n (λ e. C (Butterfly e));
      inverse = inverse_words (2 ^ n / 2) 0 n (λ e. C (Inverse e));
    }

abbrev pub from_words : ℕ → Words → StageControls
from_words n w (Butterfly e) = butterfly_from n w.butterfly e
from_words n w (Inverse e) = inverse_from w.inverse e

-- the first controls for a permutation
unfoldable pub first_words : ℕ → List ℕ → Words
first_words n entries = words_of n (controls_of n entries)

-- does one network alone realise the permutation, and by which stages?
unfoldable pub butterfly_fits : ℕ → List ℕ → Bool
butterfly_fits n entries = butterfly_test n (entry entries) (λ x. find x entries)

unfoldable pub inverse_fits : ℕ → List ℕ → Bool
inverse_fits n entries = inverse_test n (entry entries) (λ x. find x entries)

unfoldable pub butterfly_alone : ℕ → List ℕ → List ℕ
butterfly_alone n entries = butterfly_words (2 ^ n / 2) n (butterfly_controls n (entry entries) (λ x. find x entries))

unfoldable pub inverse_alone : ℕ → List ℕ → List ℕ
inverse_alone n entries = inverse_words (2 ^ n / 2) 0 n (inverse_controls n (entry entries) (λ x. find x entries))
