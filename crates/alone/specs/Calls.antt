-- What a call on one network alone answers, of the inverse (rising) and of the butterfly.
-- Assumes nothing.
use Rattle.std.specs.Prelude.{◌≡◌, Bool, cond, List, ℕ, Option, Some, None}
use Rattle.network.specs.Calls.{six}
use Rattle.routing.specs.Lists.{butterfly_fits, butterfly_alone, inverse_fits, inverse_alone}

abbrev pub fits_alone : Bool → ℕ → List ℕ → Bool
fits_alone rising n entries = cond rising (inverse_fits n entries) (butterfly_fits n entries)

abbrev pub alone : Bool → ℕ → List ℕ → List ℕ
alone rising n entries = cond rising (inverse_alone n entries) (butterfly_alone n entries)

-- the whole answer: the stages if the network realises the permutation, else none
abbrev pub Answers : Bool → List ℕ → Option (List ℕ) → Type 0
Answers realised stages r = r ≡ cond realised (Some (six stages)) None
