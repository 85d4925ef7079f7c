-- Accepted widths, and the refusal numbers of paper 01, 'Calls turned back'. Assumes nothing.
use Rattle.std.specs.Prelude.{◌≡◌, ◌⊎◌, ℕ, ◌^◌, ◌<◌, ◌≤◌, Bool, not, cond, List, [], ◌∷◌, T, eqb, ltb, Result, Ok, Err}
use Rattle.bits.specs.declared.Refusal.{Refusal}
use Rattle.bits.specs.declared.Refusal.TheVariants.{Width, Above, Unused, Length, Entry, NotRealised, Kind, Register, Range, Short, Spare, Subword, Plane, Waiting, Frame}

-- the numbers of 'Calls turned back'
abbrev pub number_of : Refusal → ℕ
number_of Width = 1
number_of Above = 2
number_of Unused = 3
number_of Length = 4
number_of Entry = 5
number_of NotRealised = 6
number_of Kind = 7
number_of Register = 8
number_of Range = 9
number_of Short = 10
number_of Spare = 11
number_of Subword = 12
number_of Plane = 13
number_of Waiting = 14
number_of Frame = 15

-- the refusal number of a call, 0 if it is carried out
abbrev pub number_in : Result Unit Refusal → ℕ
number_in (Ok _) = 0
number_in (Err refusal) = number_of refusal

-- The base-two logarithms of the widths up to 64 ("A width w is 8, 16, 32 or 64, and L is its base-two logarithm, 3 to 6")
abbrev pub logs_to_64 : List ℕ
logs_to_64 = 3 ∷ 4 ∷ 5 ∷ 6 ∷ []

-- and of the accepted widths. What stays at these four cites the list above.
abbrev pub logs : List ℕ
logs = logs_to_64

-- the logarithm of the width w among those listed, 0 if there is none
abbrev pub log_in : List ℕ → ℕ → ℕ
log_in [] w = 0
log_in (l ∷ ls) w = cond (eqb w (2 ^ l)) l (log_in ls w)

abbrev pub log_of : ℕ → ℕ
log_of w = log_in logs w

abbrev pub log_to_64 : ℕ → ℕ
log_to_64 w = log_in logs_to_64 w

-- is w one of the widths listed, by their logarithms? one of those accepted? of those up to 64?
abbrev pub is_in : List ℕ → ℕ → Bool
is_in ls w = not (eqb (log_in ls w) 0)

abbrev pub accepted : ℕ → Bool
accepted w = is_in logs w

abbrev pub accepted_to_64 : ℕ → Bool
accepted_to_64 w = is_in logs_to_64 w

-- no one at bit w or above
abbrev pub fits : ℕ → ℕ → Bool
fits w x = ltb x (2 ^ w)

-- The lowest number of a rising list of conditions that applies, 0 if none does: demand 1, for every call of the unit.
-- An entry is a refusal number and whether its condition holds of the call.
abbrev pub lowest : List (ℕ × Bool) → ℕ
lowest [] = 0
lowest (c ∷ cs) = cond c.1 c.0 (lowest cs)

-- what a call with refusal n leaves in the words lent to it: what stood there if it is refused
unfoldable pub left_of : ℕ → List ℕ → List ℕ → List ℕ
left_of n done out = cond (eqb n 0) done out

-- What demand 1 says of `lowest`: number n is in the list and its condition holds
abbrev pub Applies : ℕ → List (ℕ × Bool) → Type 0
Applies n [] = ⊥
Applies n (c ∷ cs) = ((c.0 ≡ n) × T c.1) ⊎ Applies n cs

-- the numbers of the list rise from above b
abbrev pub Rising : ℕ → List (ℕ × Bool) → Type 0
Rising b [] = Unit
Rising b (c ∷ cs) = (b < c.0) × Rising c.0 cs

-- r is 0 and nothing applies, or r applies and nothing lower does
abbrev pub IsLowest : List (ℕ × Bool) → ℕ → Type 0
IsLowest cs r = ((r ≡ 0) × ((n : ℕ) → Applies n cs → ⊥)) ⊎ (Applies r cs × ((n : ℕ) → Applies n cs → r ≤ n))

-- Demand 1, of the answer of a call with conditions cs: "it gets the lowest refusal number that applies, zeros for the rest, and every lent buffer and register
-- stays untouched". `number` reads the refusal of an answer; `refused n` is the answer with number n, zeros beside it and everything lent as it was.
pub record AnswersLowest {A : Type 0} (cs : List (ℕ × Bool)) (number : A → ℕ) (refused : ℕ → A) (answer : A) : Type 0 where
  pub least : IsLowest cs (number answer)
  pub zeros : (number answer ≡ 0 → ⊥) → answer ≡ refused (number answer)
