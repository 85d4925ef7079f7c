-- A frame's turns counted before any channel runs, and its refusals, as inner functions do it. No call's contract cites this file. Assumes nothing.
use Rattle.std.specs.Prelude.{◌≡◌, ℕ, zero, suc, ◌+◌, ◌-◌, ◌%◌, ◌≤◌, Bool, cond, List, [], ◌∷◌, eqb, leb, ltb, get_or, take, drop, length, replicate, sum}
use Rattle.bits.specs.Bit.{up_to}
use Rattle.unit.specs.Bank.{fresh_bank}
use Rattle.unit.specs.Operation.{Operation}
use Rattle.runs.specs.declared.Turn.{Turn}
use Rattle.runs.specs.Run.{operations_of, sum_of, ran_of}
use Rattle.frame.specs.Frame.{brought_by, rest_of}

-- the bytes of whole operations, at most 1,024
abbrev pub Whole : List ℕ → Type 0
Whole bytes = (length bytes % 4 ≡ 0) × (length bytes ≤ 4096)

-- how far a budget goes, whatever the registers
abbrev pub counted_of : List Operation → ℕ → Turn
counted_of os budget = record { ran = ran_of budget os; cycles = sum_of (take (ran_of budget os) os) }

-- what a channel leaves of what it is offered: it runs on from the operation at `ran`
abbrev pub rest_after : List ℕ → ℕ → ℕ → ℕ
rest_after bytes ran offered = offered - (counted_of (drop ran (operations_of bytes)) offered).cycles

-- the turn of channel n among four; within its guarantee, from the lists and guarantees
abbrev pub turn_at : List Turn → ℕ → Turn
turn_at ts n = get_or ts n (record { ran = 0; cycles = 0 })

abbrev pub first_of : List (List ℕ) → List ℕ → ℕ → Turn
first_of ls gs n = counted_of (operations_of (get_or ls n [])) (get_or gs n 0)

-- what turns left of their guarantees, in one sum
abbrev pub unused_of : List Turn → List ℕ → ℕ
unused_of [] gs = 0
unused_of (t ∷ ts) [] = 0
unused_of (t ∷ ts) (g ∷ gs) = (g - t.cycles) + unused_of ts gs

-- what is left of the rest before channel n
unfoldable pub offered_to : List (List ℕ) → List Turn → ℕ → ℕ → ℕ
offered_to ls ts rest zero = rest
offered_to ls ts rest (suc n) = rest_after (get_or ls n []) (turn_at ts n).ran (offered_to ls ts rest n)

-- the budget of both turns of channel n in one: what its first turn used, and what it is offered
abbrev pub budget_of : List (List ℕ) → List Turn → ℕ → ℕ → ℕ
budget_of ls ts rest n = (turn_at ts n).cycles + offered_to ls ts rest n

-- of four channels, from their lists and guarantees
abbrev pub budgets_by : List (List ℕ) → List ℕ → List ℕ
budgets_by ls gs =
    up_to 4 (budget_of ls (first_of ls gs 0 ∷ first_of ls gs 1 ∷ first_of ls gs 2 ∷ first_of ls gs 3 ∷ []) (rest_of (brought_by (replicate 4 fresh_bank) ls gs)))

-- the lower of two refusals, of which 0 is none
abbrev pub lower_of : ℕ → ℕ → ℕ
lower_of r s = cond (eqb r 0) s (cond (eqb s 0) r (cond (leb r s) r s))

-- the condition of the guarantees' sum
abbrev pub sum_conditions : List ℕ → ℕ → List (ℕ × Bool)
sum_conditions gs cycles = (15, ltb cycles (sum gs)) ∷ []
