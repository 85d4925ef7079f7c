-- A run of the register unit, paper 01: a list of operations and a budget; paper 02, Req 09: the status bit that it sets; Req 10: a run that is spent waits, and
-- is continued. Assumes nothing.
use Rattle.std.specs.Prelude.{ℕ, suc, ◌+◌, ◌-◌, ◌*◌, ◌%◌, Bool, true, false, not, cond, ◌&&◌, ◌||◌, List, [], ◌∷◌, ◌++◌, eqb, leb, ltb, length, take, drop}
use Rattle.bits.specs.Refusal.{lowest}
use Rattle.unit.specs.declared.Registers.{Registers}
use Rattle.unit.specs.declared.Bank.{Bank}
use Rattle.unit.specs.Bank.{with_status, with_waiting, waits, with_registers, leaving}
use Rattle.unit.specs.Operation.{cycles_of, is_kind, used_of, are_registers, Operation, step_by}
use Rattle.runs.specs.declared.Turn.{Turn}
use Rattle.runs.specs.declared.Outcome.{Outcome}
use Rattle.runs.specs.declared.End.{End}
use Rattle.runs.specs.declared.End.TheVariants.{Refused, Done, Spent}
use Rattle.runs.specs.StatusByte.{with_bit}

-- the operations of a list: four bytes each
unfoldable pub operations_of : List ℕ → List Operation
operations_of [] = []
operations_of (kind ∷ []) = []
operations_of (kind ∷ r1 ∷ []) = []
operations_of (kind ∷ r1 ∷ r2 ∷ []) = []
operations_of (kind ∷ r1 ∷ r2 ∷ r3 ∷ bytes) = (kind, r1, r2, r3) ∷ operations_of bytes

-- the registers after operations, one after the other
unfoldable pub steps_of : Registers → List Operation → Registers
steps_of k [] = k
steps_of k (o ∷ os) = steps_of (step_by k o) os

-- "Cycles used are the sum of the table's figures for the operations run."
unfoldable pub sum_of : List Operation → ℕ
sum_of [] = 0
sum_of (o ∷ os) = cycles_of o.0 + sum_of os

-- "It goes on while the next operation's cycles fit in what is left": the number of operations run
unfoldable pub ran_of : ℕ → List Operation → ℕ
ran_of left [] = 0
ran_of left (o ∷ os) = cond (leb (cycles_of o.0) left) (suc (ran_of (left - cycles_of o.0) os)) 0

-- does an operation of the list have a kind, or a register, that is not there?
unfoldable pub any_kind : List Operation → Bool
any_kind [] = false
any_kind (o ∷ os) = not (is_kind o.0 o.1) || any_kind os

unfoldable pub any_register : List Operation → Bool
any_register [] = false
any_register (o ∷ os) = not (are_registers (used_of o.0 o.1 o.2 o.3)) || any_register os

-- 'Calls turned back': 7 and 8 of any operation of the list; of paper 02, Req 10, 14, where `other` says that it applies
abbrev pub operations_conditions : Bool → List Operation → List (ℕ × Bool)
operations_conditions other os = (7, any_kind os) ∷ (8, any_register os) ∷ (14, other) ∷ []

unfoldable pub operations_refusal : Bool → List Operation → ℕ
operations_refusal other os = lowest (operations_conditions other os)

-- before them 4, "run list not a multiple of 4 bytes, or above 4,096 bytes". The whole list is checked before its first operation.
abbrev pub run_conditions : Bool → List ℕ → List (ℕ × Bool)
run_conditions other bytes =
    (4, not (eqb (length bytes % 4) 0) || not (leb (length bytes) 4096)) ∷ operations_conditions other (operations_of bytes)

unfoldable pub run_refusal : Bool → List ℕ → ℕ
run_refusal other bytes = lowest (run_conditions other bytes)

-- Going on from the registers k within a budget: the operations run, the sum of their cycles, and the registers after them
abbrev pub reaching : Turn → Registers → Turn × Registers
reaching t k = (t, k)

abbrev pub turn_of : Registers → List Operation → ℕ → Turn × Registers
turn_of k os budget =
    let n = ran_of budget os in
    reaching (record { ran = n; cycles = sum_of (take n os) }) (steps_of k (take n os))

-- the numbers of how a run ended
abbrev pub end_number : End → ℕ
end_number Refused = 0
end_number Done = 1
end_number Spent = 2

-- "Spent means: an operation is left and does not fit": how a run ended, 1 done, 2 spent
abbrev pub end_of : ℕ → List Operation → ℕ
end_of ran os = cond (ltb ran (length os)) 2 1

-- "A run that ends done sets status bit 0, one that ends spent sets bit 1, and a refused run sets bit 2": the bit of each end, 1 done, 2 spent, else refused
abbrev pub status_bit : ℕ → ℕ
status_bit e = cond (eqb e 1) 0 (cond (eqb e 2) 1 2)

-- registers and a bank with the status bit of an end set
abbrev pub marked_by : Registers → ℕ → Registers
marked_by k e = with_status k (with_bit k.status (status_bit e))

abbrev pub noted : Bank → ℕ → Bank
noted k e = with_registers k (marked_by k.registers e)

-- Req 10: "The bank remembers that it waits and a copy of the operations left": their bytes, and then what stood in the list
abbrev pub remembering : Bank → List ℕ → Bank
remembering k rest = record { registers = with_waiting k.registers 1 (length rest); list = rest ++ drop (length rest) k.list }

-- "dropping is always allowed and changes only that the bank no longer waits"
abbrev pub drop_of : Registers → Registers
drop_of k = with_waiting k 0 k.left

abbrev pub drop_lent : Bank → Bank
drop_lent k = with_registers k (drop_of k.registers)

-- The end of a list of which n operations have been run, on the bank that they left: it waits for the others, or no longer, and its status has the end's bit.
abbrev pub ended_of : Bank → List ℕ → ℕ → Bank
ended_of k bytes n =
    noted (cond (ltb n (length (operations_of bytes))) (remembering k (drop (4 * n) bytes)) (drop_lent k)) (end_of n (operations_of bytes))

-- the answer and the bank of a list that has been gone on with so far, ended
abbrev pub outcome_of : Bank → List ℕ → Turn × Registers → Outcome × Bank
outcome_of k bytes t =
    let n = t.0.ran in
    leaving (record { refusal = 0; «end» = end_of n (operations_of bytes); ran = n; cycles = t.0.cycles }) (ended_of (with_registers k t.1) bytes n)

-- A run that is carried out: it goes on, and ends.
abbrev pub carried_out : Bank → List ℕ → ℕ → Outcome × Bank
carried_out k bytes budget = outcome_of k bytes (turn_of k.registers (operations_of bytes) budget)

-- Req 09: "A refused run thus touches status bit 2 and no other register"
abbrev pub refused_of : Bank → ℕ → Outcome × Bank
refused_of k r = leaving (record { refusal = r; «end» = 0; ran = 0; cycles = 0 }) (noted k 0)

-- a run whose list gets the refusal r, 0 if none; a run, new or continued
abbrev pub performed_by : ℕ → Bank → List ℕ → ℕ → Outcome × Bank
performed_by r k bytes budget = cond (eqb r 0) (carried_out k bytes budget) (refused_of k r)

unfoldable pub perform_of : Bool → Bank → List ℕ → ℕ → Outcome × Bank
perform_of other k bytes budget = performed_by (run_refusal other bytes) k bytes budget

-- A new run on the bank: 14, "another run waits"
abbrev pub run_of : Bank → List ℕ → ℕ → Outcome × Bank
run_of k bytes budget = perform_of (waits k.registers) k bytes budget

-- are two lists of bytes the same?
unfoldable pub same : List ℕ → List ℕ → Bool
same [] [] = true
same [] (y ∷ ys) = false
same (x ∷ xs) [] = false
same (x ∷ xs) (y ∷ ys) = eqb x y && same xs ys

-- "A continued list must equal the remembered remainder byte for byte": it has as many bytes as are left, and each is that of the bank's list. Where more are left
-- than that has, no list is the remainder.
abbrev pub is_remainder : ℕ → List ℕ → List ℕ → Bool
is_remainder left list bytes = eqb (length bytes) left && same (take left list) bytes

-- A run continued: 14, "none does, or the list is not the remainder"
abbrev pub continues : Bank → List ℕ → Bool
continues k bytes = waits k.registers && is_remainder k.registers.left k.list bytes

abbrev pub continue_of : Bank → List ℕ → ℕ → Outcome × Bank
continue_of k bytes budget = perform_of (not (continues k bytes)) k bytes budget
