-- Req 10: a run with all that continues it, and the list of steps that it comes to. Assumes nothing.
use Rattle.std.specs.Prelude.{◌≡◌, ℕ, ◌+◌, ◌≤◌, false, not, List, [], ◌∷◌, ◌++◌, map, length, take, drop}
use Rattle.unit.specs.declared.Registers.{Registers}
use Rattle.unit.specs.declared.Bank.{Bank}
use Rattle.unit.specs.Bank.{waits, leaving}
use Rattle.unit.specs.Lent.{bare}
use Rattle.unit.specs.Operation.{Operation, step_by}
use Rattle.unit.specs.Calls.{write_of, write_lent}
use Rattle.runs.specs.declared.Turn.{Turn}
use Rattle.runs.specs.declared.Outcome.{Outcome}
use Rattle.runs.specs.Run.{sum_of, ran_of, run_refusal, continues, continue_of}
use Rattle.frame.specs.Frame.{frame_refusal}
use Rattle.histories.specs.BankCalls.{BankCall, call_look, call_operate, call_run, call_continue, call_drop, call_frame, call_write, call_enable, call_acknowledge}

-- the bytes that a bank remembers
abbrev pub remainder_of : Bank → List ℕ
remainder_of k = take k.registers.left k.list

-- "While it waits, the host may write a general register": writes before a continuation, each a register's number and a value, and its fresh budget
pub record Continuation : Type 0 where
  pub writes : List (ℕ × ℕ)
  pub budget : ℕ

unfoldable pub writes_lent : Bank → List (ℕ × ℕ) → Bank
writes_lent k [] = k
writes_lent k (w ∷ ws) = writes_lent (write_lent k w.0 w.1).1 ws

-- "to continue, the host lends those again"
abbrev pub continued_by : Bank → Continuation → Outcome × Bank
continued_by k c =
    let j = writes_lent k c.writes in
    continue_of j (remainder_of j) c.budget

-- what a run has answered and left, and its continuations: the operations run in all, their cycles, and the bank in the end
unfoldable pub continued_of : Outcome × Bank → List Continuation → Turn × Bank
continued_of r [] = leaving (record { ran = r.0.ran; cycles = r.0.cycles }) r.1
continued_of r (c ∷ cs) =
    let t = continued_of (continued_by r.1 c) cs in
    leaving (record { ran = r.0.ran + t.0.ran; cycles = r.0.cycles + t.0.cycles }) t.1

-- continuations with no writes
abbrev pub budgets_alone : List ℕ → List Continuation
budgets_alone bs = map (λ b. record { writes = []; budget = b }) bs

-- "just as if the write stood in the list at that point": a list of steps, operations and writes
pub data Step : Type 0 where
  operating : (o : Operation) → Step
  writing : (number value : ℕ) → Step

abbrev pub stepped : Registers → Step → Registers
stepped k (operating o) = step_by k o
stepped k (writing n v) = (write_of k n v).registers

-- the registers after steps, one after the other
unfoldable pub through_of : Registers → List Step → Registers
through_of k [] = k
through_of k (s ∷ ss) = through_of (stepped k s) ss

-- their operations alone
unfoldable pub operations_in : List Step → List Operation
operations_in [] = []
operations_in (operating o ∷ ss) = o ∷ operations_in ss
operations_in (writing n v ∷ ss) = operations_in ss

abbrev pub as_writing : ℕ × ℕ → Step
as_writing w = writing w.0 w.1

-- The operations of a run with `budget` and its continuations, as far as they come, with each continuation's writes standing where the one before it stopped
unfoldable pub standing : List Operation → ℕ → List Continuation → List Step
standing os budget [] = map operating (take (ran_of budget os) os)
standing os budget (c ∷ cs) =
    let n = ran_of budget os in
    map operating (take n os) ++ (map as_writing c.writes ++ standing (drop n os) c.budget cs)

-- A run of os from the registers k and its continuations come to the steps ss: "Without such writes, continuing until done leaves the general and settings
-- registers that one run with an ample budget leaves", and with them those that the steps leave. The operations are the first of the list, all of it once the bank
-- no longer waits; the cycles are theirs.
pub record Comes (k : Registers) (os : List Operation) (ss : List Step) (t : Turn × Bank) : Type 0 where
  pub words : bare t.1.registers ≡ bare (through_of k ss)
  pub within : t.0.ran ≤ length os
  pub ran : operations_in ss ≡ take t.0.ran os
  pub cycles : t.0.cycles ≡ sum_of (operations_in ss)
  pub all : waits t.1.registers ≡ false → t.0.ran ≡ length os

-- budgets of at least three cycles, in which any operation fits
abbrev pub AtLeastThree : List Continuation → Type 0
AtLeastThree [] = Unit
AtLeastThree (c ∷ cs) = (3 ≤ c.budget) × AtLeastThree cs

-- the calls that can end the waiting: a run continued or a frame that is not refused, and dropping
abbrev pub Ending : Bank → BankCall → Type 0
Ending k call_look = ⊥
Ending k (call_operate kind r1 r2 r3) = ⊥
Ending k (call_run bytes budget) = ⊥
Ending k (call_continue bytes budget) = run_refusal (not (continues k bytes)) bytes ≡ 0
Ending k call_drop = Unit
Ending k (call_frame before after bytes guarantee cycles) = frame_refusal (before ++ (record { bank = k; bytes = bytes; guarantee = guarantee } ∷ after)) cycles ≡ 0
Ending k (call_write n v) = ⊥
Ending k (call_enable e) = ⊥
Ending k (call_acknowledge m) = ⊥

-- both banks wait alike, for the same bytes
pub record WaitsAlike (k j : Bank) : Type 0 where
  pub waiting : j.registers.waiting ≡ k.registers.waiting
  pub left : j.registers.left ≡ k.registers.left
  pub list : j.list ≡ k.list
