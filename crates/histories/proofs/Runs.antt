-- What a run does, over its definitions. Assumes nothing.
use mathlib.Core.Path.{◌≡◌, refl, sym, ◌∙◌, ap}
use mathlib.Core.Bool.{Bool, true, false, not, cond}
use mathlib.Core.List.{List, [], ◌∷◌}
use Prim.Native.Nat.{ℕ, ◌≤◌}
use native.Mathlib.Omega.{arith}
use lib.Dec.{eqb}
use lib.ListN.{length}
use lib.Seq.{take-length}
use borrow.Author.Tests.{eq-eqb, ne_eqb, le-ltb, not-false}
use Rattle.bits.specs.Refusal.{AnswersLowest}
use Rattle.bits.proofs.Refusals.{answers-lowest, neither}
use Rattle.unit.specs.declared.Registers.{Registers}
use Rattle.unit.specs.declared.Bank.{Bank}
use Rattle.unit.specs.Bank.{waits, with_registers, leaving}
use Rattle.unit.specs.Operation.{is_kind, used_of, are_registers, operation_refusal, step_of, Operation, step_by}
use Rattle.unit.specs.Calls.{operate_of, operates_of}
use Rattle.unit.proofs.Carried.{step-carries}
use Rattle.unit.proofs.LowestRefusals.{operation-refusal-by}
use Rattle.runs.specs.declared.Outcome.{Outcome}
use Rattle.runs.specs.Run.{operations_of, any_kind, any_register, steps_of, sum_of, run_conditions, run_refusal, turn_of, noted, drop_lent, outcome_of, refused_of, perform_of, run_of}
use Rattle.runs.proofs.OperationLists.{run-accepts, run_alone}
use Rattle.runs.proofs.Runs.{ran-ample, ran-within}

-- of a run, new or continued
module _ (other : Bool) (k : Bank) (bytes : List ℕ) (budget : ℕ) where
  abbrev os : List Operation
  os = operations_of bytes

  -- not refused, it goes on and ends
  pub perform-is : run_refusal other bytes ≡ 0 → perform_of other k bytes budget ≡ outcome_of k bytes (turn_of k.registers os budget)
  unfolding perform_of
  perform-is e = rw (eq-eqb (run_refusal other bytes) 0 e)

  -- refused, it sets status bit 2
  pub perform-not : (run_refusal other bytes ≡ 0 → ⊥) → perform_of other k bytes budget ≡ refused_of k (run_refusal other bytes)
  unfolding perform_of
  perform-not n = rw (ne_eqb (run_refusal other bytes) 0 n)

  -- A run with an ample budget is its operations done one after the other, and status bit 0; the bank does not wait.
  pub run-ample : run_refusal other bytes ≡ 0 → sum_of os ≤ budget
      → perform_of other k bytes budget
      ≡ leaving (record { refusal = 0; «end» = 1; ran = length os; cycles = sum_of os }) (noted (drop_lent (with_registers k (steps_of k.registers os))) 1)
  run-ample e h = perform-is e ∙ rw (ran-ample budget os h, take-length os, le-ltb (length os) (length os) (omega arith))

  -- A run never uses more than its budget.
  pub run-in-budget : (perform_of other k bytes budget).0.cycles ≤ budget
  unfolding perform_of
  run-in-budget = by-test (eqb (run_refusal other bytes) 0)
    where
      by-test : (b : Bool) → (cond b (outcome_of k bytes (turn_of k.registers os budget)) (refused_of k (run_refusal other bytes))).0.cycles ≤ budget
      by-test true = ran-within budget os
      by-test false = omega arith

  -- Demand 1: the lowest refusal of the whole list, zeros beside it and, but for status bit 2, the bank as it was.
  pub run-lowest : AnswersLowest (run_conditions other bytes) (λ a. a.0.refusal) (λ n. refused_of k n) (perform_of other k bytes budget)
  unfolding perform_of run_refusal
  run-lowest =
      answers-lowest (run_conditions other bytes) (omega arith) (λ (a : Outcome × Bank). a.0.refusal) (λ n. refused_of k n)
      (outcome_of k bytes (turn_of k.registers os budget)) refl (λ n. refl)

-- The calls on one operation, one after the other

-- an operation that is accepted does its step
accepted-step : (k : Registers) (kind r1 r2 r3 : ℕ) → operation_refusal (waits k) kind r1 r2 r3 ≡ 0 → (operate_of k kind r1 r2 r3).registers ≡ step_of k kind r1 r2 r3
unfolding operate_of
accepted-step k kind r1 r2 r3 e = rw (eq-eqb (operation_refusal (waits k) kind r1 r2 r3) 0 e)

pub operates-steps : (k : Registers) (os : List Operation) → waits k ≡ false → any_kind os ≡ false → any_register os ≡ false → operates_of k os ≡ steps_of k os
unfolding operates_of steps_of any_kind any_register
operates-steps k [] w p q = refl
operates-steps k (o ∷ os) w p q =
    let a = neither (not (is_kind o.0 o.1)) (any_kind os) p in
    let b = neither (not (are_registers (used_of o.0 o.1 o.2 o.3))) (any_register os) q in
    let z = operation-refusal-by o.0 o.1 o.2 o.3 (not-false _ a.0) (not-false _ b.0) w in
    ap (λ (j : Registers). operates_of j os) (accepted-step k o.0 o.1 o.2 o.3 z)
    ∙ operates-steps (step_by k o) os (ap (λ (j : Registers). waits j) (step-carries k o) ∙ w) a.1 b.1

-- A new run with an ample budget leaves the registers that the calls on each operation in turn leave, but for status bit 0, which is one.
pub run-in-turn : (k : Bank) (bytes : List ℕ) (budget : ℕ) → run_refusal (waits k.registers) bytes ≡ 0 → sum_of (operations_of bytes) ≤ budget
    → (run_of k bytes budget).1 ≡ noted (drop_lent (with_registers k (operates_of k.registers (operations_of bytes)))) 1
run-in-turn k bytes budget e h =
    let a = run-accepts (waits k.registers) bytes e in
    let w = run_alone (waits k.registers) bytes e in
    ap (λ (r : Outcome × Bank). r.1) (run-ample (waits k.registers) k bytes budget e h)
    ∙ ap (λ (j : Registers). noted (drop_lent (with_registers k j)) 1) (sym (operates-steps k.registers (operations_of bytes) w a.0 a.1))
