-- Demand 1, of the register unit's calls: the lowest refusal, zeros beside it, and the registers as they were. Assumes nothing.
use mathlib.Core.Path.{◌≡◌, refl}
use mathlib.Core.Bool.{Bool, not}
use mathlib.Core.List.{[], ◌∷◌}
use Prim.Native.Nat.{ℕ}
use native.Mathlib.Omega.{arith}
use Rattle.bits.specs.Refusal.{lowest, AnswersLowest}
use Rattle.bits.proofs.Refusals.{answers-lowest}
use Rattle.unit.specs.declared.Registers.{Registers}
use Rattle.unit.specs.declared.Register.{Register}
use Rattle.unit.specs.Bank.{register, with_register, waits}
use Rattle.unit.specs.Operation.{cycles_of, is_kind, used_of, are_registers, operation_conditions, operation_refusal, step_of}
use Rattle.unit.specs.Calls.{Operated, Written, operated, written, operate_of, number_conditions, number_refusal, read_of, write_of}

-- the refusal of an operation, from the outcomes of the tests
pub operation-refusal-by : {other : Bool} (kind r1 r2 r3 : ℕ) {a b c : Bool} → is_kind kind r1 ≡ a → are_registers (used_of kind r1 r2 r3) ≡ b → other ≡ c
    → operation_refusal other kind r1 r2 r3 ≡ lowest ((7, not a) ∷ (8, not b) ∷ (14, c) ∷ [])
unfolding operation_refusal
operation-refusal-by kind r1 r2 r3 p q r = λ i. lowest ((7, not (p i)) ∷ (8, not (q i)) ∷ (14, r i) ∷ [])

module _ (k : Registers) where
  pub operate-lowest : (kind r1 r2 r3 : ℕ)
      → AnswersLowest (operation_conditions (waits k) kind r1 r2 r3) (λ a. a.answer.refusal) (λ n. operated (record { refusal = n; cycles = 0 }) k) (operate_of k kind r1 r2 r3)
  unfolding operate_of operation_refusal
  operate-lowest kind r1 r2 r3 =
      answers-lowest (operation_conditions (waits k) kind r1 r2 r3) (omega arith) (λ (a : Operated). a.answer.refusal)
      (λ n. operated (record { refusal = n; cycles = 0 }) k)
      (operated (record { refusal = 0; cycles = cycles_of kind }) (step_of k kind r1 r2 r3)) refl (λ n. refl)

  pub read-lowest : (n : ℕ) → AnswersLowest (number_conditions n) (λ a. a.refusal) (λ r. record { refusal = r; value = 0 }) (read_of k n)
  unfolding read_of number_refusal
  read-lowest n =
      answers-lowest (number_conditions n) (omega arith) (λ (a : Register). a.refusal) (λ r. record { refusal = r; value = 0 })
      (record { refusal = 0; value = register k n }) refl (λ r. refl)

  pub write-lowest : (n v : ℕ) → AnswersLowest (number_conditions n) (λ a. a.refusal) (λ r. written r k) (write_of k n v)
  unfolding write_of number_refusal
  write-lowest n v =
      answers-lowest (number_conditions n) (omega arith) (λ (a : Written). a.refusal) (λ r. written r k)
      (written 0 (with_register k n v)) refl (λ r. refl)
