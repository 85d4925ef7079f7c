-- Reqs 09 and 10: an operation sees words alone, and carries the rest along. Assumes nothing.
use mathlib.Core.Path.{◌≡◌, refl, sym, ◌∙◌, ap}
use mathlib.Core.Bool.{Bool, true, false, cond}
use Prim.Native.Nat.{ℕ}
use lib.Dec.{eqb}
use Rattle.unit.specs.declared.Registers.{Registers}
use Rattle.unit.specs.Bank.{with_register, waits}
use Rattle.unit.specs.Operation.{cycles_of, operation_refusal, loads, load_of, effects, effect_of, step_of, Operation, step_by}
use Rattle.unit.specs.Calls.{operated, written, operate_of, number_refusal, write_of}
use Rattle.unit.specs.Lent.{bare, carrying}
use Rattle.unit.proofs.Tables.{by-entry, absent-other}

module _ (k : Registers) where
  load-carries : (r1 x y : ℕ) → load_of k r1 x y ≡ carrying k (load_of (bare k) r1 x y)
  unfolding load_of
  load-carries r1 x y =
      by-entry (λ r j. j ≡ carrying k (load_of (bare k) r x y)) r1 (loads k x y) k (refl, (refl, (refl, (refl, tt))))
      (λ none. ap (carrying k) (sym (absent-other r1 (loads (bare k) x y) (bare k) none)))

  effect-carries : (kind r1 x y : ℕ) → effect_of k kind r1 x y ≡ carrying k (effect_of (bare k) kind r1 x y)
  unfolding effect_of
  effect-carries kind r1 x y =
      by-entry (λ n j. j ≡ carrying k (effect_of (bare k) n r1 x y)) kind (effects k r1 x y) k
      (refl, (refl, (refl, (refl, (load-carries r1 x y, (refl, (refl, (refl, (refl, (refl, tt))))))))))
      (λ none. ap (carrying k) (sym (absent-other kind (effects (bare k) r1 x y) (bare k) none)))

  pub step-carries : (o : Operation) → step_by k o ≡ carrying k (step_by (bare k) o)
  step-carries o = effect-carries o.0 o.1 _ _

  -- Single operations and writes, refused or not, change words alone: the status and enable bytes and the marks of waiting are as they were.
  pub operate-words : (kind r1 r2 r3 : ℕ) → let j = (operate_of k kind r1 r2 r3).registers in j ≡ carrying k j
  unfolding operate_of
  operate-words kind r1 r2 r3 = by-test (eqb (operation_refusal (waits k) kind r1 r2 r3) 0)
    where
      e : step_of k kind r1 r2 r3 ≡ carrying k (step_of (bare k) kind r1 r2 r3)
      e = step-carries (kind, r1, r2, r3)

      by-test : (t : Bool) → let j = (cond t (operated (record { refusal = 0; cycles = cycles_of kind }) (step_of k kind r1 r2 r3)) (operated (record { refusal = operation_refusal (waits k) kind r1 r2 r3; cycles = 0 }) k)).registers in
          j ≡ carrying k j
      by-test true = e ∙ ap (carrying k) (sym e)
      by-test false = refl

  pub write-words : (n v : ℕ) → let j = (write_of k n v).registers in j ≡ carrying k j
  unfolding write_of
  write-words n v = by-test (eqb (number_refusal n) 0)
    where
      by-test : (t : Bool) → let j = (cond t (written 0 (with_register k n v)) (written (number_refusal n) k)).registers in j ≡ carrying k j
      by-test true = refl
      by-test false = refl
