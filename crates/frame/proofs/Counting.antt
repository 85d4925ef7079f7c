-- A turn counted: as a run goes through its operations, whatever the registers. Assumes nothing.
use mathlib.Core.Path.{◌≡◌, refl, ap}
use mathlib.Core.List.{List, [], ◌∷◌}
use Prim.Native.Nat.{ℕ, ◌+◌, ◌-◌, ◌<◌, ◌≤◌}
use Rattle.unit.specs.declared.Registers.{Registers}
use Rattle.unit.specs.Bank.{fresh}
use Rattle.unit.specs.Operation.{cycles_of, Operation, step_by}
use Rattle.runs.specs.declared.Turn.{Turn}
use Rattle.runs.proofs.Runs.{Going, going-none, going_next, going-spent, going_done}
use Rattle.frame.specs.Offers.{counted_of}

-- after n operations, with `left` left of the budget and `rest` still to come: some registers would be there
pub record Counting (os : List Operation) (budget left n : ℕ) (rest : List Operation) : Type 0 where
  pub registers : Registers
  pub going : Going fresh os budget registers left n rest

pub counting-none : {os : List Operation} {budget : ℕ} → Counting os budget budget 0 os
counting-none = record { registers = fresh; going = going-none }

module _ {os : List Operation} {budget left n : ℕ} where
  pub counting-next : {o : Operation} {rest : List Operation} → Counting os budget left n (o ∷ rest) → {c : ℕ} → c ≡ cycles_of o.0 → c ≤ left → Counting os budget (left - c) (n + 1) rest
  counting-next {o} h e l = record { registers = step_by h.registers o; going = going_next h.going e l refl }

  pub counting-spent : {o : Operation} {rest : List Operation} → Counting os budget left n (o ∷ rest) → {c : ℕ} → c ≡ cycles_of o.0 → left < c
      → ◌≡◌ {A = Turn} (record { ran = n; cycles = budget - left }) (counted_of os budget)
  counting-spent h e l = ap (λ (t : Turn × Registers). t.0) (going-spent h.going e l)

  pub counting-done : Counting os budget left n [] → ◌≡◌ {A = Turn} (record { ran = n; cycles = budget - left }) (counted_of os budget)
  counting-done h = ap (λ (t : Turn × Registers). t.0) (going_done h.going)
