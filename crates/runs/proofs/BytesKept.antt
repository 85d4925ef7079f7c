-- Reqs 09 and 10: a run sees words alone until it ends. Assumes nothing.
use mathlib.Core.Path.{◌≡◌, refl, sym, ◌∙◌, ap}
use mathlib.Core.List.{List, [], ◌∷◌}
use Prim.Native.Nat.{ℕ}
use lib.ListN.{take}
use Rattle.unit.specs.declared.Registers.{Registers}
use Rattle.unit.specs.Operation.{Operation, step_by}
use Rattle.unit.specs.Lent.{bare, carrying}
use Rattle.unit.proofs.Carried.{step-carries}
use Rattle.runs.specs.declared.Turn.{Turn}
use Rattle.runs.specs.Run.{steps_of, sum_of, ran_of, reaching, turn_of}

pub steps-carry : (k : Registers) (os : List Operation) → steps_of k os ≡ carrying k (steps_of (bare k) os)
unfolding steps_of
steps-carry k [] = refl
steps-carry k (o ∷ os) =
    let j = step_by (bare k) o in
    ap (λ (i : Registers). steps_of i os) (step-carries k o)
    ∙ steps-carry (carrying k j) os
    ∙ ap (λ (i : Registers). carrying k (steps_of i os)) (sym (step-carries (bare k) o))

-- going on by the steps of the code: the words, beside all else as it was
pub turn_by : (k : Registers) (os : List Operation) (budget : ℕ) {t : Turn} {j : Registers} → reaching t j ≡ turn_of (bare k) os budget → reaching t (carrying k j) ≡ turn_of k os budget
turn_by k os budget e =
    ap (λ (r : Turn × Registers). reaching r.0 (carrying k r.1)) e
    ∙ ap (reaching (record { ran = ran_of budget os; cycles = sum_of (take (ran_of budget os) os) })) (sym (steps-carry k (take (ran_of budget os) os)))
