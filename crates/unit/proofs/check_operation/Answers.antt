-- `unit::check_operation` meets its contract. Assumes nothing.
use mathlib.Core.Path.{◌≡◌, refl, sym, ◌∙◌}
use mathlib.Core.Bool.{Bool, false, not}
use mathlib.Core.List.{[], ◌∷◌}
use Rattle.bits.specs.Refusal.{lowest}
use Rattle.unit.specs.Operation.{operation_refusal}
use Rattle.unit.proofs.LowestRefusals.{operation-refusal-by}
use Rattle.unit.proofs.check_operation.Goals as goal
use Rattle.unit.proofs.check_operation.Goals.{After-are_registers}

pub returns-then-not-is_kind : goal.returns-then-not-is_kind
returns-then-not-is_kind c =
    let a = c.args in
    let e = sym c.is_kind.ensures ∙ c.if-not-is_kind.true in
    sym (operation-refusal-by a.kind a.r1 a.r2 a.r3 e refl refl)

-- the kind is there, and whether the register numbers are
tested : {b o : Bool} (c : After-are_registers) → let a = c.args in c.are_registers.result ≡ b → a.other ≡ o
    → operation_refusal a.other a.kind a.r1 a.r2 a.r3 ≡ lowest ((7, false) ∷ (8, not b) ∷ (14, o) ∷ [])
tested c f g =
    let b = c.before in
    let a = b.args in
    operation-refusal-by a.kind a.r1 a.r2 a.r3 (sym b.is_kind.ensures ∙ b.if-not-is_kind.false) (sym c.are_registers.ensures ∙ f) g

pub returns-then-not-are_registers : goal.returns-then-not-are_registers
returns-then-not-are_registers c = sym (tested c.before (c.if-not-are_registers.true) refl)

pub returns-then-other : goal.returns-then-other
returns-then-other c = sym (tested c.before.before (c.if-not-are_registers.false) c.if-other.true)

pub returns : goal.returns
returns c = sym (tested c.before.before (c.if-not-are_registers.false) c.if-other.false)
