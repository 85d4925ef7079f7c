-- `runs::check_operations` meets its contract. Assumes nothing.
use mathlib.Core.Path.{refl, sym, ◌∙◌, ap}
use mathlib.Core.Bool.{not}
use mathlib.Core.List.{[]}
use Rattle.runs.specs.Run.{operations_of}
use Rattle.runs.proofs.OperationLists.{operations-four, operations-short, Sofar, sofar-next, sofar-kind, sofar-all}
use Rattle.runs.proofs.check_operations.Goals as goal
use Rattle.runs.proofs.check_operations.Goals.{In-None}

pub returns-then-not-is_kind : goal.returns-then-not-is_kind
returns-then-not-is_kind c =
    let e = operations-four _ _ c.in-Some.ensures.steps.1.0 (c.in-Some.ensures.steps.1.1 ∙ c.loop-operation.invariant.four) in
    sym (sofar-kind (rw e at c.loop-operation.invariant.sofar) c.is_kind.ensures _ c.if-not-is_kind.true)

pub loop-operation-preserved : goal.loop-operation-preserved
loop-operation-preserved c =
    let e = operations-four _ _ c.in-Some.ensures.steps.1.0 (c.in-Some.ensures.steps.1.1 ∙ c.loop-operation.invariant.four) in
    record {
      four = c.in-Some.ensures.steps.0 ∙ c.loop-operation.invariant.four;
      sofar = sofar-next (rw e at c.loop-operation.invariant.sofar) c.is_kind.ensures c.if-not-is_kind.false c.are_registers-registers.ensures;
    }

-- the register numbers of every operation have been tested
all : (c : In-None) → Sofar (operations_of c.args.ops.now) c.loop-operation.registers []
all c =
    let e = operations-short _ c.in-None.ensures.steps.1.0 c.loop-operation.invariant.four in
    rw e at c.loop-operation.invariant.sofar

pub returns-then-not-registers : goal.returns-then-not-registers
returns-then-not-registers c = sym (sofar-all (all (goal.at.returns-then-not-registers c).In-None) (ap not c.if-not-registers.true) refl)

pub returns-then-other : goal.returns-then-other
returns-then-other c = sym (sofar-all (all (goal.at.returns-then-other c).In-None) (ap not c.if-not-registers.false) c.if-other.true)

pub returns : goal.returns
returns c = sym (sofar-all (all (goal.at.returns c).In-None) (ap not c.if-not-registers.false) c.if-other.false)
