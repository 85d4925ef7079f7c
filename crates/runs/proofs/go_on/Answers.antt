-- `runs::go_on` meets its contract. Assumes nothing.
use mathlib.Core.Path.{◌∙◌, ap}
use native.Mathlib.Omega.{arith}
use lib.ListN.{length, length-append}
use Rattle.std.specs.Slice.Iter.{chunks_exact_rest}
use Rattle.runs.proofs.OperationLists.{operations-four, operations-short}
use Rattle.runs.proofs.Runs.{going_next, going-spent, going_done}
use Rattle.runs.proofs.go_on.Goals as goal
use Rattle.runs.proofs.go_on.Goals.{in-None, in-Some+then-left-cycles}

pub loop-operation-preserved : goal.loop-operation-preserved
loop-operation-preserved c =
    let s = c.in-Some.ensures.steps in
    let l = c.loop-operation in
    let n = ap length s.1.0 ∙ length-append c.in-Some.operation.now (chunks_exact_rest c.next.new.self) in
    record {
      four = s.0 ∙ l.invariant.four;
      bytes = omega (arith, n, s.1.1, l.invariant.four);
      going = going_next (rw (operations-four _ _ s.1.0 (s.1.1 ∙ l.invariant.four)) at l.invariant.going) c.cycles_of-cycles.ensures c.if-left-cycles.false c.step.ensures;
    }

pub returns : goal.returns
returns c =
    let l = c.loop-operation in
    elim c.match-next.branch [
      | in-None w ↦
          let e = operations-short _ w.in-None.ensures.steps.1.0 l.invariant.four in
          going_done (rw e at l.invariant.going)
      | in-Some+then-left-cycles w ↦
          let s = w.in-Some.ensures.steps in
          let e = operations-four _ _ s.1.0 (s.1.1 ∙ l.invariant.four) in
          going-spent (rw e at l.invariant.going) w.cycles_of-cycles.ensures w.if-left-cycles.true
    ]
