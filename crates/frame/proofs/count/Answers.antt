-- `frame::count` meets its contract. Assumes nothing.
use Rattle.std.proofs.Common.{length, length-append, arith, ap, ◌∙◌}
use Rattle.std.specs.Slice.Iter.{chunks_exact_rest}
use Rattle.runs.proofs.OperationLists.{operations-four, operations-short}
use Rattle.frame.proofs.Counting.{counting-none, counting-next, counting-spent, counting-done}
use Rattle.frame.proofs.count.Goals as goal
use Rattle.frame.proofs.count.Goals.{in-None, in-Some+then-left-cycles}

pub loop-operation-init : goal.loop-operation-init
loop-operation-init c =
    rw (c.into_iter-operation-iterator.ensures.into_iter_gives, c.chunks_exact-operation-items.ensures.rest)
    (record { four = c.chunks_exact-operation-items.ensures.size; bytes = omega arith; within = omega arith; counting = counting-none })

pub loop-operation-preserved : goal.loop-operation-preserved
loop-operation-preserved c =
    let s = c.in-Some.ensures.steps in
    let l = c.loop-operation in
    let n = ap length s.1.0 ∙ length-append c.in-Some.operation.now (chunks_exact_rest c.next.new.self) in
    record {
      four = s.0 ∙ l.invariant.four;
      bytes = omega (arith, n, s.1.1, l.invariant.four);
      within = omega arith;
      counting = counting-next (rw (operations-four _ _ s.1.0 (s.1.1 ∙ l.invariant.four)) at l.invariant.counting) c.cycles_of-cycles.ensures c.if-left-cycles.false;
    }

pub returns-clause-counted : goal.returns-clause-counted
returns-clause-counted c =
    let l = c.loop-operation in
    elim c.match-next.branch [
      | in-None w ↦
          let e = operations-short _ w.in-None.ensures.steps.1.0 l.invariant.four in
          counting-done (rw e at l.invariant.counting)
      | in-Some+then-left-cycles w ↦
          let s = w.in-Some.ensures.steps in
          let e = operations-four _ _ s.1.0 (s.1.1 ∙ l.invariant.four) in
          counting-spent (rw e at l.invariant.counting) w.cycles_of-cycles.ensures w.if-left-cycles.true
    ]
