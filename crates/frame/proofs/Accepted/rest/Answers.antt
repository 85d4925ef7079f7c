-- `frame::Accepted::rest` meets its contract. Assumes nothing.
use Rattle.std.proofs.Common.{suc, arith}
use Rattle.std.proofs.lemmas.List.Sums.{sum_by-cons}
use Rattle.frame.proofs.Accepted.rest.Goals as goal

pub overflow_add-rest : goal.overflow_add-rest
overflow_add-rest c =
    let s = c.in-Some.ensures.steps in
    let i = rw (s.0, s.1) at c.loop-turn.invariant in
    let g = sum_by-cons (λ x. x) c.in-Some.guarantee.now c.next.new.self.b.rest.now in
    omega (arith, i.3, g, c.args.self.now.fits)

pub loop-turn-preserved : goal.loop-turn-preserved
loop-turn-preserved c =
    let s = c.in-Some.ensures.steps in
    let i = rw (s.0, s.1) at c.loop-turn.invariant in
    let g = sum_by-cons (λ x. x) c.in-Some.guarantee.now c.next.new.self.b.rest.now in
    (omega (arith, i.0), λ n h. i.1 (suc n) (omega (arith, h)), omega (arith, i.2), omega (arith, i.3, g))
