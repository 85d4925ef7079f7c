-- `runs::starts_with` meets its contract. Assumes nothing.
use Rattle.std.proofs.Common.{◌≡◌, arith, length, inl, inr}
use Rattle.runs.proofs.Remainders.{same_next, same_end}
use Rattle.runs.proofs.starts_with.Goals as goal

pub loop-own-preserved : goal.loop-own-preserved
loop-own-preserved c =
    let s = c.in-Some.ensures.steps in
    let i = rw (s.0, s.1) at c.loop-own.invariant in
    (omega (arith, i.0), same_next _ _ _ _ _ i.1)

pub returns : goal.returns
returns c =
    let i = c.loop-own.invariant in
    let none : length c.loop-own.own-iterator.b.rest.now ≡ 0 = elim c.in-None.ensures.steps [
      | inl s ↦ omega (arith, i.0, s.1.0)
      | inr s ↦ s.1.0
    ] in
    same_end _ _ _ none i.1
