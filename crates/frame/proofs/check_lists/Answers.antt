-- `frame::check_lists` meets its contract. Assumes nothing.
use Rattle.std.proofs.Common.{arith, ◌≡◌, ◌∙◌, length, inl, inr}
use Rattle.std.proofs.lemmas.List.{length-map}
use Rattle.frame.proofs.Lowering.{checked-next, checked-all}
use Rattle.frame.proofs.check_lists.Goals as goal

pub loop-bank-preserved : goal.loop-bank-preserved
loop-bank-preserved c =
    let s = c.in-Some.ensures.steps in
    let i = rw (s.0, s.1) at c.loop-bank.invariant in
    (omega (arith, i.0), rw c.lower-lowest.ensures (checked-next i.1 c.check_list.ensures))

pub returns : goal.returns
returns c =
    let i = c.loop-bank.invariant in
    let none : length c.loop-bank.bank-iterator.a.rest.now ≡ 0 = elim c.in-None.ensures.steps [
      | inl s ↦ s.1.0
      | inr s ↦ i.0 ∙ s.1.0
    ] in
    checked-all _ (length-map _ _ ∙ none) i.1
