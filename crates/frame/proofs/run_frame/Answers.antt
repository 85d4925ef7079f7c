-- `frame::run_frame` meets its contract. Assumes nothing.
use Rattle.std.proofs.Common.{◌≡◌, List, ℕ, length, get_or, [], ◌∷◌, ◌∙◌, ap, map, rules}
use Rattle.std.proofs.lemmas.List.{length-map}
use Rattle.runs.specs.Run.{carried_out}
use Rattle.frame.specs.Frame.{leaving_all}
use Rattle.frame.specs.Offers.{budgets_by}
use Rattle.frame.proofs.OneBudget.{frame-by-lists, frame-refused-lists}
use Rattle.frame.proofs.run_frame.Goals as goal

pub returns-in-Err : goal.returns-in-Err
returns-in-Err c =
    let a = c.args in
    let four : length a.lists ≡ 4 = search rules in
    (λ i. leaving_all (c.from.ensures i) (c.refuse.ensures i ∷ c.refuse-in-Err.ensures i ∷ c.refuse-in-Err-2.ensures i ∷ c.refuse-in-Err-3.ensures i ∷ []))
    ∙ frame-refused-lists a.bank0.now a.bank1.now a.bank2.now a.bank3.now (map (λ list. list.now) a.lists) a.guarantees.now a.cycles (length-map _ _ ∙ four) c.in-Err.refusal c.in-Err.ensures

pub returns : goal.returns
returns c =
    let a = c.args in
    let e = c.in-Ok.ensures in
    let four : length a.lists ≡ 4 = search rules in
    let b = c.budgets-budgets.ensures ∙ (λ i. budgets_by (map (λ list. list.now) (e.0 i)) (e.1 i)) in
    let q : (n : ℕ) → get_or (map (λ list. list.now) c.in-Ok.accepted.lists) n [] ≡ get_or (map (λ list. list.now) a.lists) n [] = λ n i. get_or (map (λ list. list.now) (e.0 i)) n [] in
    let bs : ℕ → ℕ = λ n. get_or c.budgets-budgets.result n 0 in
    rw (c.from-2.ensures, c.from-3.ensures, c.from-4.ensures, c.from-5.ensures)
    (frame-by-lists a.bank0.now a.bank1.now a.bank2.now a.bank3.now (map (λ list. list.now) a.lists) a.guarantees.now a.cycles (length-map _ _ ∙ four) e.2 b
    (c.perform-run0.ensures ∙ ap (λ (l : List ℕ). carried_out a.bank0.now l (bs 0)) (c.operations.ensures ∙ q 0))
    (c.perform-run1.ensures ∙ ap (λ (l : List ℕ). carried_out a.bank1.now l (bs 1)) (c.operations-2.ensures ∙ q 1))
    (c.perform-run2.ensures ∙ ap (λ (l : List ℕ). carried_out a.bank2.now l (bs 2)) (c.operations-3.ensures ∙ q 2))
    (c.perform-run3.ensures ∙ ap (λ (l : List ℕ). carried_out a.bank3.now l (bs 3)) (c.operations-4.ensures ∙ q 3)))
