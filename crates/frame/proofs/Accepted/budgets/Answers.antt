-- `frame::Accepted::budgets` meets its contract. Assumes nothing.
use Rattle.std.proofs.Common.{length, ◌≡◌, sym, arith, ◌∙◌, map, rules}
use Rattle.std.proofs.lemmas.List.{length-map}
use Rattle.frame.proofs.Offering.{budgets-by, used-fits}
use Rattle.frame.proofs.Accepted.budgets.Goals as goal

pub offer-requires-clause-fits : goal.offer-requires-clause-fits
offer-requires-clause-fits c = λ n h.
    let s = c.args.self.now in
    let k : length s.guarantees ≡ 4 = search rules in
    let t : length c.first_turns-first.result ≡ 4 = search rules in
    let f = used-fits c.first_turns-first.result s.guarantees (t ∙ sym k) n (omega (arith, t, h)) (λ m e. c.first_turns-first.ensures.within_guarantees m (omega (arith, t, e))) in
    omega (arith, f, s.fits, c.rest-rest.ensures)

pub returns : goal.returns
returns c =
    c.offer.ensures
    ∙ budgets-by (map (λ list. list.now) c.args.self.now.lists) c.args.self.now.guarantees c.first_turns-first.result (length-map _ _ ∙ c.args.self.now.four) (search rules) (search rules)
    c.first_turns-first.ensures.counted c.rest-rest.ensures
