-- `frame::check` meets its contract. Assumes nothing.
use Rattle.std.proofs.Common.{map, length, refl, ◌≡◌, ◌≤◌, ◌∙◌, sym, arith, rules}
use Rattle.std.proofs.lemmas.List.{length-map}
use Rattle.std.proofs.lemmas.Result.{err_from_is_err_and}
use Rattle.bits.proofs.Numbers.{number-refused}
use Rattle.frame.specs.Frame.{brought_by, frame_refusal}
use Rattle.frame.proofs.Lowering.{refusal-by, frame-whole, frame-sum, all-whole}
use Rattle.frame.proofs.check.Goals as goal
use Rattle.frame.proofs.check.Goals.{In_ok-check_sum}

pub returns-in_err-check_lists : goal.returns-in_err-check_lists
returns-in_err-check_lists c =
    let p = err_from_is_err_and c.from_residual.result c.from_residual.ensures.1 in
    let n = number-refused c.in_err-check_lists.field-0.0 in
    rw (p.1, p.2)
    (refusal-by (map (λ bank. bank.now) c.args.banks.now) (map (λ list. list.now) c.args.lists) c.args.guarantees c.args.cycles
    (length-map _ _ ∙ c.told-banks) (length-map _ _ ∙ search rules) (search rules) c.in_err-check_lists.ensures (rw n))

pub returns-in_err-check_sum : goal.returns-in_err-check_sum
returns-in_err-check_sum c =
    let p = err_from_is_err_and c.from_residual-in_err-check_sum.result c.from_residual-in_err-check_sum.ensures.1 in
    rw (p.1, p.2)
    (refusal-by (map (λ bank. bank.now) c.args.banks.now) (map (λ list. list.now) c.args.lists) c.args.guarantees c.args.cycles
    (length-map _ _ ∙ c.told-banks) (length-map _ _ ∙ search rules) (search rules) c.in_ok-check_lists.ensures c.in_err-check_sum.ensures)

carried_out : (c : In_ok-check_sum) → frame_refusal (brought_by (map (λ bank. bank.now) c.args.banks.now) (map (λ list. list.now) c.args.lists) c.args.guarantees) c.args.cycles ≡ 0
carried_out c =
    sym
    (refusal-by (map (λ bank. bank.now) c.args.banks.now) (map (λ list. list.now) c.args.lists) c.args.guarantees c.args.cycles
    (length-map _ _ ∙ c.told-banks) (length-map _ _ ∙ search rules) (search rules) c.in_ok-check_lists.ensures c.in_ok-check_sum.ensures)

pub invariant_of-result : goal.invariant_of-result
invariant_of-result c =
    let ks = map (λ bank. bank.now) c.args.banks.now in
    let ls = map (λ list. list.now) c.args.lists in
    let h : length ks ≡ 4 = length-map _ _ ∙ c.told-banks in
    let four : length c.args.lists ≡ 4 = search rules in
    let g : length ls ≡ 4 = length-map _ _ ∙ four in
    let t : length c.args.guarantees ≡ 4 = search rules in
    let s = frame-sum ks ls c.args.guarantees c.args.cycles h g t (carried_out c) in
    let fit : c.args.cycles ≤ 4294967295 = search rules in
    record { four = four; whole = all-whole c.args.lists four (frame-whole ks ls c.args.guarantees c.args.cycles h g t (carried_out c)); fits = omega (arith, s, fit) }

pub returns : goal.returns
returns c = (refl, refl, carried_out (goal.at.returns c).In_ok-check_sum)
