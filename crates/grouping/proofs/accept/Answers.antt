-- `grouping::accept` meets its contract. Assumes nothing.
use mathlib.Core.Path.{◌≡◌, sym, ◌∙◌}
use native.Mathlib.Omega.{arith}
use Rattle.std.proofs.Common.{Err}
use borrow.Author.Rules.{rules}
use Rattle.bits.specs.Refusal.{logs_to_64}
use Rattle.bits.specs.declared.Refusal.TheVariants.{Width}
use Rattle.bits.proofs.Refusals.{not_listed, is-listed}
use Rattle.grouping.proofs.GroupAnswers.{groups-refusal-by}
use Rattle.grouping.proofs.accept.Goals as goal

pub returns-in_err-log : goal.returns-in_err-log
returns-in_err-log c =
    let e : c.from_residual.result ≡ Err Width = search rules in
    rw e (sym (groups-refusal-by c.args.width c.args.entries.now (not_listed logs_to_64 c.args.width (sym c.log_to_64.ensures ∙ c.in_err-log.ensures.1))))

pub returns-in_err-check_entries : goal.returns-in_err-check_entries
returns-in_err-check_entries c =
    let a = is-listed logs_to_64 c.args.width (omega (arith, c.in_ok-log.ensures, c.log_to_64.ensures)) in
    let e : c.from_residual-in_err-check_entries.result ≡ Err c.in_err-check_entries.field-0.0 = search rules in
    rw e (c.in_err-check_entries.ensures ∙ sym (groups-refusal-by c.args.width c.args.entries.now a))

pub returns : goal.returns
returns c =
    let a = is-listed logs_to_64 c.args.width (omega (arith, c.in_ok-log.ensures, c.log_to_64.ensures)) in
    (groups-refusal-by c.args.width c.args.entries.now a ∙ sym c.in_ok-check_entries.ensures, c.in_ok-log.ensures.0 ∙ c.log_to_64.ensures)
