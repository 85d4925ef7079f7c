-- `permute::controls_alone` meets its contract. Assumes nothing.
use mathlib.Core.Path.{◌≡◌, sym, ◌∙◌}
use Rattle.std.proofs.Common.{Err}
use borrow.Author.Rules.{rules}
use Rattle.bits.specs.declared.Refusal.TheVariants.{NotRealised}
use Rattle.alone.specs.Calls.{fits_alone, alone}
use Rattle.permute.proofs.PermutationAnswers.{route-permutes}
use Rattle.permute.proofs.AloneAnswers.{refused-before, none-realise, one-realises}
use Rattle.permute.proofs.controls_alone.Goals as goal

pub returns-in_err-check : goal.returns-in_err-check
returns-in_err-check c =
    let r = c.in_err-check.field-0.0 in
    let e : c.from_residual.result ≡ Err r = search rules in
    rw e (refused-before c.args.width c.args.entries.now (fits_alone c.args.rising) (alone c.args.rising) r c.in_err-check.ensures)

pub controls-requires : goal.controls-requires
controls-requires c = route-permutes c.args.width c.args.entries.now (sym c.in_ok-check.ensures) c.log_of-log.ensures

pub returns-in_err-stages : goal.returns-in_err-stages
returns-in_err-stages c =
    let a = c.args in
    let e : c.from_residual-in_err-stages.result ≡ Err NotRealised = search rules in
    let n = c.in_err-stages.ensures.ok_part in
    rw e (none-realise a.width a.entries.now (fits_alone a.rising) (alone a.rising) (sym c.in_ok-check.ensures) c.log_of-log.ensures (sym n ∙ c.controls.ensures))

pub returns : goal.returns
returns c =
    let a = c.args in
    one-realises a.width a.entries.now (fits_alone a.rising) (alone a.rising) (sym c.in_ok-check.ensures) c.log_of-log.ensures (sym c.in_ok-stages.ensures.ok_part ∙ c.controls.ensures)
