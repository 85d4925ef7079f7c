-- `permute::check` meets its contract. Assumes nothing.
use mathlib.Core.Path.{◌≡◌, sym, ◌∙◌}
use native.Mathlib.Omega.{arith}
use Rattle.std.proofs.Common.{Err}
use borrow.Author.Rules.{rules}
use Rattle.bits.proofs.Refusals.{not-width, is-width}
use Rattle.bits.specs.declared.Refusal.TheVariants.{Width}
use Rattle.permute.proofs.PermutationAnswers.{not-accepted, accepted-entries}
use Rattle.permute.proofs.check.Goals as goal

pub returns-in_err-accept : goal.returns-in_err-accept
returns-in_err-accept c =
    let e : c.from_residual.result ≡ Err Width = search rules in
    rw e (sym (not-accepted c.args.width c.args.entries.now (not-width c.args.width (sym c.log_of.ensures ∙ c.in_err-accept.ensures.1))))

pub returns : goal.returns
returns c =
    let a = is-width c.args.width (omega (arith, c.in_ok-accept.ensures, c.log_of.ensures)) in
    c.check_entries.ensures ∙ sym (accepted-entries c.args.width c.args.entries.now a)
