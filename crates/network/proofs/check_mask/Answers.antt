-- `network::check_mask` meets its contract. Assumes nothing.
use mathlib.Core.Path.{◌≡◌, refl, sym, ◌∙◌, ap}
use Rattle.std.specs.Prelude.{Err}
use native.Mathlib.Omega.{arith}
use Rattle.bits.specs.Refusal.{number_in}
use Rattle.bits.specs.declared.Refusal.TheVariants.{Width}
use Rattle.bits.proofs.Refusals.{not-width, is-width}
use Rattle.network.proofs.NetworkAnswers.{decode-refusal-by}
use borrow.Author.Rules.{rules}
use Rattle.network.proofs.check_mask.Goals as goal

pub returns-in_err-accept : goal.returns-in_err-accept
returns-in_err-accept c =
    let a = c.args in
    let r = c.in_err-accept.ensures in
    let e : c.from_residual.result ≡ Err Width = search rules in
    ap number_in e ∙ sym (decode-refusal-by a.width a.mask (not-width a.width (sym c.log_of.ensures ∙ r.1)) refl)

pub returns-then-not-is_within : goal.returns-then-not-is_within
returns-then-not-is_within c =
    let a = c.args in
    sym (decode-refusal-by a.width a.mask (is-width a.width (λ z. omega (arith, c.in_ok-accept.ensures.1, c.log_of.ensures, z))) (sym c.is_within.ensures ∙ c.if-not-is_within.true))

pub returns : goal.returns
returns c =
    let a = c.args in
    sym (decode-refusal-by a.width a.mask (is-width a.width (λ z. omega (arith, c.in_ok-accept.ensures.1, c.log_of.ensures, z))) (sym c.is_within.ensures ∙ c.if-not-is_within.false))
