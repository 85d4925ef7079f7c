-- `gather::check` meets its contract: its tests are those of the list, in order. Assumes nothing.
use mathlib.Core.Path.{◌≡◌, refl, sym, ◌∙◌, ap}
use mathlib.Core.Bool.{true, false}
use Prim.Native.Nat.{ℕ, ◌<◌}
use native.Mathlib.Omega.{arith}
use borrow.Author.Rules.{rules}
use Rattle.bits.specs.Refusal.{accepted, log_of, number_in}
use Rattle.bits.proofs.Refusals.{not-width, is-width, wide_fits}
use Rattle.gather.proofs.MaskAnswers.{refusal-by}
use Rattle.gather.proofs.check.Goals as goal
use Rattle.gather.proofs.check.Goals.{then-not-is_within-via-then-not-is_within, then-not-is_within-via-else-not-is_within+then-not-is_within-2}

-- width 64 holds every word
pub returns-then-width-eq64 : goal.returns-then-width-eq64
returns-then-width-eq64 c =
    let a = c.args in
    sym (refusal-by _ _ _ (ap accepted c.if-width-eq64.true) (wide_fits a.word a.width (search rules) (search rules)) (wide_fits a.mask a.width (search rules) (search rules)))

-- by the logarithm

width : (w : ℕ) {log : ℕ} → log ≡ log_of w → 0 < log → accepted w ≡ true
width w e l = is-width w (λ z. omega arith)

none : (w : ℕ) {log : ℕ} → log ≡ log_of w → log ≡ 0 → accepted w ≡ false
none w e z = not-width w (omega arith)

pub returns-in_err-accept : goal.returns-in_err-accept
returns-in_err-accept c =
    let n : number_in c.from_residual.result ≡ 1 = search rules in
    n ∙ sym (refusal-by _ _ _ (none c.args.width c.log_of.ensures (omega (arith, c.in_err-accept.ensures))) refl refl)

pub returns-then-not-is_within : goal.returns-then-not-is_within
returns-then-not-is_within c =
    let a = c.args in
    let p = width a.width c.log_of.ensures (omega (arith, c.in_ok-accept.ensures)) in
    elim c.then-not-is_within.branch [
      | then-not-is_within-via-then-not-is_within w ↦ sym (refusal-by _ _ _ p (sym c.is_within.ensures ∙ w.if-not-is_within.true) refl)
      | then-not-is_within-via-else-not-is_within+then-not-is_within-2 w ↦
          sym (refusal-by _ _ _ p (sym c.is_within.ensures ∙ w.if-not-is_within.false) (sym w.is_within-else-not-is_within.ensures ∙ w.if-not-is_within-2.true))
    ]

pub returns : goal.returns
returns c =
    let a = c.args in
    let p = width a.width c.log_of.ensures (omega (arith, c.in_ok-accept.ensures)) in
    sym (refusal-by _ _ _ p (sym c.is_within.ensures ∙ c.if-not-is_within.false) (sym c.is_within-else-not-is_within.ensures ∙ c.if-not-is_within-2.false))
