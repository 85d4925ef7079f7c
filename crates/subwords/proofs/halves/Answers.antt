-- `subwords::halves` meets its contract. Assumes nothing.
use mathlib.Core.Path.{◌≡◌, sym, ◌∙◌, ap}
use Prim.Native.Nat.{ℕ}
use Rattle.std.specs.Prelude.{Err}
use Rattle.network.specs.Calls.{carried_by}
use Rattle.subwords.proofs.Sizes.{size-refused, size-carried}
use Rattle.subwords.proofs.Words.{place-lt, halves-shifted}
use borrow.Author.Rules.{rules}
use Rattle.subwords.proofs.halves.Goals as goal

pub returns-in_err-rights : goal.returns-in_err-rights
returns-in_err-rights c =
    let a = c.args in
    let r = c.in_err-rights.field-0.0 in
    let e : c.from_residual.result ≡ Err r = search rules in
    ap carried_by e ∙ ap (λ (n : ℕ). record { refusal = n; word = 0 }) c.in_err-rights.ensures.1 ∙ sym (size-refused a.size c.in_err-rights.ensures.0 _)

pub returns : goal.returns
returns c =
    let a = c.args in
    let size = c.in_ok-rights.ensures.0 in
    ap (λ (x : ℕ). record { refusal = 0; word = x })
    (rw (c.at_left.ensures, c.at_right.ensures) at (c.weave.ensures a.size size c.in_ok-rights.ensures.1)
    ∙ halves-shifted a.size size a.left.word a.right.word (λ e. search rules) (place-lt a.left.half) (place-lt a.right.half))
    ∙ sym (size-carried a.size size _)
