-- `planes::last_eight` meets its contract. Assumes nothing.
use mathlib.Core.Path.{◌≡◌, sym, ◌∙◌, ap}
use mathlib.Core.List.{append-nil}
use Prim.Native.Nat.{ℕ, ◌-◌}
use native.Mathlib.Omega.{arith}
use lib.ListN.{length, drop, length-drop}
use lib.Seq.{take_all, get_or-drop}
use Rattle.network.proofs.Filling.{fill_more}
use borrow.Author.Rules.{rules}
use Rattle.planes.proofs.last_eight.Goals as goal

pub loop-at-preserved : goal.loop-at-preserved
loop-at-preserved c =
    let l = c.loop-at in
    let a = c.args in
    let n : length a.words ≡ 32 = search rules in
    fill_more 8 0 (drop 24 a.words) l.at (search rules) (omega (arith, length-drop 24 a.words, n)) l.invariant (sym (get_or-drop 24 a.words l.at 0))

pub returns : goal.returns
returns c =
    let l = c.loop-at in
    let a = c.args in
    let n : length a.words ≡ 32 = search rules in
    let e : l.at ≡ 8 = omega arith in
    l.invariant
    ∙ rw (e, take_all 8 (drop 24 a.words) (omega (arith, length-drop 24 a.words, n))) (append-nil (drop 24 a.words))
    ∙ sym (ap (λ (k : ℕ). drop (k - 8) a.words) n)
