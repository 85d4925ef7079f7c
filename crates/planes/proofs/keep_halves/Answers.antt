-- `planes::keep_halves` meets its contract. Assumes nothing.
use mathlib.Core.Path.{◌≡◌, ◌∙◌, ap, ap₂}
use Prim.Native.Nat.{◌*◌}
use native.Mathlib.Omega.{arith}
use Rattle.planes.specs.Rounds.{kept_halves, by_turns, crossed_of}
use Rattle.planes.proofs.KeptHalves.{kept-shifted, keep-end}
use Rattle.planes.proofs.Widths.{half-power, half_le, cross-up}
use borrow.Author.Rules.{rules}
use Rattle.planes.proofs.keep_halves.Goals as goal

pub loop-fields-init : goal.loop-fields-init
loop-fields-init c =
    let a = c.args in
    let h = a.kept.fields.half_width in
    c.by_turns-word.ensures ∙ ap₂ (by_turns h) (kept-shifted h a.kept.half a.first) (kept-shifted h a.kept.half a.second)

pub loop-fields-preserved : goal.loop-fields-preserved
loop-fields-preserved c =
    let l = c.loop-fields in
    let a = c.args in
    let h = l.fields.half_width in
    let width = 2 * a.kept.fields.half_width in
    rw c.wider-fields.ensures
    (c.crossed-word.ensures
    ∙ ap (crossed_of h) l.invariant
    ∙ cross-up h (half-power h l.fields.fill_word) (search rules) (kept_halves width a.kept.half a.first) (kept_halves width a.kept.half a.second))

pub returns : goal.returns
returns c =
    let l = c.loop-fields in
    let a = c.args in
    let h = l.fields.half_width in
    let e : h ≡ 32 = omega (arith, half_le h (half-power h l.fields.fill_word)) in
    rw e at l.invariant ∙ keep-end (2 * a.kept.fields.half_width) a.kept.half a.first a.second
