-- `despeckle::Plane::despeckle_rows` meets its contract: before each turn, the rows above are filled. Assumes nothing.
use mathlib.Core.Path.{sym, ◌∙◌, ap}
use Prim.Native.Nat.{ℕ, ◌*◌}
use native.Mathlib.Nat.{zero-mul}
use Rattle.bits.specs.Bit.{overwritten}
use Rattle.bits.proofs.FilledLists.{fill_none}
use Rattle.despeckle.specs.Plane.{new_word}
use Rattle.despeckle.proofs.Border.{row-end}
use Rattle.despeckle.proofs.Rows.{row-filled}
use Rattle.despeckle.proofs.Plane.despeckle_rows.Goals as goal

pub loop-row-init : goal.loop-row-init
loop-row-init c =
    let p = c.args.self.now in
    let f = new_word p.pixels.now p.words p.rows in
    fill_none f c.args.out.now ∙ ap (λ (j : ℕ). overwritten j f c.args.out.now) (sym (zero-mul p.words))

pub loop-row-preserved : goal.loop-row-preserved
loop-row-preserved c =
    let l = c.loop-row in
    let p = c.args.self.now in
    rw (← row-end l.row p.words)
    (row-filled (new_word p.pixels.now p.words p.rows) (l.row * p.words) p.words c.args.out.now l.invariant c.despeckle_row.ensures)
