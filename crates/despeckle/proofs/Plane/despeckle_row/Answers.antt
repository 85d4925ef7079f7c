-- `despeckle::Plane::despeckle_row` meets its contract: before turn `at`, the row's first words are filled, and the window is around the next pixel.
-- Assumes nothing.
use Prim.Native.Nat.{ℕ, ◌+◌, ◌*◌}
use native.Mathlib.Omega.{arith}
use borrow.Author.Rules.{rules}
use Rattle.bits.proofs.FilledLists.{fill_none, fill-next}
use Rattle.despeckle.specs.Plane.{new_word}
use Rattle.despeckle.proofs.Rows.{number-next, word-passed}
use Rattle.despeckle.proofs.Plane.despeckle_row.Goals as goal

pub loop-at-init : goal.loop-at-init
loop-at-init c = (c.first_window-window.ensures, fill_none _ _)

pub loop-at-preserved : goal.loop-at-preserved
loop-at-preserved c =
    let a = c.args in
    let p = a.self.now in
    let ws = p.pixels.now in
    let l = c.loop-at in (
      number-next ws p.words p.rows a.row l.at _ _ _ c.slide_word-slid.ensures c.ahead.ensures c.ahead-in-loop-at.ensures c.ahead-in-loop-at-2.ensures l.invariant.0,
      fill-next (λ (at : ℕ). new_word ws p.words p.rows (a.row * p.words + at)) l.at a.out.now (search rules) l.invariant.1
          (word-passed ws p.words p.rows a.row l.at _ _ _ c.slide_word-slid.ensures c.ahead.ensures c.ahead-in-loop-at.ensures c.ahead-in-loop-at-2.ensures l.invariant.0 (omega arith)),
    )
