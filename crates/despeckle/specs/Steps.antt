-- What the code asks of a step that moves a window on. Internal: no answer of a call cites it. Assumes nothing.
use Rattle.std.specs.Prelude.{ℕ, ◌^◌, ◌<◌}
use Rattle.despeckle.specs.Window.{Passes}
use Rattle.despeckle.specs.declared.Neighbours.{Neighbours}
use Rattle.despeckle.specs.declared.Slid.{Slid}
use Rattle.despeckle.specs.declared.window.Window.{Window}

-- A step, by what it asks and what it may answer, moves a window on by `width` columns.
pub record Steps (width : ℕ) (pre : Window → Neighbours → Type 0) (post : Window → Neighbours → Slid → Type 0) : Type 0 where
  pub callable : (window : Window) (rows : Neighbours) → pre window rows
  pub passes : (window : Window) (rows : Neighbours) (r : Slid) → (rows.above < 2 ^ 64) × (rows.own < 2 ^ 64) × (rows.below < 2 ^ 64) → post window rows r
      → Passes width window.number rows.above rows.own rows.below r.window.number r.word
