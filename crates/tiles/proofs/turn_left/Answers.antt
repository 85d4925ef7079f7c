-- `tiles::turn_left` meets its contract. Assumes nothing.
use mathlib.Core.Path.{◌∙◌, ap}
use Rattle.tiles.specs.Tile.{transpose_rule, moved}
use Rattle.tiles.proofs.Mirrors.{rows-mirrored}
use Rattle.tiles.proofs.Theorems.{rows-then-transpose}
use Rattle.tiles.proofs.turn_left.Goals as goal

pub returns : goal.returns
returns c =
    let x = c.args.tile in
    c.transpose.ensures ∙ ap (moved transpose_rule) (c.mirrored.ensures ∙ rows-mirrored x) ∙ rows-then-transpose x
