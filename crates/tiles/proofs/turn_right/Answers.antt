-- `tiles::turn_right` meets its contract. Assumes nothing.
use mathlib.Core.Path.{sym, ◌∙◌, ap}
use Rattle.tiles.specs.Tile.{rows_rule, moved}
use Rattle.tiles.proofs.Mirrors.{rows-mirrored}
use Rattle.tiles.proofs.Theorems.{right_is}
use Rattle.tiles.proofs.turn_right.Goals as goal

pub returns : goal.returns
returns c =
    c.mirrored.ensures
    ∙ rows-mirrored c.transpose.result
    ∙ ap (moved rows_rule) c.transpose.ensures
    ∙ sym (right_is c.args.tile)
