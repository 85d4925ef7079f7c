-- `tiles::mirror_rows` meets its contract. Assumes nothing.
use mathlib.Core.Path.{◌∙◌}
use Rattle.tiles.proofs.Mirrors.{rows-mirrored}
use Rattle.tiles.proofs.mirror_rows.Goals as goal

pub returns : goal.returns
returns c = c.mirrored.ensures ∙ rows-mirrored c.args.tile
