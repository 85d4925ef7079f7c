-- `tiles::mirror_columns` meets its contract. Assumes nothing.
use mathlib.Core.Path.{◌∙◌}
use Rattle.tiles.proofs.Mirrors.{columns-mirrored}
use Rattle.tiles.proofs.mirror_columns.Goals as goal

pub returns : goal.returns
returns c = c.mirrored.ensures ∙ columns-mirrored c.args.tile
