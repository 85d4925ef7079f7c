-- `network::butterfly` meets its contract. Assumes nothing.
use mathlib.Core.Path.{◌∙◌}
use Rattle.network.specs.Stage.{butterfly_of}
use Rattle.network.specs.Word.{travel_of}
use Rattle.network.proofs.butterfly.Goals as goal

pub returns : goal.returns
unfolding butterfly_of travel_of
returns c = c.from.ensures ∙ c.carry.ensures
