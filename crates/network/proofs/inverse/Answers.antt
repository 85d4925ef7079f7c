-- `network::inverse` meets its contract. Assumes nothing.
use mathlib.Core.Path.{◌∙◌}
use Rattle.network.specs.Stage.{inverse_of}
use Rattle.network.specs.Word.{travel_of}
use Rattle.network.proofs.inverse.Goals as goal

pub returns : goal.returns
unfolding inverse_of travel_of
returns c = c.from.ensures ∙ c.carry.ensures
