-- What the loops of `network::prepare` keep. Assumes nothing.
use mathlib.Core.Path.{◌≡◌}
use Rattle.network.specs.Stage.{falling}
use Rattle.network.specs.Word.{swaps_at}
use Rattle.network.proofs.Filling.{filled}
use Rattle.network.proofs.prepare.Given as goal

abbrev pub invariant-loop-index : goal.invariant-loop-index
invariant-loop-index l = l.words ≡ filled 0 l.index (swaps_at (falling 6) l.fn.stages)
