-- What the loops of `network::Width::by_index` keep. Assumes nothing.
use mathlib.Core.Path.{◌≡◌}
use Rattle.network.specs.Word.{all_pass, by_index}
use Rattle.network.proofs.Filling.{filled}
use Rattle.network.proofs.Width.by_index.Given as goal

abbrev pub invariant-loop-index : goal.invariant-loop-index
invariant-loop-index g l = l.placed ≡ filled all_pass l.index (by_index g.D.Direction.is_rising l.self.log l.stages)
