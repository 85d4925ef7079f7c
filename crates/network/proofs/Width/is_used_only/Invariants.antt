-- What the loops of `network::Width::is_used_only` keep. Assumes nothing.
use mathlib.Core.Path.{◌≡◌}
use mathlib.Core.Bool.{◌&&◌}
use lib.Dec.{eqb}
use lib.ListN.{drop}
use Rattle.network.specs.Calls.{controls_fit}
use Rattle.network.proofs.Width.is_used_only.Given as goal

abbrev pub invariant-loop-at : goal.invariant-loop-at
invariant-loop-at l = (eqb l.unused 0 && controls_fit l.self.log l.at (drop l.at l.fn.stages)) ≡ controls_fit l.self.log 0 l.fn.stages
