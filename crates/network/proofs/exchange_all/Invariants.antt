-- What the loops of `network::exchange_all` keep. Assumes nothing.
use mathlib.Core.Path.{◌≡◌}
use Rattle.network.specs.Word.{exchanges}
use Rattle.network.proofs.SixSteps.{exchanges_left}
use Rattle.network.proofs.exchange_all.Given as goal

abbrev pub invariant-loop-at : goal.invariant-loop-at
invariant-loop-at g l = let b = g.D.Direction.is_rising in exchanges_left b l.words l.at l.carried ≡ exchanges b l.words l.word
