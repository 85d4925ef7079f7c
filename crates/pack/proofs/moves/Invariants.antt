-- What the loops of `pack::moves` keep. Assumes nothing.
use mathlib.Core.Path.{◌≡◌}
use lib.ListN.{length}
use Rattle.pack.specs.Moves.{Moves}
use Rattle.pack.proofs.Gaps.{HalvesGaps}
use Rattle.pack.proofs.moves.Given as goal

abbrev pub invariant-loop-i : goal.invariant-loop-i
invariant-loop-i l = (length l.words ≡ 6) × HalvesGaps l.mask l.i l.ones × Moves l.mask l.i l.words
