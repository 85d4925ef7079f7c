-- What the loops of `pack::copy_words` keep. Assumes nothing.
use mathlib.Core.Path.{◌≡◌}
use lib.ListN.{length, take, drop}
use Rattle.pack.proofs.copy_words.Given as goal

abbrev pub invariant-loop-at : goal.invariant-loop-at
invariant-loop-at l = (take l.at l.to ≡ take l.at l.from) × (drop (length l.from) l.to ≡ drop (length l.from) l.initial.to)
