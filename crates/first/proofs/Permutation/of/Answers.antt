-- `first::Permutation::of` meets its contract. Assumes nothing.
use native.Mathlib.Omega.{arith}
use Rattle.first.proofs.Entries.{place_end}
use Rattle.first.proofs.Permutation.of.Goals as goal

pub returns : goal.returns
returns c = place_end _ c.requires.0 c.requires.1 _ _ _ (omega arith) c.loop-place.invariant
