-- What the loop of `first::Permutation::of` keeps. Assumes nothing.
use Rattle.first.proofs.Entries.{PlacedBelow}
use Rattle.first.proofs.Permutation.of.Given as goal

abbrev pub invariant-loop-place : goal.invariant-loop-place
invariant-loop-place l = PlacedBelow l.place l.entries l.permutation.to l.permutation.from
