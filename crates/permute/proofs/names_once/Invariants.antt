-- What the loops of `permute::names_once` keep. Assumes nothing.
use mathlib.Core.Path.{◌≡◌}
use mathlib.Core.Bool.{true}
use lib.ListN.{length, take, drop}
use Rattle.permute.specs.Permutation.{names_once}
use Rattle.permute.proofs.Names.{Seen}
use Rattle.permute.proofs.names_once.Given as goal

abbrev pub invariant-loop-entry : goal.invariant-loop-entry
invariant-loop-entry l =
    let left = l.entry-iterator.iter.rest.now in
    let passed = drop (length left) l.entries in
    (left ≡ take (length left) l.entries) × (names_once l.width passed ≡ true) × Seen l.seen passed
