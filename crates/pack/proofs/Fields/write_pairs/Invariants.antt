-- What the loops of `pack::Fields::write_pairs` keep. Assumes nothing.
use Prim.Native.Nat.{◌+◌, ◌-◌, ◌*◌}
use Rattle.pack.specs.Fields.{size_of, stream_of}
use Rattle.pack.specs.Cursor.{Holds, Gathers}
use Rattle.pack.proofs.Fields.write_pairs.Given as goal

abbrev pub invariant-loop-at : goal.invariant-loop-at
invariant-loop-at l =
    Gathers l.self.mask l.words (l.first + 2 * (l.at - 1)) l.pair
    × Holds (stream_of l.self.mask l.words) (size_of l.self.mask * (l.first + 2 * (l.at - 1))) l.cursor l.initial.out l.out
