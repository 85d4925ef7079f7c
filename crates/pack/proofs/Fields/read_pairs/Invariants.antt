-- What the loops of `pack::Fields::read_pairs` keep. Assumes nothing.
use mathlib.Core.Path.{◌≡◌}
use Prim.Native.Nat.{◌+◌, ◌*◌, ◌%◌}
use lib.ListN.{length}
use Rattle.bits.specs.Bit.{overwritten}
use Rattle.pack.specs.Fields.{size_of, scattered_at}
use Rattle.pack.specs.Cursor.{Awaits}
use Rattle.pack.proofs.Fields.read_pairs.Given as goal

abbrev pub invariant-loop-at : goal.invariant-loop-at
invariant-loop-at l =
    (length l.out ≡ l.len)
    × Awaits l.packed (size_of l.self.mask * (l.len % 2 + 2 * l.at)) l.cursor
    × (l.out ≡ overwritten (l.len % 2 + 2 * l.at) (scattered_at l.self.mask l.packed) l.out)
