-- What the loop of `gather::Marked::deal` keeps: the bytes below byte `byte` have their bits. Assumes nothing.
use mathlib.Core.Path.{◌≡◌}
use Prim.Native.Nat.{◌*◌, ◌/◌, ◌^◌}
use Rattle.bits.specs.Bit.{rank}
use Rattle.gather.specs.Parts.{dealt}
use Rattle.gather.proofs.Marked.deal.Given as goal

abbrev pub invariant-loop-byte : goal.invariant-loop-byte
invariant-loop-byte l = (l.out ≡ dealt l.byte l.self.mask l.word) × (l.rest ≡ l.word / 2 ^ rank l.self.mask (8 * l.byte))
