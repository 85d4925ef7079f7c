-- What the loop of `gather::Marked::gather_below` keeps: the marked bits from byte `byte` up are joined. Assumes nothing.
use mathlib.Core.Path.{◌≡◌}
use Prim.Native.Nat.{◌*◌}
use Rattle.gather.proofs.Joining.{joined_from}
use Rattle.gather.proofs.Marked.gather_below.Given as goal

abbrev pub invariant-loop-byte : goal.invariant-loop-byte
invariant-loop-byte l = l.out ≡ joined_from l.start l.self.mask l.word (8 * l.byte)
