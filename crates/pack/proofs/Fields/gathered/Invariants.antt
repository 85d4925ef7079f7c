-- What the loops of `pack::Fields::gathered` keep. Assumes nothing.
use lib.Bits.{bit_and}
use Rattle.pack.proofs.BitRoutes.{Pushed}
use Rattle.pack.proofs.Fields.gathered.Given as goal

abbrev pub invariant-loop-i : goal.invariant-loop-i
invariant-loop-i l = Pushed l.self.mask (bit_and l.word l.self.mask) l.i l.out
