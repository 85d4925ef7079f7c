-- What the loops of `pack::Fields::scattered` keep. Assumes nothing.
use Rattle.pack.proofs.BitRoutes.{Pulled}
use Rattle.pack.proofs.Fields.scattered.Given as goal

abbrev pub invariant-loop-i : goal.invariant-loop-i
invariant-loop-i l = Pulled l.self.mask l.word l.i l.out
