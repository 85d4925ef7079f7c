-- What the loop of `first::Marks::halve` keeps. Assumes nothing.
use Rattle.first.specs.Marks.{swaps_from}
use Rattle.first.proofs.Halving.{HalvedBelow}
use Rattle.first.proofs.Marks.halve.Given as goal

abbrev pub invariant-loop-q : goal.invariant-loop-q
invariant-loop-q l = HalvedBelow l.block.exponent l.block.first (swaps_from l.self.switches l.at) l.initial.entries l.q l.entries
