-- What the loop of `first::Marks::settle` keeps. Assumes nothing.
use Rattle.first.specs.Blocks.{Stepped}
use Rattle.first.proofs.Marks.settle.Given as goal

abbrev pub invariant-loop-s : goal.invariant-loop-s
invariant-loop-s l =
    Stepped l.block.exponent l.block.first l.permutation.to l.permutation.from l.s l.initial.self.switches l.self.switches
