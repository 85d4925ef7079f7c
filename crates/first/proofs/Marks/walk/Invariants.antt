-- What the loop of `first::Marks::walk` keeps, and what falls: the unset switches of the first stage. Assumes nothing.
use Rattle.first.specs.Marks.{InOuter, Kept}
use Rattle.first.specs.Blocks.{AtLast}
use Rattle.first.proofs.Walking.{unset_in}
use Rattle.first.proofs.Marks.walk.Given as goal

abbrev pub invariant-loop-block : goal.invariant-loop-block
invariant-loop-block l =
    (AtLast l.block.exponent l.block.first l.permutation.to l.permutation.from l.start l.bit l.self.switches) × (Kept (InOuter l.block.exponent l.block.first) l.initial.self.switches l.self.switches)

abbrev pub decreases-loop-block : goal.decreases-loop-block
decreases-loop-block l = unset_in l.block.exponent l.block.first l.self.switches
