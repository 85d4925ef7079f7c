-- What the loop of `first::Marks::word` keeps. Assumes nothing.
use mathlib.Core.Path.{◌≡◌}
use Prim.Native.Nat.{◌+◌, ◌-◌}
use Rattle.routing.specs.Lists.{word_of}
use Rattle.first.specs.Marks.{swaps_from}
use Rattle.first.proofs.Marks.word.Given as goal

abbrev pub invariant-loop-s : goal.invariant-loop-s
invariant-loop-s l = l.word ≡ word_of (l.count - l.s) (λ j. swaps_from l.self.switches l.at (l.s + j))
