-- What the loop of `first::Marks::words` keeps. Assumes nothing.
use mathlib.Core.Path.{◌≡◌}
use Rattle.network.proofs.Filling.{filled}
use Rattle.routing.specs.Lists.{words_of}
use Rattle.first.specs.Marks.{controls_in}
use Rattle.first.proofs.Marks.words.Given as goal

abbrev pub invariant-loop-i : goal.invariant-loop-i
invariant-loop-i l =
    (l.butterfly ≡ filled 0 l.i (words_of l.log (controls_in 0 l.self.switches)).butterfly) × (l.inverse ≡ filled 0 l.i (words_of l.log (controls_in 0 l.self.switches)).inverse)
