-- What the loops of `alone::Routes::asked_of` keep. Assumes nothing.
use mathlib.Core.Path.{◌≡◌}
use mathlib.Core.Bool.{true, false}
use Prim.Native.Nat.{◌/◌, ◌^◌}
use lib.ListN.{length}
use Rattle.routing.specs.Lists.{word_of}
use Rattle.alone.specs.Asked.{unasked}
use Rattle.alone.proofs.Routes.asked_of.Given as goal

abbrev pub invariant-loop-place : goal.invariant-loop-place
invariant-loop-place l =
    (l.asked.pass ≡ word_of (2 ^ l.self.log / 2) (unasked true l.self.places.now l.self.sources.now (length l.yielded) l.exponent))
    × (l.asked.swap ≡ word_of (2 ^ l.self.log / 2) (unasked false l.self.places.now l.self.sources.now (length l.yielded) l.exponent))
