-- What the loops of `alone::Routes::stages` keep. Assumes nothing.
use mathlib.Core.Path.{◌≡◌}
use mathlib.Core.Bool.{true}
use Prim.Native.Nat.{◌^◌}
use lib.Dec.{eqb}
use Rattle.network.proofs.Filling.{filled}
use Rattle.routing.specs.Alone.{every_below}
use Rattle.alone.specs.Asked.{unasked, both, stage_words}
use Rattle.alone.proofs.Routes.stages.Given as goal

abbrev pub invariant-loop-at : goal.invariant-loop-at
invariant-loop-at l =
    let r = l.self in
    (l.stages ≡ filled 0 l.at (stage_words r.rising r.log (unasked true r.places.now r.sources.now (2 ^ r.log))))
    × (every_below l.at (λ i. eqb (both r.rising r.log r.places.now r.sources.now i) 0) ≡ true)
