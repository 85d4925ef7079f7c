-- What the loops of `despeckle::slide_eight` keep. Assumes nothing.
use Prim.Native.Nat.{◌-◌, ◌*◌, ◌/◌, ◌^◌}
use Rattle.despeckle.specs.Window.{Passes}
use Rattle.despeckle.proofs.slide_eight.Given as goal

abbrev pub invariant-loop-part : goal.invariant-loop-part
invariant-loop-part g l =
    Passes (8 * l.width - l.width * l.part) l.fn.start.number (l.rows.above / 2 ^ (l.width * l.part)) (l.rows.own / 2 ^ (l.width * l.part))
    (l.rows.below / 2 ^ (l.width * l.part)) l.window.number l.word
