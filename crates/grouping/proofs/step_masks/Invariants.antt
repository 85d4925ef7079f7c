-- What the loops of `grouping::step_masks` keep. Assumes nothing.
use Prim.Native.Nat.{◌-◌}
use lib.ListN.{length, take}
use Rattle.grouping.proofs.StepsLeft.{Stepped}
use Rattle.grouping.proofs.step_masks.Given as goal

abbrev pub invariant-loop-step : goal.invariant-loop-step
invariant-loop-step l =
    let w = length l.entries in
    Stepped w l.log (take w l.initial.from) (l.step - 1) l.from l.into l.masks
