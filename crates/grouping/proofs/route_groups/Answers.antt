-- `grouping::route_groups` meets its contract. Assumes nothing.
use mathlib.Core.Path.{◌∙◌}
use Rattle.grouping.proofs.Theorems.{answers-groups}
use Rattle.grouping.proofs.GroupAnswers.{groups-refused, steps-allowed, groups-done}
use Rattle.grouping.proofs.route_groups.Goals as goal

pub step_masks-masks-requires : goal.step_masks-masks-requires
step_masks-masks-requires c = steps-allowed c.args.width c.args.entries.now c.in-Ok.ensures.0 c.in-Ok.ensures.1

pub returns-in-Ok : goal.returns-in-Ok
returns-in-Ok c =
    let a = c.args in
    let e = groups-done a.width a.entries.now c.in-Ok.ensures.0 c.in-Ok.ensures.1 c.step_masks-masks.ensures in
    record { value = e; permutes = answers-groups a.width a.entries.now e }

pub returns-in-Err : goal.returns-in-Err
returns-in-Err c =
    let a = c.args in
    let e = c.from.ensures ∙ groups-refused a.width a.entries.now c.in-Err.refusal c.in-Err.ensures in
    record { value = e; permutes = answers-groups a.width a.entries.now e }
