-- `permute::route` meets its contract. Assumes nothing.
use mathlib.Core.Path.{sym, ◌∙◌}
use Rattle.permute.proofs.PermutationAnswers.{route-permutes}
use Rattle.permute.proofs.FirstAnswers.{route-refused, route-done, answers-first}
use Rattle.permute.proofs.route.Goals as goal

pub controls-requires : goal.controls-requires
controls-requires c = route-permutes c.args.width c.args.entries.now (sym c.in-Ok.ensures) c.log_of.ensures

pub returns-in-Ok : goal.returns-in-Ok
returns-in-Ok c =
    let a = c.args in
    let e = route-done a.width a.entries.now (sym c.in-Ok.ensures) c.log_of.ensures c.controls.ensures.0 c.controls.ensures.1 in
    record { value = e; first = answers-first a.width a.entries.now e }

pub returns-in-Err : goal.returns-in-Err
returns-in-Err c =
    let a = c.args in
    let e = c.from.ensures ∙ route-refused a.width a.entries.now c.in-Err.refusal c.in-Err.ensures in
    record { value = e; first = answers-first a.width a.entries.now e }
