-- `permute::route_one` meets its contract. Assumes nothing.
use mathlib.Core.Path.{◌∙◌}
use Rattle.alone.specs.Calls.{fits_alone, alone}
use Rattle.permute.proofs.AloneAnswers.{one-turned-back, one-answered, answers-alone, either-alone}
use Rattle.permute.proofs.route_one.Goals as goal

pub returns : goal.returns
returns c =
    let a = c.args in
    let e = one-answered a.width a.entries.now (fits_alone a.rising) (alone a.rising) c.in-Ok.ensures in
    record { value = e; alone = answers-alone a.width a.entries.now (fits_alone a.rising) (alone a.rising) (either-alone a.rising) e }

pub returns-in-Err : goal.returns-in-Err
returns-in-Err c =
    let a = c.args in
    let e = c.from.ensures ∙ one-turned-back a.width a.entries.now (fits_alone a.rising) (alone a.rising) c.in-Err.refusal c.in-Err.ensures in
    record { value = e; alone = answers-alone a.width a.entries.now (fits_alone a.rising) (alone a.rising) (either-alone a.rising) e }
