-- `runs::continue_run` meets its contract. Assumes nothing.
use mathlib.Core.Path.{◌∙◌, ap}
use mathlib.Core.Bool.{Bool, not, ◌&&◌}
use Rattle.unit.specs.Bank.{waits}
use Rattle.runs.specs.Run.{perform_of}
use Rattle.runs.proofs.Ends.{performed}
use Rattle.runs.proofs.continue_run.Goals as goal

pub returns : goal.returns
returns c =
    let a = c.args in
    let k = a.bank.now in
    performed c.run_refusal-checked.result c.map_err.result (not (waits k.registers && c.is_remainder-remainder.result)) a.ops.now k a.budget c.run_refusal-checked.ensures c.map_err.ensures.cases c.perform.ensures
    ∙ ap (λ (b : Bool). perform_of (not (waits k.registers && b)) k a.ops.now a.budget) c.is_remainder-remainder.ensures
