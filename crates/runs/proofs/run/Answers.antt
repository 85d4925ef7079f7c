-- `runs::run` meets its contract. Assumes nothing.
use Rattle.unit.specs.Bank.{waits}
use Rattle.runs.proofs.Ends.{performed}
use Rattle.runs.proofs.run.Goals as goal

pub returns : goal.returns
returns c =
    let a = c.args in
    performed c.run_refusal-checked.result c.map_err.result (waits a.bank.now.registers) a.ops.now a.bank.now a.budget c.run_refusal-checked.ensures c.map_err.ensures.cases c.perform.ensures
