-- `runs::perform` meets its contract. Assumes nothing.
use mathlib.Core.Path.{ap}
use Rattle.unit.specs.declared.Registers.{Registers}
use Rattle.unit.specs.Bank.{bank_of, leaving}
use Rattle.runs.specs.declared.Turn.{Turn}
use Rattle.runs.proofs.Ends.{within-list}
use Rattle.runs.proofs.perform.Goals as goal

pub finish-end-requires : goal.finish-end-requires
finish-end-requires c =
    let ops = c.in-Ok.ops in
    within-list ops.bytes.now c.args.budget ops.whole (ap (λ (t : Turn × Registers). t.0.ran) c.go_on-turn.ensures)

pub returns-in-Err : goal.returns-in-Err
returns-in-Err c = rw c.in-Err.is (λ i. leaving (c.refused.ensures i) (bank_of (c.note.ensures i) c.args.bank.now.list))
