-- `runs::acknowledge` meets its contract. Assumes nothing.
use mathlib.Core.Path.{ap}
use borrow.Author.Rules.{rules}
use Rattle.unit.specs.Bank.{with_status}
use Rattle.runs.proofs.StatusBits.{cleared_by}
use Rattle.runs.proofs.acknowledge.Goals as goal

pub returns : goal.returns
returns c =
    let k = c.args.registers.now in
    ap (with_status k) (cleared_by k.status c.args.byte (search rules) (search rules))
