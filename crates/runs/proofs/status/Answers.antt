-- `runs::status` meets its contract. Assumes nothing.
use Rattle.runs.proofs.StatusBits.{status-by}
use Rattle.runs.proofs.status.Goals as goal

pub returns : goal.returns
returns c = status-by c.args.registers.now
