-- `runs::status_after` meets its contract. Assumes nothing.
use borrow.Author.Rules.{rules}
use Rattle.runs.specs.Run.{status_bit}
use Rattle.runs.proofs.StatusBits.{with-bit-by}
use Rattle.runs.proofs.status_after.Goals as goal

pub returns : goal.returns
returns c =
    let a = c.args in
    with-bit-by a.status (status_bit a.«end») (search rules) c.status_mark-mark.ensures (search rules)
