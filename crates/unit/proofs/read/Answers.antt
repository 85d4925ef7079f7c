-- `unit::read` meets its contract. Assumes nothing.
use mathlib.Core.Path.{◌≡◌}
use Rattle.bits.specs.Refusal.{number_of}
use Rattle.unit.specs.Calls.{number_refusal, read_of}
use Rattle.bits.proofs.Numbers.{number-refused}
use Rattle.unit.proofs.read.Goals as goal

pub returns-in-Ok : goal.returns-in-Ok
unfolding read_of
returns-in-Ok c =
    let e : 0 ≡ number_refusal c.args.number = c.in-Ok.ensures in
    rw (← e, c.general_at.ensures)

pub returns-in-Err : goal.returns-in-Err
unfolding read_of
returns-in-Err c =
    let e : number_of c.in-Err.refusal ≡ number_refusal c.args.number = c.in-Err.ensures in
    rw (← e, number-refused c.in-Err.refusal) c.from.ensures
