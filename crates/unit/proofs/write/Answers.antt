-- `unit::write` meets its contract. Assumes nothing.
use mathlib.Core.Path.{◌≡◌}
use Rattle.bits.specs.Refusal.{number_of}
use Rattle.unit.specs.Calls.{number_refusal, write_of}
use Rattle.bits.proofs.Numbers.{number-refused}
use Rattle.unit.proofs.write.Goals as goal

pub returns-in-Ok-clause-answer : goal.returns-in-Ok-clause-answer
unfolding write_of
returns-in-Ok-clause-answer c =
    let e : 0 ≡ number_refusal c.args.number = c.in-Ok.ensures in
    rw (← e)

pub returns-in-Ok-clause-registers : goal.returns-in-Ok-clause-registers
unfolding write_of
returns-in-Ok-clause-registers c =
    let e : 0 ≡ number_refusal c.args.number = c.in-Ok.ensures in
    rw (← e) c.put.ensures

pub returns-in-Err-clause-answer : goal.returns-in-Err-clause-answer
unfolding write_of
returns-in-Err-clause-answer c =
    let e : number_of c.in-Err.refusal ≡ number_refusal c.args.number = c.in-Err.ensures in
    rw (← e, number-refused c.in-Err.refusal) c.from.ensures

pub returns-in-Err-clause-registers : goal.returns-in-Err-clause-registers
unfolding write_of
returns-in-Err-clause-registers c =
    let e : number_of c.in-Err.refusal ≡ number_refusal c.args.number = c.in-Err.ensures in
    rw (← e, number-refused c.in-Err.refusal)
