-- `unit::operate` meets its contract. Assumes nothing.
use mathlib.Core.Path.{◌≡◌}
use Rattle.bits.specs.Refusal.{number_of}
use Rattle.unit.specs.Bank.{waits}
use Rattle.unit.specs.Operation.{operation_refusal}
use Rattle.unit.specs.Calls.{operate_of}
use Rattle.bits.proofs.Numbers.{number-refused}
use Rattle.unit.proofs.operate.Goals as goal

pub returns-in-Ok-clause-answer : goal.returns-in-Ok-clause-answer
unfolding operate_of
returns-in-Ok-clause-answer c =
    let a = c.args in
    let e : 0 ≡ operation_refusal (waits a.registers.now) a.kind a.r1 a.r2 a.r3 = c.in-Ok.ensures in
    rw (← e, c.cycles_of.ensures)

pub returns-in-Ok-clause-registers : goal.returns-in-Ok-clause-registers
unfolding operate_of
returns-in-Ok-clause-registers c =
    let a = c.args in
    let e : 0 ≡ operation_refusal (waits a.registers.now) a.kind a.r1 a.r2 a.r3 = c.in-Ok.ensures in
    rw (← e) c.step.ensures

pub returns-in-Err-clause-answer : goal.returns-in-Err-clause-answer
unfolding operate_of
returns-in-Err-clause-answer c =
    let a = c.args in
    let e : number_of c.in-Err.refusal ≡ operation_refusal (waits a.registers.now) a.kind a.r1 a.r2 a.r3 = c.in-Err.ensures in
    rw (← e, number-refused c.in-Err.refusal) c.from.ensures

pub returns-in-Err-clause-registers : goal.returns-in-Err-clause-registers
unfolding operate_of
returns-in-Err-clause-registers c =
    let a = c.args in
    let e : number_of c.in-Err.refusal ≡ operation_refusal (waits a.registers.now) a.kind a.r1 a.r2 a.r3 = c.in-Err.ensures in
    rw (← e, number-refused c.in-Err.refusal)
