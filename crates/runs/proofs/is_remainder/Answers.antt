-- `runs::is_remainder` meets its contract. Assumes nothing.
use mathlib.Core.Path.{◌≡◌}
use native.Mathlib.Omega.{arith}
use borrow.Author.Rules.{rules}
use borrow.Author.Tests.{eq-eqb}
use lib.ListN.{length}
use Rattle.runs.proofs.Remainders.{not_same}
use Rattle.runs.proofs.is_remainder.Goals as goal

pub returns-then-left-gt4096 : goal.returns-then-left-gt4096
returns-then-left-gt4096 c =
    let k = c.args.bank.now in
    let l : length k.list ≡ 4096 = search rules in
    rw (eq-eqb _ _ c.if-ops-left.false, not_same k.registers.left k.list c.args.ops.now (omega (arith, l, c.if-left-gt4096.true, c.if-ops-left.false)))
