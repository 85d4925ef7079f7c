-- `runs::end_of` meets its contract. Assumes nothing.
use mathlib.Core.Path.{ap, sym}
use mathlib.Core.Bool.{Bool, cond}
use native.Mathlib.Omega.{arith}
use lib.ListN.{length}
use borrow.Author.Tests.{lt-ltb, le-ltb}
use Rattle.runs.specs.Run.{operations_of}
use Rattle.runs.proofs.OperationLists.{length-operations}
use Rattle.runs.proofs.end_of.Goals as goal

pub returns-then-ran-ops : goal.returns-then-ran-ops
returns-then-ran-ops c =
    let e = length-operations c.args.ops.bytes.now c.args.ops.whole in
    sym (ap (λ (b : Bool). cond b 2 1) (lt-ltb c.args.ran (length (operations_of c.args.ops.bytes.now)) (omega (arith, e, c.if-ran-ops.true))))

pub returns : goal.returns
returns c =
    let e = length-operations c.args.ops.bytes.now c.args.ops.whole in
    sym (ap (λ (b : Bool). cond b 2 1) (le-ltb c.args.ran (length (operations_of c.args.ops.bytes.now)) (omega (arith, e, c.if-ran-ops.false))))
