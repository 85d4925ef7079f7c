-- `runs::run_refusal` meets its contract. Assumes nothing.
use mathlib.Core.Path.{refl, sym}
use borrow.Author.Tests.{eq-eqb, ne_eqb, le-leb, lt-leb}
use Rattle.std.proofs.lemmas.Result.{err_from_is_err_and}
use Rattle.runs.proofs.OperationLists.{run-refusal-by}
use Rattle.runs.proofs.run_refusal.Goals as goal

pub returns-then-ops-ne0 : goal.returns-then-ops-ne0
returns-then-ops-ne0 c = let a = c.args in sym (run-refusal-by a.other a.ops.now (ne_eqb _ _ c.if-ops-ne0.true) refl refl)

pub returns-then-ops-gt4096 : goal.returns-then-ops-gt4096
returns-then-ops-gt4096 c =
    let a = c.args in
    sym (run-refusal-by a.other a.ops.now (eq-eqb _ _ c.if-ops-ne0.false) (lt-leb _ _ c.if-ops-gt4096.true) refl)

pub returns-in_err-check_operations : goal.returns-in_err-check_operations
returns-in_err-check_operations c =
    let a = c.args in
    let p = err_from_is_err_and c.from_residual.result c.from_residual.ensures.1 in
    rw (p.1, p.2) (sym (run-refusal-by a.other a.ops.now (eq-eqb _ _ c.if-ops-ne0.false) (le-leb _ _ c.if-ops-gt4096.false) (sym c.in_err-check_operations.ensures)))

pub returns : goal.returns
returns c =
    let a = c.args in
    (refl, run-refusal-by a.other a.ops.now (eq-eqb _ _ c.if-ops-ne0.false) (le-leb _ _ c.if-ops-gt4096.false) (sym c.in_ok-check_operations.ensures))
