-- `pack::Cut::accept_packed` meets its contract. Assumes nothing.
use mathlib.Core.Path.{◌≡◌, sym}
use Rattle.std.proofs.Common.{Err}
use borrow.Author.Rules.{rules}
use Rattle.pack.proofs.FieldAnswers.{within, by-fields, unpack-refusal-by}
use Rattle.pack.proofs.Cut.accept_packed.Goals as goal

pub returns-in_err-cut : goal.returns-in_err-cut
returns-in_err-cut c =
    let r = c.in_err-cut.field-0.0 in
    let e : c.from_residual.result ≡ Err r = search rules in
    rw e (by-fields _ _ _ _ _ r c.in_err-cut.ensures)

-- a call that 9 and 10 do not refuse is within the limits
pub has_spare_one-requires : goal.has_spare_one-requires
has_spare_one-requires c =
    let e = c.in_ok-cut.ensures in
    rw (e.0, e.1, e.2) (within _ _ _ _ _ e.3).room

pub returns-then-has_spare_one : goal.returns-then-has_spare_one
returns-then-has_spare_one c =
    let e = c.in_ok-cut.ensures in
    rw c.if-has_spare_one.true at (unpack-refusal-by _ _ _ _ _ (sym e.3) (rw (e.0, e.1, e.2) at c.has_spare_one.ensures))

pub returns : goal.returns
returns c =
    let e = c.in_ok-cut.ensures in
    (e.0, e.1, e.2, sym (rw c.if-has_spare_one.false at (unpack-refusal-by _ _ _ _ _ (sym e.3) (rw (e.0, e.1, e.2) at c.has_spare_one.ensures))))
