-- `despeckle::despeckle` meets its contract. Assumes nothing.
use mathlib.Core.Path.{◌≡◌, sym, ◌∙◌}
use lib.ListN.{length}
use Rattle.bits.specs.Refusal.{number_in}
use Rattle.bits.proofs.Numbers.{done-is_ok, refused-is_ok}
use Rattle.despeckle.proofs.PlaneAnswers.{PlaneInLimits, plane-within, is-plane, plane-refused, plane-done}
use Rattle.despeckle.proofs.despeckle.Goals as goal
use Rattle.despeckle.proofs.despeckle.Goals.{Then-is_ok, then-is_ok, else-is_ok}

-- a call that is not refused is within the limits
allowed : (c : Then-is_ok) → number_in c.check-outcome.result ≡ 0 → let a = c.args in PlaneInLimits (length a.plane.now) a.rows a.words (length a.out.now)
allowed c z = plane-within _ _ _ _ (sym c.check-outcome.ensures ∙ z)

pub invariant_of-plane : goal.invariant_of-plane
invariant_of-plane c =
    let u = (goal.at.invariant_of-plane c).Then-is_ok in
    record { whole = is-plane _ _ _ _ (allowed u (done-is_ok _ (sym u.if-is_ok.ensures.value))) }

pub despeckle_rows-requires : goal.despeckle_rows-requires
despeckle_rows-requires c =
    let v = (goal.at.despeckle_rows-requires c).Then-is_ok in
    (allowed v (done-is_ok _ (sym v.if-is_ok.ensures.value))).room

pub returns : goal.returns
returns c =
    let a = c.args in
    let e = c.number.ensures ∙ c.check-outcome.ensures in
    elim c.if-is_ok.branch [
      | then-is_ok w ↦ plane-done a.plane.now a.rows a.words a.out.now e (c.number.ensures ∙ done-is_ok _ (sym w.if-is_ok.ensures.value)) (w.out-is ∙ w.despeckle_rows.ensures)
      | else-is_ok w ↦ rw w.out-is (plane-refused a.plane.now a.rows a.words a.out.now e (λ z. refused-is_ok _ (sym w.if-is_ok.ensures.value) (sym c.number.ensures ∙ z)))
    ]
