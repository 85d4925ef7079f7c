-- What the call's answer comes to, by the tests that the code makes. Assumes nothing.
use mathlib.Core.Path.{◌≡◌, refl, sym, ◌∙◌, ap}
use mathlib.Core.Bool.{cond}
use mathlib.Core.List.{List}
use Prim.Native.Nat.{ℕ, ◌*◌, ◌<◌, ◌≤◌}
use native.Mathlib.Omega.{arith}
use native.Mathlib.Nat.{mul-le-mul_right, mul_comm, mul-zero}
use native.Mathlib.Decide.{ℕ_discrete}
use lib.Dec.{eqb}
use lib.ListN.{length}
use borrow.Author.Tests.{lt-ltb, le-ltb, eq-eqb, ne_eqb, eqb-true, eqb-false, ltb-false, not-false}
use Rattle.bits.specs.Bit.{overwritten}
use Rattle.bits.specs.Refusal.{lowest, AnswersLowest}
use Rattle.bits.proofs.Refusals.{answers-leaving, left-done, left-refused, none-applies, neither}
use Rattle.despeckle.specs.Plane.{new_word}
use Rattle.despeckle.specs.Window.{IsPlane}
use Rattle.despeckle.specs.Calls.{plane_conditions, plane_refusal, despeckle_answer, despeckled_out}

-- a product with a factor that is not zero is no less than the other
pub no_less : {v h : ℕ} → (v ≡ 0 → ⊥) → h ≤ v * h
no_less {v} {h} z = let l : 1 ≤ v = omega arith in omega (arith, mul-le-mul_right h l)

pub no_words : (v : ℕ) {h : ℕ} → h ≡ 0 → v * h ≡ 0
no_words v {h} e = ap (λ (n : ℕ). v * n) e ∙ mul-zero v

-- a call that is carried out is within the limits
pub record PlaneInLimits (own h v other : ℕ) : Type 0 where
  pub own-limit : own ≤ 2048
  pub other-limit : other ≤ 2048
  pub room : v * h ≤ other
  pub some-rows : h ≡ 0 → ⊥
  pub some_words : v ≡ 0 → ⊥
  pub whole : v * h ≡ own

module _ (own h v other : ℕ) where
  pub plane-within : plane_refusal own h v other ≡ 0 → PlaneInLimits own h v other
  unfolding plane_refusal
  plane-within e =
      let n = none-applies (plane_conditions own h v other) (omega arith) e in
      let o = neither _ _ n.0 in
      let p = neither _ _ n.1.1.0 in
      let q = neither _ _ p.1 in
      record {
        own-limit = ltb-false 2048 own o.0;
        other-limit = ltb-false 2048 other o.1;
        room = ltb-false other (v * h) n.1.0;
        some-rows = eqb-false h 0 p.0;
        some_words = eqb-false v 0 q.0;
        whole = eqb-true (v * h) own (not-false _ q.1);
      }

  pub by-short : own ≤ 2048 → other ≤ 2048 → other < v * h → 10 ≡ plane_refusal own h v other
  unfolding plane_refusal
  by-short a b l = simp (le-ltb 2048 own a, le-ltb 2048 other b, lt-ltb other (v * h) l)

  pub plane-by-none : PlaneInLimits own h v other → 0 ≡ plane_refusal own h v other
  unfolding plane_refusal
  plane-by-none w =
      simp (
        le-ltb 2048 own w.own-limit,
        le-ltb 2048 other w.other-limit,
        le-ltb other (v * h) w.room,
        ne_eqb h 0 w.some-rows,
        ne_eqb v 0 w.some_words,
        eq-eqb (v * h) own w.whole,
      )

-- so its words are a plane, of few rows of few words
pub is-plane : (ws : List ℕ) (h v other : ℕ) → PlaneInLimits (length ws) h v other → IsPlane ws h v
is-plane ws h v other w = record {
  rows-limit = omega (arith, no_less {h = h} w.some_words, w.whole, w.own-limit);
  words-limit = omega (arith, no_less {h = v} w.some-rows, mul_comm h v, w.whole, w.own-limit);
  whole = w.whole;
}

-- what the call answers and leaves, from the number that the code found
module _ (ws : List ℕ) (h v : ℕ) (out : List ℕ) {n : ℕ} (e : n ≡ despeckle_answer ws h v out) where
  pub plane-refused : (n ≡ 0 → ⊥) → (n ≡ despeckle_answer ws h v out) × (out ≡ despeckled_out ws h v out)
  plane-refused z = (e, sym (left-refused (λ q. z (e ∙ q)) _ out))

  pub plane-done : n ≡ 0 → {left : List ℕ} → left ≡ overwritten (v * h) (new_word ws v h) out → (n ≡ despeckle_answer ws h v out) × (left ≡ despeckled_out ws h v out)
  plane-done z l = (e, l ∙ sym (left-done (sym e ∙ z) _ out))

-- demand 1, of the answer and of the words lent
pub despeckle-lowest : (ws : List ℕ) (h v : ℕ) (out : List ℕ)
    → AnswersLowest {A = ℕ × List ℕ} (plane_conditions (length ws) h v (length out)) (λ r. r.0) (λ n. (n, out))
    (despeckle_answer ws h v out, despeckled_out ws h v out)
unfolding plane_refusal
despeckle-lowest ws h v out =
    let cs = plane_conditions (length ws) h v (length out) in
    rw (itself (lowest cs)) at
    (answers-leaving cs (omega arith) (λ (n : ℕ). n) (λ n. n) 0 refl (λ n. refl) (overwritten (v * h) (new_word ws v h) out) out)
  where
    itself : (n : ℕ) → cond (eqb n 0) 0 n ≡ n
    itself n = by (ℕ_discrete n 0)
      where
        by : Dec (n ≡ 0) → cond (eqb n 0) 0 n ≡ n
        by (yes z) = rw (eq-eqb n 0 z) (sym z)
        by (no z) = rw (ne_eqb n 0 z)
