-- The first stage by least switches is valid, and leads every valid one.
-- Assumes nothing.
use mathlib.Core.Path.{◌≡◌, refl, sym, ap, ◌∙◌}
use mathlib.Core.Logic.{◌⊎◌, inl, inr}
use mathlib.Core.Bool.{Bool, true, false, not, cond}
use Prim.Native.Nat.{ℕ, zero, suc, ◌≤◌, ◌<◌}
use native.Mathlib.Decide.{dec_lt}
use native.Mathlib.Omega.{arith}
use lib.Dec.{leb}
use borrow.Author.Tests.{leb-true, leb-false}
use Rattle.routing.specs.Loop.{Maps, IsPermutation, xor, pass, flip, side, Valid, loop_turn, loop_turns, least, first_stage}
use Rattle.routing.proofs.Stage.{not-not, flip-flip, flip-switch, side-flip, side-low}
use Rattle.routing.proofs.Loop.{
  Numbered,
  Reach,
  side-turns,
  same-on-loop,
  IsLeast,
  least-unique,
  period,
  within-period,
  reach-sym,
  reach_step,
  reach-flip,
  reach-turn,
  stay,
}

module _ {S : Type 0} (K : Numbered S) (m : Maps (Bool × S)) (perm : IsPermutation m) where
  record PickLe (x y z : Bool × S) : Type 0 where
    le_left : K.index z.1 ≤ K.index x.1
    le_right : K.index z.1 ≤ K.index y.1

  pick-le : (x y : Bool × S) → PickLe x y (cond (leb (K.index x.1) (K.index y.1)) x y)
  pick-le x y = go (leb (K.index x.1) (K.index y.1)) refl
    where
      go : (b : Bool) → leb (K.index x.1) (K.index y.1) ≡ b → PickLe x y (cond b x y)
      go true e = record { le_left = omega arith; le_right = leb-true (K.index x.1) (K.index y.1) e }
      go false e =
          record { le_left = omega (arith, leb-false (K.index x.1) (K.index y.1) e); le_right = omega arith }

  least-le :
      (k : ℕ) (x : Bool × S) (i : ℕ)
      → i ≤ k
      → K.index (least K.index m k x).1 ≤ K.index (loop_turns m i x).1
  unfolding least loop_turns
  least-le zero x zero h = omega arith
  least-le zero x (suc i) h = absurd (omega arith)
  least-le (suc k) x zero h = (pick-le x (least K.index m k (loop_turn m x))).le_left
  least-le (suc k) x (suc i) h =
      omega
      (arith, (pick-le x (least K.index m k (loop_turn m x))).le_right, least-le k (loop_turn m x) i (omega arith))

  least_on : (k : ℕ) (x : Bool × S) → Reach m x (least K.index m k x)
  unfolding least loop_turns
  least_on zero x = record { steps = 0; ends = refl }
  least_on (suc k) x = go (leb (K.index x.1) (K.index (least K.index m k (loop_turn m x)).1)) (least_on k (loop_turn m x))
    where
      go : (b : Bool) → Reach m (loop_turn m x) (least K.index m k (loop_turn m x)) → Reach m x (cond b x (least K.index m k (loop_turn m x)))
      go true r = record { steps = 0; ends = refl }
      go false r = record { steps = suc r.steps; ends = r.ends }

  pub least_of : Bool × S → Bool × S
  least_of x = least K.index m K.count x

  pub least-is : (x : Bool × S) → IsLeast K m perm x (least_of x)
  unfolding least_of
  least-is x = record { on = least_on K.count x; least-of = λ z r. bound z r }
    where
      bound : (z : Bool × S) → Reach m x z → K.index (least K.index m K.count x).1 ≤ K.index z.1
      bound z r =
          let p = period K m perm x in
          let w = within-period K m perm x p r.steps in
          let e : loop_turns m w.0 x ≡ z = sym w.2 ∙ r.ends in
          rw e at (least-le K.count x w.0 (omega (arith, w.1, p.short)))

  least-same : (x y : Bool × S) → Reach m x y → least_of x ≡ least_of y
  least-same x y r =
      let a = least-is x in
      let b = least-is y in
      least-unique K m perm x (least_of x) (least_of y) a
      (record {
        on = reach_step K m perm r b.on;
        least-of = λ z q. b.least-of z (reach_step K m perm (reach-sym K m perm r) q);
      })

  reach-flipped : (x z : Bool × S) → Reach m (flip x) z → Reach m x (flip z)
  reach-flipped x z q = rw (flip-flip x) at (reach-flip K m perm q)

  least-flip : (x : Bool × S) → least_of (flip x) ≡ flip (least_of x)
  least-flip x =
      let a = least-is x in
      least-unique K m perm (flip x) (least_of (flip x)) (flip (least_of x)) (least-is (flip x))
      (record {
        on = reach-flip K m perm a.on;
        least-of = λ z q.
            rw (flip-switch (least_of x), ← (flip-switch z)) (a.least-of (flip z) (reach-flipped x z q));
      })

  abbrev pub first_of : S → Bool
  first_of s = first_stage K.index K.count m s

  side-cong : (f g : S → Bool) (x : Bool × S) → f x.1 ≡ g x.1 → side f x ≡ side g x
  unfolding side
  side-cong f g x e = ap (λ (b : Bool). xor b x.0) e

  stage-low : (s : S) → first_of s ≡ (least_of (false, s)).0
  unfolding least_of first_stage
  stage-low s = refl

  -- a bit goes to the side on which its loop meets its least switch
  side-first : (b : Bool) (s : S) → side first_of (b, s) ≡ (least_of (b, s)).0
  unfolding flip
  side-first false s = side-low first_of s ∙ stage-low s
  side-first true s =
      side-flip first_of (false, s)
      ∙ ap not (side-low first_of s ∙ stage-low s)
      ∙ ap (λ (y : Bool × S). y.0) (sym (least-flip (false, s)))

  side-first-turn : (x : Bool × S) → side first_of (loop_turn m x) ≡ side first_of x
  side-first-turn x =
      side-first (loop_turn m x).0 (loop_turn m x).1
      ∙ ap (λ (y : Bool × S). y.0) (sym (least-same x (loop_turn m x) (reach-turn K m perm x)))
      ∙ sym (side-first x.0 x.1)

  pub first-valid : Valid m first_of
  unfolding loop_turn
  first-valid p =
      cc
      (side-first-turn (m.to p), perm.from-to p, side-flip first_of (m.to (flip p)), not-not (side first_of (m.to (flip p))))

  -- a switch that is the least of its loop passes
  pub passes-if-least : (s : S) → ¬ (K.index (least_of (false, s)).1 < K.index s) → first_of s ≡ pass
  passes-if-least s h =
      let a = least-is (false, s) in
      let q : K.index (least_of (false, s)).1 ≡ K.index s =
      omega (arith, a.least-of (false, s) (stay K m perm (false, s))) in
      let same =
      same-on-loop m perm a.on.steps (false, s)
      (ap (λ (z : Bool × S). z.1) a.on.ends ∙ K.injective (least_of (false, s)).1 s q) in
      stage-low s ∙ ap (λ (z : Bool × S). z.0) (sym a.on.ends ∙ same)

  -- a valid f that agrees below s: ours passes at s, or they agree there
  pub first-leads :
      (f : S → Bool)
      → Valid m f
      → (s : S)
      → ((t : S) → K.index t < K.index s → first_of t ≡ f t)
      → (first_of s ≡ pass) ⊎ (first_of s ≡ f s)
  first-leads f valid s agree = go (dec_lt (K.index (least_of (false, s)).1) (K.index s))
    where
      go : Dec (K.index (least_of (false, s)).1 < K.index s) → (first_of s ≡ pass) ⊎ (first_of s ≡ f s)
      go (yes l) =
          let r = (least-is (false, s)).on in
          inr
          (cc
          (side-low first_of s, side-low f s, side-turns m perm first_of first-valid r.steps (false, s), side-turns m perm f valid r.steps (false, s), r.ends, side-cong first_of f (least_of (false, s)) (agree (least_of (false, s)).1 l)))
      go (no g) = inl (passes-if-least s g)
