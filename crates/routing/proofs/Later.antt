-- From leading to coming later: the first difference, by a finite search in the direction of travel.
-- Assumes nothing.
use mathlib.Core.Path.{◌≡◌, refl, sym, ap, ◌∙◌, subst}
use mathlib.Core.Logic.{◌⊎◌, inl, inr, ◌≢◌}
use mathlib.Core.Bool.{Bool, true, false, cond, Bool-discrete}
use Prim.Native.Nat.{ℕ, suc, ◌+◌, ◌-◌, ◌^◌, ◌<◌}
use native.Mathlib.Decide.{dec_lt}
use native.Mathlib.Omega.{arith}
use lib.Dec.{ltb}
use borrow.Author.Tests.{lt-ltb, le-ltb, ltb-true, ltb-false}
use Rattle.routing.specs.Loop.{pass, swap}
use Rattle.routing.specs.Stages.{Stage, Butterfly, Inverse, exponent, StageControls, Earlier, AgreeBefore, Agree, ComesLater, Leads}
use Rattle.routing.proofs.Finite.{Least, least-or-none}

-- the position of a stage in the direction of travel, and the stage at a position
abbrev pub position : ℕ → Stage → ℕ
position n (Butterfly e) = n - suc e
position n (Inverse e) = n + e

abbrev pub stage_at : ℕ → ℕ → Stage
stage_at n r = cond (ltb r n) (Butterfly (n - suc r)) (Inverse (r - n))

pub position-small : (n : ℕ) (c : Stage) → exponent c < n → position n c < n + n
position-small n (Butterfly e) l = omega arith
position-small n (Inverse e) l = omega arith

stage-position : (n : ℕ) (c : Stage) → exponent c < n → stage_at n (position n c) ≡ c
stage-position n (Butterfly e) l =
    let x : n - suc (n - suc e) ≡ e = omega arith in
    ap (λ (b : Bool). cond b (Butterfly (n - suc (n - suc e))) (Inverse (n - suc e - n))) (lt-ltb (n - suc e) n (omega arith))
    ∙ ap Butterfly x
stage-position n (Inverse e) l =
    let x : n + e - n ≡ e = omega arith in
    ap (λ (b : Bool). cond b (Butterfly (n - suc (n + e))) (Inverse (n + e - n))) (le-ltb (n + e) n (omega arith))
    ∙ ap Inverse x

-- r is the position of the stage at r, which is in range
pub record PositionAt (n r : ℕ) (c : Stage) : Type 0 where
  pub is : position n c ≡ r
  pub inside : exponent c < n

pub position-stage : (n r : ℕ) → r < n + n → PositionAt n r (stage_at n r)
position-stage n r l = go (ltb r n) refl
  where
    go : (b : Bool) → ltb r n ≡ b → PositionAt n r (cond b (Butterfly (n - suc r)) (Inverse (r - n)))
    go true e = let h = ltb-true r n e in record { is = omega arith; inside = omega arith }
    go false e = let h = ltb-false r n e in record { is = omega arith; inside = omega arith }

earlier-position : (n : ℕ) (c d : Stage) → exponent c < n → exponent d < n → Earlier c d → position n c < position n d
earlier-position n (Butterfly a) (Butterfly b) h k e = omega arith
earlier-position n (Butterfly a) (Inverse b) h k e = omega arith
earlier-position n (Inverse a) (Butterfly b) h k e = absurd e
earlier-position n (Inverse a) (Inverse b) h k e = omega arith

same-unless : (a b : Bool) → ¬ (a ≢ b) → a ≡ b
same-unless a b nn = go (Bool-discrete a b)
  where
    go : Dec (a ≡ b) → a ≡ b
    go (yes e) = e
    go (no ne) = absurd (nn ne)

swap-if-not-pass : (b : Bool) → b ≢ pass → b ≡ swap
swap-if-not-pass true ne = refl
swap-if-not-pass false ne = absurd (ne refl)

module _ (n : ℕ) (C D : StageControls) where
  -- C and D differ at a switch of a stage
  record Apart (c : Stage) (s : ℕ) : Type 0 where
    inside : s + s < 2 ^ n
    differ : C c s ≢ D c s

  apart-at : (c : Stage) (s : ℕ) → s + s < 2 ^ n → C c s ≢ D c s → Apart c s
  apart-at c s h ne = record { inside = h; differ = ne }

  apart? : (c : Stage) (s : ℕ) → Dec (Apart c s)
  apart? c s = go (dec_lt (s + s) (2 ^ n)) (Bool-discrete (C c s) (D c s))
    where
      go : Dec (s + s < 2 ^ n) → Dec (C c s ≡ D c s) → Dec (Apart c s)
      go (yes l) (no ne) = yes (record { inside = l; differ = ne })
      go (yes l) (yes e) = no (λ a. a.differ e)
      go (no g) d = no (λ a. g a.inside)

  abbrev FirstApart : Stage → Type 0
  FirstApart c = Least (Apart c) (2 ^ n)

  stage-apart? : (c : Stage) → Dec (FirstApart c)
  stage-apart? c = go (least-or-none (Apart c) (apart? c) (2 ^ n))
    where
      go : FirstApart c ⊎ ((s : ℕ) → s < 2 ^ n → ¬ (Apart c s)) → Dec (FirstApart c)
      go (inl l) = yes l
      go (inr none) = no (λ l. none l.value l.below l.holds)

  stage-same : (c : Stage) → ¬ (FirstApart c) → (s : ℕ) → s + s < 2 ^ n → C c s ≡ D c s
  stage-same c none s h = go (least-or-none (Apart c) (apart? c) (2 ^ n))
    where
      go : FirstApart c ⊎ ((s : ℕ) → s < 2 ^ n → ¬ (Apart c s)) → C c s ≡ D c s
      go (inl l) = absurd (none l)
      go (inr all) = same-unless (C c s) (D c s) (λ ne. all s (omega arith) (record { inside = h; differ = ne }))

  -- C passes at the first difference
  later-at :
      Leads n C D
      → (c : Stage) (w : FirstApart c)
      → exponent c < n
      → AgreeBefore n C D c w.value
      → ComesLater n C D
  later-at lead c w h before =
      go (lead c w.value (record { at_stage = h; switch = w.holds.inside }) before)
    where
      go : (C c w.value ≡ pass) ⊎ (C c w.value ≡ D c w.value) → ComesLater n C D
      go (inr e) = absurd (w.holds.differ e)
      go (inl e) =
          record {
            at_stage = c;
            switch = w.value;
            inside = record { at_stage = h; switch = w.holds.inside };
            before = before;
            passes = e;
            swaps = swap-if-not-pass (D c w.value) (λ q. w.holds.differ (e ∙ sym q));
          }

  pub agree-or-later : Leads n C D → Agree n C D ⊎ ComesLater n C D
  agree-or-later lead =
      go (least-or-none (λ r. FirstApart (stage_at n r)) (λ r. stage-apart? (stage_at n r)) (n + n))
    where
      at_position : (c : Stage) → exponent c < n → ¬ (FirstApart (stage_at n (position n c))) → ¬ (FirstApart c)
      at_position c h none = subst (λ (d : Stage). ¬ (FirstApart d)) (stage-position n c h) none

      go :
          Least (λ r. FirstApart (stage_at n r)) (n + n)
          ⊎ ((r : ℕ) → r < n + n → ¬ (FirstApart (stage_at n r)))
          → Agree n C D ⊎ ComesLater n C D
      go (inr none) =
          inl
          (λ c s i.
          stage-same c (at_position c i.at_stage (none (position n c) (position-small n c i.at_stage))) s
          i.switch)
      go (inl l) = inr (later-at lead c w k.inside before)
        where
          c : Stage
          c = stage_at n l.value

          k : PositionAt n l.value c
          k = position-stage n l.value l.below

          w : FirstApart c
          w = l.holds

          before : AgreeBefore n C D c w.value
          before d t i (inl e) =
              stage-same d
              (at_position d i.at_stage
              (l.first (position n d)
              (omega (arith, k.is, earlier-position n d c i.at_stage k.inside e))))
              t i.switch
          before d t i (inr (e, h)) =
              same-unless (C d t) (D d t)
              (λ ne. w.first t h (rw e at (apart-at d t i.switch ne)))
