-- The first net leads every net that realises the permutation, in the direction of travel over the whole width.
-- Assumes nothing.
use mathlib.Core.Path.{◌≡◌, refl, sym, ap, ap₂, ◌∙◌, subst, fun_ext}
use mathlib.Core.Logic.{◌⊎◌, inl, inr}
use mathlib.Core.Bool.{Bool, false}
use Prim.Native.Nat.{ℕ, zero, suc, ◌+◌, ◌<◌}
use native.Mathlib.Decide.{dec_lt}
use native.Mathlib.Omega.{arith}
use Rattle.routing.specs.Place.{Place, weight, num, place, at}
use Rattle.routing.specs.Loop.{Maps, IsPermutation, pass, flip, Valid, last_stage, between}
use Rattle.routing.specs.Net.{Net, NetRealises, part, first_net}
use Rattle.routing.specs.Stages.{Stage, Butterfly, Inverse, exponent, StageControls, Earlier, SwitchBefore, AgreeBefore, Leads}
use Rattle.routing.proofs.Stage.{side-flip, side-low}
use Rattle.routing.proofs.First.{first-leads}
use Rattle.routing.proofs.PlaceNumbers.{num-lt, num-place, numbered}
use Rattle.routing.proofs.Halves.{half_net, realises-sides, realises-half, outer_first, left, first-first, first-last, first-half, left-part}
use Rattle.routing.proofs.Through.{within}
use Rattle.routing.proofs.Flat.{ReadsTree, within-range}

pub record ReadsNet (n : ℕ) (C : StageControls) (N : Net n) : Type 0 where
  pub butterfly : ReadsTree n (λ e. C (Butterfly e)) N.butterfly
  pub inverse : ReadsTree n (λ e. C (Inverse e)) N.inverse

-- the halves are read by the halves
reads-half :
    (n : ℕ) (C : StageControls) (N : Net (suc n)) → ReadsNet (suc n) C N → (h : Bool) → ReadsNet n (within n h C) (half_net n N h)
reads-half zero C N r h = record { butterfly = tt; inverse = tt }
reads-half (suc k) C N r h = record { butterfly = r.butterfly.halves h; inverse = r.inverse.halves h }

pub reads-join :
    (n : ℕ) (C : StageControls) (N : Net (suc n))
    → ((q : Place n) → C (Butterfly n) (num n q) ≡ at n N.butterfly.outer q)
    → ((q : Place n) → C (Inverse n) (num n q) ≡ at n N.inverse.outer q)
    → ((h : Bool) → ReadsNet n (within n h C) (half_net n N h))
    → ReadsNet (suc n) C N
reads-join zero C N first last halves =
    record { butterfly = record { outer = first; halves = λ h. tt }; inverse = record { outer = last; halves = λ h. tt } }
reads-join (suc k) C N first last halves =
    record {
      butterfly = record { outer = first; halves = λ h. (halves h).butterfly };
      inverse = record { outer = last; halves = λ h. (halves h).inverse };
    }

before-shift :
    (d c : Stage) (w t s : ℕ) → SwitchBefore d t c s → SwitchBefore d (w + t) c (w + s)
before-shift d c w t s (inl e) = inl e
before-shift d c w t s (inr (e, l)) = inr (e, omega arith)

abbrev Leading : StageControls → StageControls → Stage → ℕ → Type 0
Leading C D c s = (C c s ≡ pass) ⊎ (C c s ≡ D c s)

-- a switch of an inner stage stands in one half, and all before it there comes before it in the whole
inner-stage :
    (n : ℕ) (C D : StageControls)
    → ((h : Bool) → Leads n (within n h C) (within n h D))
    → (c : Stage)
    → exponent c < n
    → (q : Place n)
    → AgreeBefore (suc n) C D c (num n q)
    → Leading C D c (num n q)
unfolding num
inner-stage zero C D halves c l q agree = absurd (omega arith)
inner-stage (suc k) C D halves c l q agree =
    halves q.0 c (num k q.1)
    (record { at_stage = l; switch = omega (arith, num-lt k q.1) })
    (λ d t i b.
    agree d (weight q.0 k + t) (within-range k q.0 (exponent d) t i)
    (before-shift d c (weight q.0 k) t (num k q.1) b))

-- every net that realises m is led by the first net of m
abbrev pub LeadsAll : ℕ → Type 0
LeadsAll n =
    (m : Maps (Place n))
    → IsPermutation m
    → (C D : StageControls) (N : Net n)
    → ReadsNet n C (first_net n m)
    → ReadsNet n D N
    → NetRealises n N m
    → Leads n C D

module _
    (n : ℕ)
    (m : Maps (Place (suc n)))
    (perm : IsPermutation m)
    (C D : StageControls)
    (N : Net (suc n))
    (rc : ReadsNet (suc n) C (first_net (suc n) m))
    (rd : ReadsNet (suc n) D N)
    (real : NetRealises (suc n) N m)
  where
    abbrev f : Place n → Bool
    f = at n N.butterfly.outer

    abbrev g : Place n → Bool
    g = at n N.inverse.outer

    abbrev ours : Place n → Bool
    ours = outer_first n m perm

    valid : Valid m f
    valid p =
        cc
        (realises-sides n N m real (flip p), realises-sides n N m real p, side-flip g p)

    last-follows : g ≡ last_stage m f
    unfolding last_stage
    last-follows = fun_ext (λ q. sym (side-low g q) ∙ sym (realises-sides n N m real (false, q)))

    C-first : (q : Place n) → C (Butterfly n) (num n q) ≡ ours q
    C-first q = rc.butterfly.outer q ∙ ap (λ (k : Place n → Bool). k q) (first-first n m perm)

    C-last : (q : Place n) → C (Inverse n) (num n q) ≡ last_stage m ours q
    C-last q = rc.inverse.outer q ∙ ap (λ (k : Place n → Bool). k q) (first-last n m perm)

    -- switch q of the first stage
    first-switch :
        (q : Place n)
        → AgreeBefore (suc n) C D (Butterfly n) (num n q)
        → Leading C D (Butterfly n) (num n q)
    first-switch q agree =
        go
        (first-leads (numbered n) m perm f valid q
        (λ t l.
        sym (C-first t)
        ∙ agree (Butterfly n) (num n t)
        (record { at_stage = omega arith; switch = omega (arith, num-lt n t) })
        (inr (refl, l))
        ∙ rd.butterfly.outer t))
      where
        go :
            (ours q ≡ pass) ⊎ (ours q ≡ f q) → Leading C D (Butterfly n) (num n q)
        go (inl e) = inl (C-first q ∙ e)
        go (inr e) = inr (C-first q ∙ e ∙ sym (rd.butterfly.outer q))

    -- behind a first stage that agrees, the last stage and what the halves realise agree
    module _ (same : (q : Place n) → C (Butterfly n) (num n q) ≡ D (Butterfly n) (num n q)) where
      first-same : f ≡ ours
      first-same = fun_ext (λ q. sym (rd.butterfly.outer q) ∙ sym (same q) ∙ C-first q)

      last-switch : (q : Place n) → C (Inverse n) (num n q) ≡ D (Inverse n) (num n q)
      last-switch q =
          C-last q
          ∙ ap (λ (k : Place n → Bool). last_stage m k q) (sym first-same)
          ∙ ap (λ (k : Place n → Bool). k q) (sym last-follows)
          ∙ sym (rd.inverse.outer q)

      half-realises : (h : Bool) → NetRealises n (half_net n N h) (part n (left n m perm) h)
      half-realises h =
          subst (λ (b : Maps (Place (suc n))). NetRealises n (half_net n N h) (part n b h))
          (ap₂ (between m) first-same (last-follows ∙ ap (last_stage m) first-same))
          (realises-half n N m real h)

    -- the halves by induction
    module _ (ih : LeadsAll n) where
      halves-lead :
          ((q : Place n) → C (Butterfly n) (num n q) ≡ D (Butterfly n) (num n q))
          → (h : Bool)
          → Leads n (within n h C) (within n h D)
      halves-lead same h =
          ih (part n (left n m perm) h) (left-part n m perm h) (within n h C) (within n h D) (half_net n N h)
          (subst (ReadsNet n (within n h C)) (first-half n m perm h) (reads-half n C (first_net (suc n) m) rc h))
          (reads-half n D N rd h)
          (half-realises same h)

      -- the first stage comes before all others
      opening :
          (c : Stage) (s : ℕ)
          → Earlier (Butterfly n) c
          → AgreeBefore (suc n) C D c s
          → (q : Place n)
          → C (Butterfly n) (num n q) ≡ D (Butterfly n) (num n q)
      opening c s e agree q =
          agree (Butterfly n) (num n q)
          (record { at_stage = omega arith; switch = omega (arith, num-lt n q) })
          (inl e)

      at_place :
          (c : Stage)
          → exponent c < suc n
          → (q : Place n)
          → AgreeBefore (suc n) C D c (num n q)
          → Leading C D c (num n q)
      at_place (Butterfly e) i q agree = go (dec_lt e n)
        where
          go : Dec (e < n) → Leading C D (Butterfly e) (num n q)
          go (yes l) = inner-stage n C D (halves-lead (opening (Butterfly e) (num n q) l agree)) (Butterfly e) l q agree
          go (no g) =
              let x : n ≡ e = omega arith in
              subst (λ (d : ℕ). AgreeBefore (suc n) C D (Butterfly d) (num n q) → Leading C D (Butterfly d) (num n q)) x
              (first-switch q) agree
      at_place (Inverse e) i q agree = go (dec_lt e n)
        where
          same : (q : Place n) → C (Butterfly n) (num n q) ≡ D (Butterfly n) (num n q)
          same = opening (Inverse e) (num n q) tt agree

          go : Dec (e < n) → Leading C D (Inverse e) (num n q)
          go (yes l) = inner-stage n C D (halves-lead same) (Inverse e) l q agree
          go (no g) =
              let x : n ≡ e = omega arith in
              subst (λ (d : ℕ). Leading C D (Inverse d) (num n q)) x
              (inr (last-switch same q))

      leads-step : Leads (suc n) C D
      leads-step c s i agree =
          subst (λ (y : ℕ). AgreeBefore (suc n) C D c y → Leading C D c y)
          (num-place n s (omega (arith, i.switch)))
          (at_place c i.at_stage (place n s))
          agree

pub leads : (n : ℕ) → LeadsAll n
leads zero = λ m perm C D N rc rd real c s i agree. absurd (omega (arith, i.at_stage))
leads (suc n) = λ m perm C D N rc rd real. leads-step n m perm C D N rc rd real (leads n)
