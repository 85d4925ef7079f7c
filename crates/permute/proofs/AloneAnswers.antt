-- What a call on one network alone answers, by the code's steps, and that it is the controls that realise the permutation, or 6 exactly if there are none.
-- Assumes nothing.
use mathlib.Core.Path.{◌≡◌, refl, sym, ◌∙◌, ap, subst}
use mathlib.Core.Bool.{Bool, true, false, not, cond, true≢false}
use mathlib.Core.List.{List, [], ◌∷◌}
use Prim.Native.Nat.{ℕ, zero, suc, ◌^◌}
use native.Mathlib.Omega.{arith}
use lib.Dec.{eqb}
use lib.ListN.{length, take}
use Rattle.std.proofs.Common.{Some, None}
use borrow.Author.Tests.{ne_eqb, not-false}
use Rattle.bits.specs.Refusal.{log_of, accepted, lowest, number_of}
use Rattle.bits.specs.declared.Refusal.{Refusal}
use Rattle.bits.proofs.Numbers.{number-refused}
use Rattle.bits.proofs.Refusals.{none-applies}
use Rattle.network.specs.declared.Controls.{Controls}
use Rattle.network.specs.Stage.{butterfly_of, inverse_of}
use Rattle.network.specs.Calls.{six, controls}
use Rattle.routing.specs.Lists.{ListPermutes}
use Rattle.alone.specs.Calls.{fits_alone, alone}
use Rattle.permute.specs.declared.RoutedOne.{RoutedOne}
use Rattle.permute.specs.Permutation.{names_once}
use Rattle.permute.specs.Calls.{route_refusal, one_conditions, one_refusal, one_answer, ControlsAlone, AnswersAlone, DecidesAlone}
use Rattle.permute.proofs.PermutationAnswers.{route-refusal-by, route-permutes, one-refusal, one_number}
use Rattle.permute.proofs.OneNetwork.{butterfly-alone, inverse-alone}
use Rattle.permute.proofs.FirstWords.{in_use_lem}

-- a call refused on both networks is not refused by 6
route-not-6 : (w : ℕ) (es : List ℕ) → route_refusal w es ≡ 6 → ⊥
unfolding route_refusal
route-not-6 w es = by (accepted w) (eqb (length es) w) (names_once w es)
  where
    by : (a f g : Bool) → lowest ((1, not a) ∷ (4, not f) ∷ (5, not g) ∷ []) ≡ 6 → ⊥
    by true true true e = omega arith
    by true true false e = omega arith
    by true false g e = omega arith
    by false f g e = omega arith

-- the refusal of one network, from that of both and whether the one realises the permutation
abbrev by_both : ℕ → Bool → ℕ
by_both r h = cond (eqb r 0) (cond (not h) 6 0) r

is-6 : (r : ℕ) (h : Bool) → (r ≡ 6 → ⊥) → by_both r h ≡ 6 → (r ≡ 0) × (h ≡ false)
is-6 zero true n e = absurd (omega arith)
is-6 zero false n e = (refl, refl)
is-6 (suc r) h n e = absurd (n (rw (ne_eqb (suc r) 0 (λ z. omega arith)) at e))

module _ (w : ℕ) (es : List ℕ) (fits : ℕ → List ℕ → Bool) (alone : ℕ → List ℕ → List ℕ) where
  abbrev L : ℕ
  L = log_of w

  -- a call that is not refused
  pub one-within : one_refusal fits w es ≡ 0 → (route_refusal w es ≡ 0) × (fits (log_of w) es ≡ true)
  unfolding one_refusal
  one-within z =
      let n = none-applies (one_conditions fits w es) (omega arith) z in
      (route-refusal-by w es (not-false _ n.0) (not-false _ n.1.0) (not-false _ n.1.1.0), not-false _ n.1.1.1.0)

  pub one-carried : one_refusal fits w es ≡ 0 → one_answer fits alone w es ≡ record { refusal = 0; controls = controls (alone (log_of w) es) }
  unfolding one_answer
  one-carried z = rw z

  module _ {f : ℕ → List ℕ → ℕ → ℕ} (d : DecidesAlone f fits alone) where
    permutes : route_refusal w es ≡ 0 → ListPermutes (2 ^ log_of w) es
    permutes z = (route-permutes w es z refl).1

    found : one_refusal fits w es ≡ 0 → ControlsAlone f L (take L (one_answer fits alone w es).controls.stages) es
    found z =
        let i = one-within z in
        let c = d.found L es (permutes i.0) i.1 in
        rw (one-carried z, in_use_lem L (alone L es) c.0.0) c

    none : one_refusal fits w es ≡ 6 → (cs : List ℕ) → ControlsAlone f L cs es → ⊥
    none z cs c =
        let q = is-6 (route_refusal w es) (fits L es) (route-not-6 w es) (sym (one-refusal w es fits) ∙ z) in
        true≢false (sym (d.exactly L es (permutes q.0) cs c).0 ∙ q.1)

    pub answers-alone : {r : RoutedOne} → r ≡ one_answer fits alone w es → AnswersAlone f w es r
    answers-alone e =
        let n = sym (one_number w es fits alone) in
        subst (AnswersAlone f w es) (sym e) (record { found = λ z. found (n ∙ z); none = λ z. none (n ∙ z) })

  -- the refusal, from that of both networks and whether the one realises the permutation
  pub refused-before : (r : Refusal) → number_of r ≡ route_refusal w es → number_of r ≡ one_refusal fits w es
  refused-before r e = sym (one-refusal w es fits ∙ rw (← e, number-refused r))

  fit-refusal : {h : Bool} → route_refusal w es ≡ 0 → fits L es ≡ h → one_refusal fits w es ≡ cond (not h) 6 0
  fit-refusal z f = one-refusal w es fits ∙ rw (z, f)

  -- by the stages found
  module _ (z : route_refusal w es ≡ 0) {l : ℕ} (q : l ≡ log_of w) where
    pub none-realise : None ≡ cond (fits l es) (Some (six (alone l es))) None → 6 ≡ one_refusal fits w es
    none-realise e = go (fits L es) refl (rw q at e)
      where
        go : (h : Bool) → fits L es ≡ h → None ≡ cond h (Some (six (alone L es))) None → 6 ≡ one_refusal fits w es
        go true f e = cc
        go false f e = sym (fit-refusal z f)

    pub one-realises : {cs : List ℕ} → Some cs ≡ cond (fits l es) (Some (six (alone l es))) None
        → (one_refusal fits w es ≡ 0) × ◌≡◌ {A = Controls} (record { stages = cs }) (controls (alone L es))
    one-realises {cs} e = go (fits L es) refl (rw q at e)
      where
        go : (h : Bool) → fits L es ≡ h → Some cs ≡ cond h (Some (six (alone L es))) None
            → (one_refusal fits w es ≡ 0) × ◌≡◌ {A = Controls} (record { stages = cs }) (controls (alone L es))
        go true f e = (fit-refusal z f, cc)
        go false f e = cc

  -- the answer
  pub one-answered : {k : Controls} → (one_refusal fits w es ≡ 0) × (k ≡ controls (alone L es))
      → ◌≡◌ {A = RoutedOne} (record { refusal = 0; controls = k }) (one_answer fits alone w es)
  one-answered p = ap (λ (k : Controls). record { refusal = 0; controls = k }) p.1 ∙ sym (one-carried p.0)

  pub one-turned-back : (r : Refusal) → number_of r ≡ one_refusal fits w es
      → ◌≡◌ {A = RoutedOne} (record { refusal = number_of r; controls = controls [] }) (one_answer fits alone w es)
  unfolding one_answer
  one-turned-back r e = rw (← e, number-refused r)

-- of the inverse (rising) and of the butterfly
pub either-alone : (rising : Bool) → DecidesAlone (cond rising inverse_of butterfly_of) (fits_alone rising) (alone rising)
either-alone true = inverse-alone
either-alone false = butterfly-alone
