-- The refusals of the calls on permutations: by the tests that the code makes, lowest first (demand 1), and what a call that is carried out is on.
-- Assumes nothing.
use mathlib.Core.Path.{◌≡◌, refl, sym, ◌∙◌, ap}
use mathlib.Core.Bool.{Bool, true, false, not, cond}
use mathlib.Core.List.{List, [], ◌∷◌}
use Prim.Native.Nat.{ℕ, ◌^◌, ◌≤◌}
use native.Mathlib.Omega.{arith}
use lib.Dec.{eqb}
use lib.ListN.{length}
use borrow.Author.Tests.{eqb-true, eq-eqb, not-false}
use Rattle.bits.specs.Refusal.{log_of, accepted, lowest, AnswersLowest}
use Rattle.bits.proofs.Refusals.{log-width, log-le, lowest-more, answers-lowest, every-answer, none-applies}
use Rattle.network.specs.Calls.{controls}
use Rattle.routing.specs.Lists.{ListPermutes, first_words}
use Rattle.permute.specs.declared.Routed.{Routed}
use Rattle.permute.specs.declared.RoutedOne.{RoutedOne}
use Rattle.permute.specs.Permutation.{names_once}
use Rattle.permute.specs.Calls.{entries_conditions, route_conditions, route_refusal, route_answer, one_conditions, one_refusal, one_answer}
use Rattle.permute.proofs.Names.{names-permutes, permutes-names}

module _ (w : ℕ) (es : List ℕ) where
  -- the refusal, from the outcomes of the tests: an accepted width, the list's length, every bit named once
  pub not-accepted : accepted w ≡ false → route_refusal w es ≡ 1
  unfolding route_refusal
  not-accepted a = rw a

  pub accepted-entries : accepted w ≡ true → route_refusal w es ≡ lowest (entries_conditions w es)
  unfolding route_refusal
  accepted-entries a = rw a

  pub entries-refusal-by : {f g : Bool} → eqb (length es) w ≡ f → names_once w es ≡ g
      → lowest (entries_conditions w es) ≡ lowest ((4, not f) ∷ (5, not g) ∷ [])
  entries-refusal-by q r = λ i. lowest ((4, not (q i)) ∷ (5, not (r i)) ∷ [])

  pub route-refusal-by : {a f g : Bool} → accepted w ≡ a → eqb (length es) w ≡ f → names_once w es ≡ g
      → route_refusal w es ≡ lowest ((1, not a) ∷ (4, not f) ∷ (5, not g) ∷ [])
  unfolding route_refusal
  route-refusal-by p q r = λ i. lowest ((1, not (p i)) ∷ (4, not (q i)) ∷ (5, not (r i)) ∷ [])

  -- a call that is not refused is on a permutation of an accepted width, whichever widths are
  pub entries-within : (a : Bool) → lowest ((1, not a) ∷ entries_conditions w es) ≡ 0 → (a ≡ true) × (length es ≡ w) × (names_once w es ≡ true)
  entries-within a e =
      let n = none-applies ((1, not a) ∷ entries_conditions w es) (omega arith) e in
      (not-false _ n.0, eqb-true (length es) w (not-false _ n.1.0), not-false _ n.1.1.0)

  pub route-within : route_refusal w es ≡ 0 → (accepted w ≡ true) × (length es ≡ w) × (names_once w es ≡ true)
  unfolding route_refusal
  route-within = entries-within (accepted w)

  pub route-permutes : {l : ℕ} → route_refusal w es ≡ 0 → l ≡ log_of w → (l ≤ 6) × ListPermutes (2 ^ l) es
  route-permutes {l} z q =
      let i = route-within z in
      let p = log-width w i.0 in
      let v : w ≡ 2 ^ l = p.0 ∙ ap (λ (k : ℕ). 2 ^ k) (sym q) in
      (omega (arith, log-le w), rw v at (names-permutes w es i.1 i.2))

  pub permutes-within : accepted w ≡ true → ListPermutes w es → route_refusal w es ≡ 0
  permutes-within a p = route-refusal-by a (eq-eqb (length es) w p.long) (permutes-names w es p)

  -- demand 1
  pub route-lowest : AnswersLowest (route_conditions w es) (λ a. a.refusal) (λ n. record { refusal = n; butterfly = controls []; inverse = controls [] })
      (route_answer w es)
  unfolding route_answer route_refusal
  route-lowest =
      let k = first_words (log_of w) es in
      answers-lowest (route_conditions w es) (omega arith) (λ (a : Routed). a.refusal)
      (λ n. record { refusal = n; butterfly = controls []; inverse = controls [] })
      (record { refusal = 0; butterfly = controls k.butterfly; inverse = controls k.inverse }) refl (λ n. refl)

  pub route-number : (route_answer w es).refusal ≡ route_refusal w es
  unfolding route_answer
  route-number =
      every-answer (λ (a : Routed). a.refusal ≡ route_refusal w es) (route_refusal w es)
      (λ n. record { refusal = n; butterfly = controls []; inverse = controls [] }) _ (λ z. refl) sym

  -- one network alone
  module _ (fits : ℕ → List ℕ → Bool) where
    -- the refusal of both networks, or 6
    pub one-refusal : one_refusal fits w es ≡ cond (eqb (route_refusal w es) 0) (cond (not (fits (log_of w) es)) 6 0) (route_refusal w es)
    unfolding one_refusal route_refusal
    one-refusal = lowest-more 0 (route_conditions w es) ((6, not (fits (log_of w) es)) ∷ []) (omega arith)

    module _ (alone : ℕ → List ℕ → List ℕ) where
      pub alone-lowest : AnswersLowest (one_conditions fits w es) (λ a. a.refusal) (λ n. record { refusal = n; controls = controls [] })
          (one_answer fits alone w es)
      unfolding one_answer one_refusal
      alone-lowest =
          answers-lowest (one_conditions fits w es) (omega arith) (λ (a : RoutedOne). a.refusal) (λ n. record { refusal = n; controls = controls [] })
          (record { refusal = 0; controls = controls (alone (log_of w) es) }) refl (λ n. refl)

      pub one_number : (one_answer fits alone w es).refusal ≡ one_refusal fits w es
      unfolding one_answer
      one_number =
          every-answer (λ (a : RoutedOne). a.refusal ≡ one_refusal fits w es) (one_refusal fits w es) (λ n. record { refusal = n; controls = controls [] }) _
          (λ z. refl) sym
