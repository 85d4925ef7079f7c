-- What `route` answers, by the code's steps, and that it is the first controls. Assumes nothing.
use mathlib.Core.Path.{◌≡◌, sym, ◌∙◌, ap, ap₂, subst}
use mathlib.Core.List.{List, []}
use Prim.Native.Nat.{ℕ}
use Rattle.bits.specs.Refusal.{log_of, number_of}
use Rattle.bits.specs.declared.Refusal.{Refusal}
use Rattle.network.specs.Calls.{six, controls}
use Rattle.routing.specs.Lists.{first_words}
use Rattle.permute.specs.declared.Routed.{Routed}
use Rattle.permute.specs.Calls.{route_refusal, route_answer, AnswersFirst}
use Rattle.permute.proofs.PermutationAnswers.{route-within, route-number}
use Rattle.bits.proofs.Numbers.{number-refused}
use Rattle.permute.proofs.Demand3.{demand-3-calls}

module _ (w : ℕ) (es : List ℕ) where
  pub answers-first : {r : Routed} → r ≡ route_answer w es → AnswersFirst w es r
  answers-first e =
      subst (AnswersFirst w es) (sym e)
      (λ z. let i = route-within w es (sym (route-number w es) ∙ z) in ((demand-3-calls w i.0).routes es i.1 i.2).1)

  pub route-refused : (r : Refusal) → number_of r ≡ route_refusal w es
      → ◌≡◌ {A = Routed} (record { refusal = number_of r; butterfly = controls []; inverse = controls [] }) (route_answer w es)
  unfolding route_answer
  route-refused r e = rw (← e, number-refused r)

  pub route-done : route_refusal w es ≡ 0 → {l : ℕ} {b i : List ℕ} → l ≡ log_of w → b ≡ six (first_words l es).butterfly → i ≡ six (first_words l es).inverse
      → ◌≡◌ {A = Routed} (record { refusal = 0; butterfly = record { stages = b }; inverse = record { stages = i } }) (route_answer w es)
  unfolding route_answer
  route-done z q b i =
      rw z
      (ap₂ (λ (x y : List ℕ). record { refusal = 0; butterfly = record { stages = x }; inverse = record { stages = y } })
      (b ∙ ap (λ (k : ℕ). six (first_words k es).butterfly) q) (i ∙ ap (λ (k : ℕ). six (first_words k es).inverse) q))
