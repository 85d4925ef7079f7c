-- A frame by the steps of the code: each channel runs once, with the budget of both of its turns. Assumes nothing.
use mathlib.Core.Path.{◌≡◌, sym, ◌∙◌, ap}
use mathlib.Core.List.{List, [], ◌∷◌}
use Prim.Native.Nat.{ℕ, ◌+◌, ◌-◌}
use Rattle.std.proofs.Common.{length, get_or, map}
use borrow.Author.Tests.{eq-eqb, ne_eqb}
use Rattle.bits.specs.Bit.{up_to}
use Rattle.unit.specs.declared.Bank.{Bank}
use Rattle.runs.specs.declared.Outcome.{Outcome}
use Rattle.runs.specs.Run.{operations_of, outcome_of, carried_out, noted}
use Rattle.runs.proofs.Runs.{turn_more}
use Rattle.frame.specs.Frame.{Brought, brought_by, first_turn, rest_of, second_turn, together, offered_of, framed_of, frame_refusal, refused_frame, frame_of, refused_answer, leaving_all}
use Rattle.frame.specs.Offers.{offered_to, budgets_by}
use Rattle.frame.proofs.Offering.{four-are}
use Rattle.bits.specs.declared.Refusal.{Refusal}
use Rattle.bits.specs.Refusal.{number_of}
use Rattle.bits.proofs.Numbers.{number-refused}

-- both turns of a channel are one run of its list, with what the first used and what it is offered
pub turns-are : (c : Brought) (rest : ℕ) → outcome_of c.bank c.bytes (together (first_turn c) (second_turn c rest)) ≡ carried_out c.bank c.bytes ((first_turn c).0.cycles + rest)
turns-are c rest = ap (outcome_of c.bank c.bytes) (turn_more c.bank.registers (operations_of c.bytes) c.guarantee rest)

module _ (k0 k1 k2 k3 : Bank) (l0 l1 l2 l3 gs : List ℕ) (cycles : ℕ) where
  abbrev channels : List Brought
  channels = brought_by (k0 ∷ k1 ∷ k2 ∷ k3 ∷ []) (l0 ∷ l1 ∷ l2 ∷ l3 ∷ []) gs

  abbrev channel : Bank → List ℕ → ℕ → Brought
  channel k l n = record { bank = k; bytes = l; guarantee = get_or gs n 0 }

  abbrev rest0 : ℕ
  rest0 = rest_of channels

  abbrev both : Brought → ℕ → Outcome × Bank
  both c rest = outcome_of c.bank c.bytes (together (first_turn c) (second_turn c rest))

  pub frame-by : frame_refusal channels cycles ≡ 0 → {bs : List ℕ} → bs ≡ budgets_by (l0 ∷ l1 ∷ l2 ∷ l3 ∷ []) gs
      → {o0 o1 o2 o3 : Outcome × Bank} → o0 ≡ carried_out k0 l0 (get_or bs 0 0) → o1 ≡ carried_out k1 l1 (get_or bs 1 0) → o2 ≡ carried_out k2 l2 (get_or bs 2 0) → o3 ≡ carried_out k3 l3 (get_or bs 3 0)
      → framed_of 0 (o0 ∷ o1 ∷ o2 ∷ o3 ∷ []) ≡ frame_of channels cycles
  unfolding frame_of offered_of rest_of offered_to up_to
  frame-by r {bs} e {o0} {o1} {o2} {o3} p0 p1 p2 p3 =
      let rest1 = rest0 - (second_turn (channel k0 l0 0) rest0).0.cycles in
      let rest2 = rest1 - (second_turn (channel k1 l1 1) rest1).0.cycles in
      let rest3 = rest2 - (second_turn (channel k2 l2 2) rest2).0.cycles in
      let q0 : o0 ≡ both (channel k0 l0 0) rest0 = p0 ∙ ap (λ (xs : List ℕ). carried_out k0 l0 (get_or xs 0 0)) e ∙ sym (turns-are (channel k0 l0 0) rest0) in
      let q1 : o1 ≡ both (channel k1 l1 1) rest1 = p1 ∙ ap (λ (xs : List ℕ). carried_out k1 l1 (get_or xs 1 0)) e ∙ sym (turns-are (channel k1 l1 1) rest1) in
      let q2 : o2 ≡ both (channel k2 l2 2) rest2 = p2 ∙ ap (λ (xs : List ℕ). carried_out k2 l2 (get_or xs 2 0)) e ∙ sym (turns-are (channel k2 l2 2) rest2) in
      let q3 : o3 ≡ both (channel k3 l3 3) rest3 = p3 ∙ ap (λ (xs : List ℕ). carried_out k3 l3 (get_or xs 3 0)) e ∙ sym (turns-are (channel k3 l3 3) rest3) in
      rw (eq-eqb _ 0 r) (λ i. framed_of 0 (q0 i ∷ q1 i ∷ q2 i ∷ q3 i ∷ []))

-- refused
pub frame_refused : (cs : List Brought) (cycles : ℕ) {r : ℕ} → r ≡ frame_refusal cs cycles → (r ≡ 0 → ⊥) → refused_frame cs r ≡ frame_of cs cycles
unfolding frame_of
frame_refused cs cycles {r} e n = rw (← e, ne_eqb r 0 n)

-- the same of four banks and any four lists
module _ (k0 k1 k2 k3 : Bank) (ls : List (List ℕ)) (gs : List ℕ) (cycles : ℕ) (four : length ls ≡ 4) where
  abbrev ks : List Bank
  ks = k0 ∷ k1 ∷ k2 ∷ k3 ∷ []

  pub frame-by-lists : frame_refusal (brought_by ks ls gs) cycles ≡ 0 → {bs : List ℕ} → bs ≡ budgets_by ls gs
      → {o0 o1 o2 o3 : Outcome × Bank} → o0 ≡ carried_out k0 (get_or ls 0 []) (get_or bs 0 0) → o1 ≡ carried_out k1 (get_or ls 1 []) (get_or bs 1 0)
      → o2 ≡ carried_out k2 (get_or ls 2 []) (get_or bs 2 0) → o3 ≡ carried_out k3 (get_or ls 3 []) (get_or bs 3 0)
      → framed_of 0 (o0 ∷ o1 ∷ o2 ∷ o3 ∷ []) ≡ frame_of (brought_by ks ls gs) cycles
  frame-by-lists r e p0 p1 p2 p3 =
      let q = four-are [] ls four in
      frame-by k0 k1 k2 k3 (get_or ls 0 []) (get_or ls 1 []) (get_or ls 2 []) (get_or ls 3 []) gs cycles
      (ap (λ (l : List (List ℕ)). frame_refusal (brought_by ks l gs) cycles) (sym q) ∙ r) (e ∙ ap (λ (l : List (List ℕ)). budgets_by l gs) q) p0 p1 p2 p3
      ∙ ap (λ (l : List (List ℕ)). frame_of (brought_by ks l gs) cycles) (sym q)

  pub frame-refused-lists : (refusal : Refusal) → number_of refusal ≡ frame_refusal (brought_by ks ls gs) cycles
      → leaving_all (refused_answer (number_of refusal)) (map (λ k. noted k 0) ks) ≡ frame_of (brought_by ks ls gs) cycles
  frame-refused-lists refusal e =
      ap (λ (l : List (List ℕ)). refused_frame (brought_by ks l gs) (number_of refusal)) (sym (four-are [] ls four))
      ∙ frame_refused (brought_by ks ls gs) cycles e (λ z. let h = rw z at (number-refused refusal) in cc)
