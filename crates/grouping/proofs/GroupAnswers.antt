-- The refusals of the call on a permutation by groups: by the tests that the code makes, lowest first (demand 1), and what a call that is carried out
-- is on and answers. Assumes nothing.
use mathlib.Core.Path.{◌≡◌, refl, sym, ◌∙◌, ap, subst}
use mathlib.Core.Bool.{Bool, true, not}
use mathlib.Core.List.{List, [], ◌∷◌}
use Prim.Native.Nat.{ℕ, ◌^◌, ◌<◌, ◌≤◌}
use native.Mathlib.Omega.{arith}
use lib.ListN.{length, take}
use lib.Pow.{pow_mono}
use borrow.Author.Tests.{eq-eqb}
use Rattle.bits.specs.Refusal.{log_to_64, accepted, accepted_to_64, lowest, number_of, AnswersLowest}
use Rattle.bits.specs.declared.Refusal.{Refusal}
use Rattle.bits.proofs.Numbers.{number-refused}
use Rattle.bits.proofs.Refusals.{log-width-64, answers-lowest, every-answer}
use Rattle.network.specs.Calls.{six}
use Rattle.permute.specs.Calls.{entries_conditions}
use Rattle.permute.proofs.Names.{names-permutes, permutes-names}
use Rattle.permute.proofs.PermutationAnswers.{entries-refusal-by, entries-within}
use Rattle.routing.specs.Lists.{find, entry, ListPermutes}
use Rattle.grouping.specs.declared.Masks.{Masks}
use Rattle.grouping.specs.Groups.{group_masks}
use Rattle.grouping.specs.Destinations.{pass_masks}
use Rattle.grouping.specs.Calls.{groups_conditions, groups_refusal, groups_answer}
use Rattle.grouping.proofs.Arrival.{destinations, destinations-permute, destinations-laid, masks-are}

module _ (w : ℕ) (es : List ℕ) where
  pub groups-refusal-by : {a : Bool} → accepted_to_64 w ≡ a → groups_refusal w es ≡ lowest ((1, not a) ∷ entries_conditions w es)
  unfolding groups_refusal
  groups-refusal-by e = ap (λ (b : Bool). lowest ((1, not b) ∷ entries_conditions w es)) e

  -- a call that is not refused is on a permutation of 2^L places
  pub groups-within : groups_refusal w es ≡ 0 → (w ≡ 2 ^ log_to_64 w) × (3 ≤ log_to_64 w) × (log_to_64 w ≤ 6) × ListPermutes w es
  unfolding groups_refusal
  groups-within e =
      let i = entries-within w es (accepted_to_64 w) e in
      let p = log-width-64 w i.0 in
      (p.0, p.1, p.2, names-permutes w es i.1 i.2)

  -- and group accepts that width
  pub groups-accepted : groups_refusal w es ≡ 0 → accepted w ≡ true
  unfolding groups_refusal
  groups-accepted e = (entries-within w es (accepted_to_64 w) e).0

  -- demand 1
  pub groups-lowest : AnswersLowest (groups_conditions w es) (λ a. a.refusal) (λ n. record { refusal = n; masks = six [] }) (groups_answer w es)
  unfolding groups_answer groups_refusal
  groups-lowest =
      answers-lowest (groups_conditions w es) (omega arith) (λ (a : Masks). a.refusal) (λ n. record { refusal = n; masks = six [] })
      (record { refusal = 0; masks = six (group_masks (log_to_64 w) es) }) refl (λ n. refl)

  pub groups-number : (groups_answer w es).refusal ≡ groups_refusal w es
  unfolding groups_answer
  groups-number =
      every-answer (λ (a : Masks). a.refusal ≡ groups_refusal w es) (groups_refusal w es) (λ n. record { refusal = n; masks = six [] }) _ (λ z. refl) sym

  -- every permutation of these widths is accepted
  pub groups-accepts : accepted_to_64 w ≡ true → ListPermutes w es → (groups_answer w es).refusal ≡ 0
  groups-accepts a p = groups-number ∙ groups-refusal-by a ∙ entries-refusal-by w es (eq-eqb (length es) w p.long) (permutes-names w es p)

  pub groups-refused : (r : Refusal) → number_of r ≡ groups_refusal w es
      → ◌≡◌ {A = Masks} (record { refusal = number_of r; masks = six [] }) (groups_answer w es)
  unfolding groups_answer
  groups-refused r e = rw (← e, number-refused r)

  module _ (z : groups_refusal w es ≡ 0) {l : ℕ} (q : l ≡ log_to_64 w) where
    pub groups-done : {ms : List ℕ} → ms ≡ six (group_masks l es) → ◌≡◌ {A = Masks} (record { refusal = 0; masks = ms }) (groups_answer w es)
    unfolding groups_answer
    groups-done f = rw (z, f, q)

    pub steps-allowed : (0 < l) × (l ≤ 6) × ListPermutes (2 ^ l) es
    steps-allowed =
        let r = groups-within z in
        let v : w ≡ 2 ^ l = r.0 ∙ ap (λ (k : ℕ). 2 ^ k) (sym q) in
        (omega (arith, r.1), omega (arith, r.2), subst (λ (v : ℕ). ListPermutes v es) v r.3)

-- the code's values: the entries are a permutation, and so are the destinations laid down
module _ (l : ℕ) (h : l ≤ 6) (es : List ℕ) (is : ListPermutes (2 ^ l) es) where
  pub entries-permute : (length es ≤ 64) × ListPermutes (length es) es
  entries-permute = (omega (arith, is.long, pow_mono h), subst (λ (v : ℕ). ListPermutes v es) (sym is.long) is)

  module _ (from : List ℕ) (room : length from ≡ 64) (laid : (x : ℕ) → x < length es → entry from x ≡ find x es) where
    taken_is : take (length es) from ≡ destinations l es is
    taken_is =
        ap (λ (v : ℕ). take v from) is.long
        ∙ destinations-laid l es is from (omega (arith, is.long, entries-permute.0)) (λ x h. laid x (omega (arith, is.long)))

    pub taken-permute : ListPermutes (length es) (take (length es) from)
    taken-permute = rw taken_is (subst (λ (v : ℕ). ListPermutes v (destinations l es is)) (sym is.long) (destinations-permute l es is))

    pub masks-taken : pass_masks (length es) l 0 (take (length es) from) ≡ group_masks l es
    masks-taken = (λ i. pass_masks (is.long i) l 0 (taken_is i)) ∙ sym (masks-are l es is)
