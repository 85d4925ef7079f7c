-- Grouping by the masks in turn, of the calls; what each mask marks; the refusals; vectors computed by hand. Assumes nothing.
use mathlib.Core.Path.{◌≡◌, refl, sym, ◌∙◌, ap, subst}
use mathlib.Core.Bool.{true}
use mathlib.Core.List.{List, [], ◌∷◌}
use Prim.Native.Nat.{ℕ, zero, suc, ◌+◌, ◌^◌, ◌<◌, ◌≤◌}
use native.Mathlib.Omega.{arith}
use native.Mathlib.Nat.{not-suc-le-zero}
use lib.ListN.{length, get_or, take}
use lib.Pow.{pow-lt}
use lib.Seq.{get_or-take}
use borrow.Author.Tests.{lt-ltb}
use Rattle.bits.specs.Bit.{bit, of_bits, up_to, rank, places, pick}
use Rattle.bits.specs.Refusal.{log_to_64, accepted}
use Rattle.bits.proofs.Places.{length_marked}
use Rattle.gather.specs.Gather.{group_of, refusal_of}
use Rattle.gather.specs.declared.Gathered.{Gathered}
use Rattle.gather.proofs.MaskAnswers.{refusal-by, carried-out}
use Rattle.gather.proofs.Theorems.{group-below}
use Rattle.permute.specs.Alike.{sources_of}
use Rattle.permute.proofs.FirstWords.{in_use_lem}
use Rattle.permute.proofs.Realising.{sources-are}
use Rattle.routing.specs.Lists.{find, ListPermutes}
use Rattle.grouping.specs.declared.Masks.{Masks}
use Rattle.grouping.specs.Groups.{regrouped, step_mask, masks_from, group_masks, group_in_turn}
use Rattle.grouping.specs.Calls.{groups_refusal, groups_answer, CallsGroup, AnswersGroups}
use Rattle.grouping.specs.Destinations.{pass_mask, pass_masks}
use Rattle.grouping.proofs.Regrouping.{regrouped-permutes}
use Rattle.grouping.proofs.Sorting.{mask_lt}
use Rattle.grouping.proofs.Halving.{pass-halves}
use Rattle.grouping.proofs.StepsLeft.{passes-long}
use Rattle.grouping.proofs.GroupAnswers.{groups-number, groups-within, groups-accepted, groups-done}
use Rattle.grouping.proofs.Arrival.{destinations, destinations-permute, masks-are, groups-permute}

-- what holds of the mask of every permutation and step holds of each mask
module _ (L : ℕ) (P : ℕ → Type 0) (each : (i : ℕ) (ds : List ℕ) → i < L → ListPermutes (2 ^ L) ds → P (pass_mask (2 ^ L) i ds)) where
  passes-each : (n i : ℕ) (ds : List ℕ) → i + n ≤ L → ListPermutes (2 ^ L) ds → (j : ℕ) → j < n → P (get_or (pass_masks (2 ^ L) n i ds) j 0)
  unfolding pass_masks
  passes-each zero i ds l is j h = absurd (not-suc-le-zero h)
  passes-each (suc n) i ds l is zero h = each i ds (omega arith) is
  passes-each (suc n) i ds l is (suc j) h =
      passes-each n (suc i) (regrouped (2 ^ L) (pass_mask (2 ^ L) i ds) ds) (omega arith) (regrouped-permutes (2 ^ L) (pass_mask (2 ^ L) i ds) ds is) j (omega arith)

  masks-each : (entries : List ℕ) → ListPermutes (2 ^ L) entries → (i : ℕ) → i < L → P (get_or (group_masks L entries) i 0)
  masks-each entries is i h =
      subst (λ (ms : List ℕ). P (get_or ms i 0)) (sym (masks-are L entries is))
      (passes-each L 0 (destinations L entries is) (omega arith) (destinations-permute L entries is) i h)

module _ (L : ℕ) (entries : List ℕ) (is : ListPermutes (2 ^ L) entries) where
  -- L masks, of words of the width
  pub masks-long : length (group_masks L entries) ≡ L
  masks-long = ap length (masks-are L entries is) ∙ passes-long (2 ^ L) L 0 (destinations L entries is)

  pub masks-fit : (i : ℕ) → i < L → get_or (group_masks L entries) i 0 < 2 ^ 2 ^ L
  masks-fit = masks-each L (λ m. m < 2 ^ 2 ^ L) (λ i ds h is. mask_lt (2 ^ L) i ds) entries is

  -- each marks half of the places
  pub masks-half : (i : ℕ) → i < L → let k = rank (get_or (group_masks L entries) i 0) (2 ^ L) in k + k ≡ 2 ^ L
  masks-half =
      masks-each L (λ m. rank m (2 ^ L) + rank m (2 ^ L) ≡ 2 ^ L)
      (λ i ds h is. rw (← (length_marked (pass_mask (2 ^ L) i ds) (2 ^ L))) (pass-halves L i ds h is)) entries is

  -- traced by single bits, their steps are the permutation
  groups-sources : sources_of (2 ^ L) (group_in_turn (2 ^ L) (group_masks L entries)) ≡ entries
  groups-sources =
      sources-are (2 ^ L) (group_in_turn (2 ^ L) (group_masks L entries)) entries is.long is.small (λ b l. groups-permute L entries is (2 ^ b) (pow-lt l))

pub masks-injective : (L : ℕ) (es fs : List ℕ) → ListPermutes (2 ^ L) es → ListPermutes (2 ^ L) fs → group_masks L es ≡ group_masks L fs → es ≡ fs
masks-injective L es fs p q e =
    sym (groups-sources L es p) ∙ ap (λ (ms : List ℕ). sources_of (2 ^ L) (group_in_turn (2 ^ L) ms)) e ∙ groups-sources L fs q

-- of the calls

-- masks and a word of an accepted width
calls-in-turn : (w : ℕ) → accepted w ≡ true → (ms : List ℕ) → ((i : ℕ) → i < length ms → get_or ms i 0 < 2 ^ w) → (x : ℕ) → x < 2 ^ w
    → CallsGroup w ms x (group_in_turn w ms x)
calls-in-turn w a [] fit x h = refl
calls-in-turn w a (m ∷ ms) fit x h =
    let f : m < 2 ^ w = fit 0 (omega arith) in
    let z : refusal_of w m x ≡ 0 = refusal-by w m x a (lt-ltb x (2 ^ w) h) (lt-ltb m (2 ^ w) f) in
    subst (λ (r : Gathered). (r.refusal ≡ 0) × CallsGroup w ms r.word (group_in_turn w ms (group_of w m x)))
    (carried-out w m x group_of (sym z) refl refl)
    (refl, calls-in-turn w a ms (λ i l. fit (suc i) (omega arith)) (group_of w m x) (group-below w m x f))

module _ (w : ℕ) (es : List ℕ) (e : (groups_answer w es).refusal ≡ 0) where
  abbrev L : ℕ
  L = log_to_64 w

  number : groups_refusal w es ≡ 0
  number = sym (groups-number w es) ∙ e

  width : w ≡ 2 ^ log_to_64 w
  width = (groups-within w es number).0

  is : ListPermutes (2 ^ log_to_64 w) es
  is = subst (λ (v : ℕ). ListPermutes v es) width (groups-within w es number).3

  -- the masks of its steps, and zeros after them
  pub calls-masks : take (log_to_64 w) (groups_answer w es).masks ≡ group_masks (log_to_64 w) es
  calls-masks =
      ap (λ (r : Masks). take L r.masks) (sym (groups-done w es number refl refl)) ∙ in_use_lem L (group_masks L es) (masks-long L es is)

  -- "Grouping by these masks in turn must bring every line of every word to its place, at all four widths."
  pub calls-groups-permute : (x : ℕ) → x < 2 ^ w → CallsGroup w (take (log_to_64 w) (groups_answer w es).masks) x (pick es x)
  calls-groups-permute x h =
      let ms = group_masks L es in
      let fit : (i : ℕ) → i < length ms → get_or ms i 0 < 2 ^ w =
      λ i l. subst (λ (v : ℕ). get_or ms i 0 < 2 ^ v) (sym width) (masks-fit L es is i (omega (arith, masks-long L es is)))
      in
      let q : group_in_turn w ms x ≡ pick es x =
      subst (λ (v : ℕ). group_in_turn v ms x ≡ pick es x) (sym width) (groups-permute L es is x (subst (λ (v : ℕ). x < 2 ^ v) width h))
      in
      subst (λ (ms : List ℕ). CallsGroup w ms x (pick es x)) (sym calls-masks)
      (subst (CallsGroup w ms x) q (calls-in-turn w (groups-accepted w es number) ms fit x h))

  pub calls-masks-half : (i : ℕ) → i < log_to_64 w → let k = rank (get_or (groups_answer w es).masks i 0) w in k + k ≡ w
  calls-masks-half i h =
      let m : get_or (groups_answer w es).masks i 0 ≡ get_or (group_masks L es) i 0 =
      sym (get_or-take L (groups_answer w es).masks i 0 h) ∙ ap (λ (ms : List ℕ). get_or ms i 0) calls-masks
      in
      subst (λ (m : ℕ). rank m w + rank m w ≡ w) (sym m)
      (subst (λ (v : ℕ). rank (get_or (group_masks L es) i 0) v + rank (get_or (group_masks L es) i 0) v ≡ v) (sym width) (masks-half L es is i h))

pub calls-groups-injective : (w : ℕ) (es fs : List ℕ) → (groups_answer w es).refusal ≡ 0 → groups_answer w es ≡ groups_answer w fs → es ≡ fs
calls-groups-injective w es fs z e =
    let y : (groups_answer w fs).refusal ≡ 0 = ap (λ (r : Masks). r.refusal) (sym e) ∙ z in
    let masks = sym (calls-masks w es z) ∙ ap (λ (r : Masks). take (log_to_64 w) r.masks) e ∙ calls-masks w fs y in
    masks-injective (log_to_64 w) es fs (is w es z) (is w fs y) masks

pub answers-groups : (w : ℕ) (es : List ℕ) {r : Masks} → r ≡ groups_answer w es → AnswersGroups w es r
answers-groups w es e = subst (AnswersGroups w es) (sym e) (λ z x h. calls-groups-permute w es z x h)

-- Outside vectors, by hand with the places and contents written out: the identity, the reversal, that of row 8, and a turn by one place, which is not its
-- own inverse.
pub hand-masks :
    (group_masks 3 (0 ∷ 1 ∷ 2 ∷ 3 ∷ 4 ∷ 5 ∷ 6 ∷ 7 ∷ []) ≡ 0x55 ∷ 0x55 ∷ 0x55 ∷ [])
    × (group_masks 3 (7 ∷ 6 ∷ 5 ∷ 4 ∷ 3 ∷ 2 ∷ 1 ∷ 0 ∷ []) ≡ 0xAA ∷ 0xAA ∷ 0xAA ∷ [])
    × (group_masks 3 (0 ∷ 4 ∷ 2 ∷ 3 ∷ 1 ∷ 5 ∷ 6 ∷ 7 ∷ []) ≡ 0x47 ∷ 0x63 ∷ 0x55 ∷ [])
    × (group_masks 3 (7 ∷ 0 ∷ 1 ∷ 2 ∷ 3 ∷ 4 ∷ 5 ∷ 6 ∷ []) ≡ 0xAA ∷ 0x5A ∷ 0x56 ∷ [])
unfolding group_masks masks_from step_mask regrouped find bit of_bits up_to places
hand-masks = (refl, refl, refl, refl)
