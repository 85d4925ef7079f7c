-- The code's passes in turn: the masks that they store are those of the steps. Assumes nothing.
use mathlib.Core.Path.{◌≡◌, refl, sym, ◌∙◌, ap, subst}
use mathlib.Core.List.{List}
use Prim.Native.Nat.{ℕ, zero, suc, ◌+◌, ◌-◌, ◌^◌, ◌<◌, ◌≤◌}
use native.Mathlib.Omega.{arith}
use native.Mathlib.Numerals.{add-one}
use lib.ListN.{length, get_or, set, take, drop, replicate}
use lib.Seq.{get_or-set_same}
use Rattle.std.proofs.lemmas.List.{get_or-drop, drop-drop, length-set}
use Rattle.network.specs.Calls.{six}
use Rattle.network.proofs.Filling.{filled, fill-turn, fill_end}
use Rattle.routing.specs.Lists.{ListPermutes}
use Rattle.grouping.specs.Groups.{regrouped}
use Rattle.grouping.specs.Destinations.{pass_mask, pass_masks, Half}
use Rattle.grouping.proofs.Regrouping.{regrouped-permutes}
use Rattle.grouping.proofs.Halving.{pass-halves}

module _ (w log step : ℕ) (ds : List ℕ) {m : ℕ} (q : m ≡ pass_mask w step ds) where
  pub step-half : w ≡ 2 ^ log → step < log → ListPermutes w ds → Half w m
  step-half e h is =
      rw q (subst (λ (v : ℕ). Half v (pass_mask v step ds)) (sym e) (pass-halves log step ds h (subst (λ (v : ℕ). ListPermutes v ds) e is)))

pub passes-long : (w n i : ℕ) (ds : List ℕ) → length (pass_masks w n i ds) ≡ n
unfolding pass_masks
passes-long w zero i ds = refl
passes-long w (suc n) i ds = ap suc (passes-long w n (suc i) (regrouped w (pass_mask w i ds) ds))

-- The masks of the steps up to number `step` are stored; before that step, `from` holds the destinations of the contents, which are a permutation. At
-- first these are `start`.
pub record Stepped (w log : ℕ) (start : List ℕ) (step : ℕ) (from into masks : List ℕ) : Type 0 where
  pub from-long : length from ≡ 64
  pub into-long : length into ≡ 64
  pub masks-long : length masks ≡ 6
  pub permutes : ListPermutes w (take w from)
  pub marks : get_or masks step 0 ≡ pass_mask w step (take w from)
  pub left : drop step (pass_masks w log 0 start) ≡ pass_masks w (log - step) step (take w from)
  pub stored : masks ≡ filled 0 (step + 1) (pass_masks w log 0 start)

module _ (w log : ℕ) (start : List ℕ) (h : log ≤ 6) where
  abbrev ms : List ℕ
  ms = pass_masks w log 0 start

  -- what is stored for a step, from what is left of the masks
  store : (step : ℕ) (ds : List ℕ) {masks : List ℕ} {m : ℕ} → step < log → m ≡ pass_mask w step ds → drop step ms ≡ pass_masks w (log - step) step ds
      → masks ≡ filled 0 step ms → set masks step m ≡ filled 0 (step + 1) ms
  unfolding pass_masks
  store step ds l q d f =
      let z : log - step ≡ suc (log - (step + 1)) = omega arith in
      let there : step + 0 ≡ step = omega arith in
      let first : pass_mask w step ds ≡ get_or ms step 0 =
      ap (λ (xs : List ℕ). get_or xs 0 0) (sym (d ∙ ap (λ (n : ℕ). pass_masks w n step ds) z)) ∙ get_or-drop step ms 0 0
      ∙ ap (λ (i : ℕ). get_or ms i 0) there
      in
      fill-turn 0 ms step (omega arith) (omega (arith, passes-long w log 0 start)) f (q ∙ first)

  left-next : (step : ℕ) (ds : List ℕ) → step + 1 < log → drop step ms ≡ pass_masks w (log - step) step ds
      → drop (step + 1) ms ≡ pass_masks w (log - (step + 1)) (step + 1) (regrouped w (pass_mask w step ds) ds)
  unfolding pass_masks
  left-next step ds l d =
      let z : log - step ≡ suc (log - (step + 1)) = omega arith in
      sym (drop-drop 1 step ms)
      ∙ ap (drop 1) (d ∙ ap (λ (n : ℕ). pass_masks w n step ds) z)
      ∙ ap (λ (i : ℕ). pass_masks w (log - (step + 1)) i (regrouped w (pass_mask w step ds) ds)) (sym (add-one step))

  pub steps-start : {from into : List ℕ} {m : ℕ} → 0 < log → start ≡ take w from → length from ≡ 64 → length into ≡ 64 → ListPermutes w (take w from)
      → m ≡ pass_mask w 0 (take w from) → Stepped w log start 0 from into (set (replicate 6 0) 0 m)
  steps-start {from} l e a b is q =
      let n : log ≡ log - 0 = omega arith in
      let left : ms ≡ pass_masks w (log - 0) 0 (take w from) = λ i. pass_masks w (n i) 0 (e i) in
      record {
        from-long = a;
        into-long = b;
        masks-long = refl;
        permutes = is;
        marks = q;
        left = left;
        stored = store 0 (take w from) l q left refl;
      }

  -- one step more
  one-more : (step : ℕ) {from into next masks : List ℕ} {m : ℕ} → step + 1 < log → Stepped w log start step from into masks → length next ≡ 64
      → take w next ≡ regrouped w (get_or masks step 0) (take w from) → m ≡ pass_mask w (step + 1) (regrouped w (get_or masks step 0) (take w from))
      → Stepped w log start (step + 1) next from (set masks (step + 1) m)
  one-more step {from} {into} {next} {masks} {m} l s long n q =
      let mask : m ≡ pass_mask w (step + 1) (take w next) = rw n q in
      let more = left-next step (take w from) l s.left ∙ ap (pass_masks w (log - (step + 1)) (step + 1)) (sym (rw s.marks at n)) in
      record {
        from-long = long;
        into-long = s.from-long;
        masks-long = length-set masks (step + 1) m ∙ s.masks-long;
        permutes = rw n (regrouped-permutes w (get_or masks step 0) (take w from) s.permutes);
        marks = get_or-set_same masks (step + 1) m 0 (omega (arith, h, l, s.masks-long)) ∙ mask;
        left = more;
        stored = store (step + 1) (take w next) l mask more s.stored;
      }

  pub steps-next : (step i : ℕ) → i ≡ step + 1 → {from into next masks : List ℕ} {m n : ℕ} → i < log → Stepped w log start step from into masks
      → length next ≡ 64 → n ≡ w → take n next ≡ regrouped n (get_or masks step 0) (take w from)
      → m ≡ pass_mask n i (regrouped n (get_or masks step 0) (take w from)) → Stepped w log start i next from (set masks i m)
  steps-next step i e l s long v n q = rw e (one-more step (rw e at l) s long (rw v at n) (rw (v, e) at q))

  pub steps-end : (step : ℕ) {from into masks : List ℕ} → step + 1 ≡ log → Stepped w log start step from into masks → masks ≡ six ms
  steps-end step e s = s.stored ∙ fill_end ms (step + 1) (e ∙ sym (passes-long w log 0 start))
