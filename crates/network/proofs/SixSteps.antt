-- What the loops over the six stages, and over those in use, do: the swaps of each stage, one exchange more, the stage at an index of the table. Assumes nothing.
use mathlib.Core.Path.{◌≡◌, refl, sym, ◌∙◌, ap}
use mathlib.Core.Bool.{Bool, true, false, cond}
use mathlib.Core.List.{List, [], ◌∷◌, reverse}
use Prim.Native.Nat.{ℕ, zero, suc, ◌+◌, ◌-◌, ◌^◌, ◌<◌, ◌≤◌}
use native.Mathlib.Omega.{arith}
use native.Mathlib.Nat.{not-suc-le-zero, zero-add}
use native.Mathlib.Numerals.{add-one}
use lib.ListN.{length, get_or, drop, replicate, length-replicate, drop_of_length-le, length-reverse}
use lib.Pow.{pow_mono}
use lib.Seq.{drop-cons, get_or-append-add, get_or-take}
use Rattle.network.specs.Stage.{stage, travel, falling}
use Rattle.network.specs.Word.{swaps_of, swaps_at, exchange_of, exchanges_of, all_pass, by_index, distances, travel_of}
use Rattle.network.proofs.Travel.{length-falling, reverse-falling, length-distances, distances-fit, travel-wider}
use Rattle.network.proofs.PairsExchanged.{exchange-stage}
use Rattle.network.proofs.TableSteps.{falling-at}
use Rattle.network.proofs.Filling.{reverse-at, reversed-at}
use Rattle.network.proofs.Six.{used}

-- the swaps of a stage of the table

swaps-at : (ds cs : List ℕ) (i : ℕ) → i < length ds → i < length cs → swaps_of (get_or ds i 0) (get_or cs i 0) ≡ get_or (swaps_at ds cs) i 0
swaps-at [] cs i h l = absurd (not-suc-le-zero h)
swaps-at (d ∷ ds) [] i h l = absurd (not-suc-le-zero l)
swaps-at (d ∷ ds) (c ∷ cs) zero h l = refl
swaps-at (d ∷ ds) (c ∷ cs) (suc i) h l = swaps-at ds cs i (omega arith) (omega arith)

pub swaps-here : (cs : List ℕ) (i : ℕ) → i < 6 → length cs ≡ 6 → swaps_of (2 ^ (5 - i)) (get_or cs i 0) ≡ get_or (swaps_at (falling 6) cs) i 0
swaps-here cs i h l =
    ap (λ (d : ℕ). swaps_of d (get_or cs i 0)) (sym (falling-at 6 i h)) ∙ swaps-at (falling 6) cs i (omega (arith, length-falling 6)) (omega arith)

length-swaps : (ds cs : List ℕ) → length cs ≡ length ds → length (swaps_at ds cs) ≡ length ds
length-swaps [] cs e = refl
length-swaps (d ∷ ds) [] e = absurd (omega arith)
length-swaps (d ∷ ds) (c ∷ cs) e = ap suc (length-swaps ds cs (omega arith))

pub length-six : (cs : List ℕ) → length cs ≡ 6 → length (swaps_at (falling 6) cs) ≡ 6
length-six cs e = length-swaps (falling 6) cs (e ∙ sym (length-falling 6)) ∙ length-falling 6

-- the stages in use by index

module _ (b : Bool) (L : ℕ) (h_l : L ≤ 6) (cs : List ℕ) (hc : length cs ≡ 6) where
  pub index-here : (i : ℕ) {v : ℕ} → 6 - L ≤ i → i < 6 → v ≡ cond b (5 - i) (i - (6 - L)) → get_or cs v 0 ≡ get_or (by_index b L cs) i 0
  index-here i {v} lo hi e =
      let k = 6 - L in
      let n : length (replicate k all_pass) + (i - k) ≡ i = omega (arith, length-replicate k all_pass) in
      ap (λ (j : ℕ). get_or cs j 0) e
      ∙ by b
      ∙ sym (ap (λ (j : ℕ). get_or (by_index b L cs) j 0) (sym n) ∙ get_or-append-add (replicate k all_pass) (used b L cs) (i - k) 0)
    where
      by : (t : Bool) → get_or cs (cond t (5 - i) (i - (6 - L))) 0 ≡ get_or (used t L cs) (i - (6 - L)) 0
      by true =
          let q : 5 - i ≡ L - 1 - (i - (6 - L)) = omega arith in
          ap (λ (j : ℕ). get_or cs j 0) q ∙ reversed-at cs L (omega arith) (i - (6 - L)) (omega arith)
      by false = sym (get_or-take L cs (i - (6 - L)) 0 (omega arith))

-- the distance of a stage by its number in the direction of travel
pub distance-of : (b : Bool) (L at : ℕ) → at < L → L ≤ 6 → {v : ℕ} → v ≡ cond b (5 - at) (6 - L + at) → 2 ^ (5 - v) ≡ get_or (distances b L) at 0
distance-of true L at h l e =
    let n = length-falling L in
    let q : 5 - (5 - at) ≡ L - 1 - (L - 1 - at) = omega arith in
    ap (λ (i : ℕ). 2 ^ (5 - i)) e
    ∙ ap (λ (i : ℕ). 2 ^ i) q
    ∙ sym (ap (λ (ds : List ℕ). get_or ds at 0) (sym (reverse-falling L))
    ∙ reverse-at (falling L) at (omega (arith, n))
    ∙ ap (λ (i : ℕ). get_or (falling L) (i - 1 - at) 0) n
    ∙ falling-at L (L - 1 - at) (omega arith))
distance-of false L at h l e =
    let q : 5 - (6 - L + at) ≡ L - 1 - at = omega arith in
    ap (λ (i : ℕ). 2 ^ (5 - i)) e ∙ ap (λ (i : ℕ). 2 ^ i) q ∙ sym (falling-at L at h)

-- one exchange more

module _ (b : Bool) (ws : List ℕ) where
  abbrev pub exchanges_left : ℕ → ℕ → ℕ
  exchanges_left at x = exchanges_of (drop at (distances b 6)) (drop at (cond b (reverse ws) ws)) x

  module _ (l : length ws ≡ 6) where
    swaps-of : (at : ℕ) → at < 6 → get_or ws (cond b (5 - at) (6 - 6 + at)) 0 ≡ get_or (cond b (reverse ws) ws) at 0
    swaps-of at h = by b
      where
        by : (t : Bool) → get_or ws (cond t (5 - at) (6 - 6 + at)) 0 ≡ get_or (cond t (reverse ws) ws) at 0
        by true = sym (reverse-at ws at (omega arith) ∙ ap (λ (n : ℕ). get_or ws (n - 1 - at) 0) l)
        by false = ap (λ (n : ℕ). get_or ws n 0) (zero-add at)

    length-words : length (cond b (reverse ws) ws) ≡ 6
    length-words = by b
      where
        by : (t : Bool) → length (cond t (reverse ws) ws) ≡ 6
        by true = length-reverse ws ∙ l
        by false = l

    pub exchange-turn : (at x : ℕ) → at < 6 → {v y : ℕ} → v ≡ cond b (5 - at) (6 - 6 + at) → y ≡ exchange_of (2 ^ (5 - v)) (get_or ws v 0) x
        → exchanges_left (at + 1) y ≡ exchanges_left at x
    unfolding exchanges_of
    exchange-turn at x h {v} e r =
        let s = ap (λ (i : ℕ). get_or ws i 0) e ∙ swaps-of at h in
        let y = r ∙ ap (λ (d : ℕ). exchange_of d (get_or ws v 0) x) (distance-of b 6 at h (omega arith) e)
        ∙ ap (λ (s : ℕ). exchange_of (get_or (distances b 6) at 0) s x) s in
        ap (exchanges_left (at + 1)) y
        ∙ rw (add-one at, drop-cons (distances b 6) at 0 (omega (arith, length-distances b 6)), drop-cons (cond b (reverse ws) ws) at 0 (omega (arith, length-words)))

  pub exchange-end : (at x : ℕ) → 6 ≤ at → exchanges_left at x ≡ x
  unfolding exchanges_of
  exchange-end at x h = rw (drop_of_length-le (distances b 6) {i = at} (omega (arith, length-distances b 6)))

-- one stage more

module _ (b : Bool) (L : ℕ) (cs : List ℕ) where
  abbrev pub left : ℕ → ℕ → ℕ
  left at x = travel 64 (drop at (distances b L)) (drop at cs) x

  module _ (at x : ℕ) (h : at < L) (l : at < length cs) (hx : x < 2 ^ 64) where
    pub send-turn : {d s y : ℕ} → 0 < d → d ≡ get_or (distances b L) at 0 → s ≡ swaps_of d (get_or cs at 0) → y ≡ exchange_of d s x → left (at + 1) y ≡ left at x
    unfolding travel
    send-turn {d} pos e q r =
        let y = r ∙ ap (λ (n : ℕ). exchange_of d n x) q ∙ exchange-stage d (get_or cs at 0) x pos hx ∙ ap (λ (n : ℕ). stage 64 n (get_or cs at 0) x) e in
        ap (left (at + 1)) y
        ∙ rw (add-one at, drop-cons (distances b L) at 0 (omega (arith, length-distances b L)), drop-cons cs at 0 l)

  pub send-end : {at x y : ℕ} → L ≤ 6 → at ≡ L → y < 2 ^ 2 ^ L → left at x ≡ left 0 y → x ≡ travel_of b L cs y
  unfolding travel travel_of
  send-end {at} {x} {y} h_l e h q =
      let none : drop L (distances b L) ≡ [] = drop_of_length-le (distances b L) {i = L} (omega (arith, length-distances b L)) in
      let here : left at x ≡ x = ap (λ (n : ℕ). left n x) e ∙ ap (λ (ds : List ℕ). travel 64 ds (drop L cs) x) none in
      sym here ∙ q ∙ travel-wider (pow_mono h_l) (distances b L) cs (distances-fit b L (omega arith)) h
