-- Six stages at width 64 stand for the stages in use at any width: the others pass every bit. Assumes nothing.
use mathlib.Core.Path.{◌≡◌, refl, sym, ◌∙◌, ap, ap₂}
use mathlib.Core.Bool.{Bool, true, false, cond}
use mathlib.Core.List.{List, [], ◌∷◌, ◌++◌, reverse, reverse-cons}
use Prim.Native.Nat.{ℕ, zero, suc, ◌+◌, ◌-◌, ◌*◌, ◌%◌, ◌^◌, ◌<◌, ◌≤◌}
use native.Mathlib.Omega.{arith}
use lib.ListN.{length, take, drop, replicate, take-append-drop, length-replicate, length-reverse, length-append}
use lib.Arith.{digits_lt}
use lib.Pow.{pow_mono}
use lib.Seq.{length-take-le}
use Rattle.bits.specs.Bit.{bit}
use Rattle.bits.proofs.Word.{bit-ones, ext}
use Rattle.network.specs.Stage.{source, stage, travel, falling, rising}
use Rattle.network.specs.Word.{swaps_of, swaps_at, exchanges_of, exchanges, all_pass, by_index, prepared_of, distances, travel_of}
use Rattle.network.proofs.Index.{place_at, on-places, block-lt, source-at}
use Rattle.network.proofs.Travel.{Fits, AllFit, bit-stage, stage-lt, travel-lt, travel-back, travel-below, travel-wider, falling-fit, rising-fit, distances-fit, length-falling, drop-falling, length-rising, length-distances, reverse-rising}
use Rattle.network.proofs.PairsExchanged.{exchange-stage}
use Rattle.network.proofs.Filling.{length-reversed}

-- exchanges under the swaps of the controls are the stages

pub exchanges-travel : (ds cs : List ℕ) → AllFit 64 ds → {x : ℕ} → x < 2 ^ 64 → exchanges_of ds (swaps_at ds cs) x ≡ travel 64 ds cs x
unfolding exchanges_of travel AllFit
exchanges-travel [] cs f h = refl
exchanges-travel (d ∷ ds) [] f h = refl
exchanges-travel (d ∷ ds) (c ∷ cs) f {x} h =
    ap (exchanges_of ds (swaps_at ds cs)) (exchange-stage d c x f.0.positive h)
    ∙ exchanges-travel ds cs f.1 (stage-lt 64 d c x)

-- a stage that passes every bit

stage-passes : {d : ℕ} → Fits 64 d → {x : ℕ} → x < 2 ^ 64 → stage 64 d all_pass x ≡ x
stage-passes {d} f {x} h = ext 64 (stage-lt 64 d all_pass x) h (λ p l. bit-stage 64 d all_pass x p l ∙ ap (bit x) (keeps p l))
  where
    keeps : (p : ℕ) → p < 64 → source d all_pass p ≡ p
    keeps = on-places f.positive _ at
      where
        at : (J e t : ℕ) → e < 2 → t < d → place_at d J e t < 64 → source d all_pass (place_at d J e t) ≡ place_at d J e t
        at J e t he ht l =
            let k : J < f.blocks = block-lt d J e t f.blocks (rw f.whole at l) in
            let s : J * d + t < 32 = omega (arith, digits_lt k ht, f.whole) in
            let b : (e + bit all_pass (J * d + t) + 1) % 2 ≡ e = omega (arith, bit-ones 32 (J * d + t) s) in
            source-at d J e t he ht all_pass ∙ ap (λ (n : ℕ). place_at d J n t) b

travel-passes : (ds : List ℕ) → AllFit 64 ds → (k : ℕ) {x : ℕ} → x < 2 ^ 64 → travel 64 ds (replicate k all_pass) x ≡ x
unfolding travel AllFit
travel-passes [] f k h = refl
travel-passes (d ∷ ds) f zero h = refl
travel-passes (d ∷ ds) f (suc k) {x} h =
    ap (travel 64 ds (replicate k all_pass)) (stage-passes f.0 h) ∙ travel-passes ds f.1 k h

-- one list of stages after another

travel-append : (w : ℕ) (ds es cs bs : List ℕ) → length cs ≡ length ds → (x : ℕ)
    → travel w (ds ++ es) (cs ++ bs) x ≡ travel w es bs (travel w ds cs x)
unfolding travel
travel-append w [] es [] bs e x = refl
travel-append w [] es (c ∷ cs) bs e x = absurd (omega arith)
travel-append w (d ∷ ds) es [] bs e x = absurd (omega arith)
travel-append w (d ∷ ds) es (c ∷ cs) bs e x = travel-append w ds es cs bs (omega arith) (stage w d c x)

-- stages beyond the list's are not looked at
pub travel-own : (w : ℕ) (ds cs es : List ℕ) → length cs ≡ length ds → (x : ℕ) → travel w ds (cs ++ es) x ≡ travel w ds cs x
unfolding travel
travel-own w [] cs es e x = refl
travel-own w (d ∷ ds) [] es e x = absurd (omega arith)
travel-own w (d ∷ ds) (c ∷ cs) es e x = travel-own w ds cs es (omega arith) (stage w d c x)

-- the lists of distances

take-fit : (w : ℕ) (ds : List ℕ) (k : ℕ) → AllFit w ds → AllFit w (take k ds)
unfolding AllFit
take-fit w ds zero f = tt
take-fit w [] (suc k) f = tt
take-fit w (d ∷ ds) (suc k) f = (f.0, take-fit w ds k f.1)

-- the swaps in reversed order

swaps-append : (ds es cs bs : List ℕ) → length cs ≡ length ds → swaps_at (ds ++ es) (cs ++ bs) ≡ swaps_at ds cs ++ swaps_at es bs
swaps-append [] es [] bs e = refl
swaps-append [] es (c ∷ cs) bs e = absurd (omega arith)
swaps-append (d ∷ ds) es [] bs e = absurd (omega arith)
swaps-append (d ∷ ds) es (c ∷ cs) bs e = ap (λ (l : List ℕ). swaps_of d c ∷ l) (swaps-append ds es cs bs (omega arith))

swaps-reverse : (ds cs : List ℕ) → length cs ≡ length ds → reverse (swaps_at ds cs) ≡ swaps_at (reverse ds) (reverse cs)
swaps-reverse [] [] e = refl
swaps-reverse [] (c ∷ cs) e = absurd (omega arith)
swaps-reverse (d ∷ ds) [] e = absurd (omega arith)
swaps-reverse (d ∷ ds) (c ∷ cs) e =
    let l : length (reverse cs) ≡ length (reverse ds) = omega (arith, length-reverse cs, length-reverse ds) in
    reverse-cons (swaps_of d c) (swaps_at ds cs)
    ∙ ap (λ (l : List ℕ). l ++ (swaps_of d c ∷ [])) (swaps-reverse ds cs (omega arith))
    ∙ sym (ap₂ swaps_at (reverse-cons d ds) (reverse-cons c cs) ∙ swaps-append (reverse ds) (d ∷ []) (reverse cs) (c ∷ []) l)

-- the narrowest L of six stages, behind others that pass
in_use_lem : (L : ℕ) → L ≤ 6 → (cs : List ℕ) {x : ℕ} → x < 2 ^ 64 → travel 64 (falling 6) (replicate (6 - L) all_pass ++ cs) x ≡ travel 64 (falling L) cs x
in_use_lem L h_l cs {x} hx =
    let k = 6 - L in
    let s : k + L ≡ 6 = omega arith in
    let d : drop k (falling 6) ≡ falling L = ap (λ (n : ℕ). drop k (falling n)) (sym s) ∙ drop-falling k L in
    let t : length (replicate k all_pass) ≡ length (take k (falling 6)) =
    length-replicate k all_pass ∙ sym (length-take-le k (falling 6) (omega (arith, length-falling 6)))
    in
    ap (λ (ds : List ℕ). travel 64 ds (replicate k all_pass ++ cs) x) (sym (take-append-drop k (falling 6)))
    ∙ travel-append 64 (take k (falling 6)) (drop k (falling 6)) (replicate k all_pass) cs t x
    ∙ ap₂ (λ (ds : List ℕ) (y : ℕ). travel 64 ds cs y) d
    (travel-passes (take k (falling 6)) (take-fit 64 (falling 6) k (falling-fit 6 {L = 6} (omega arith))) k hx)

-- What the code computes: the six exchanges under the swaps by index in the table, from the widest or (true) from the narrowest.

-- the stages in use, from the widest
abbrev pub used : Bool → ℕ → List ℕ → List ℕ
used b L cs = cond b (reverse (take L cs)) (take L cs)

module _ (L : ℕ) (h_l : L ≤ 6) (cs : List ℕ) (hc : length cs ≡ 6) where
  length-used : (b : Bool) → length (used b L cs) ≡ L
  length-used true = length-reversed cs L (omega arith)
  length-used false = length-take-le L cs (omega arith)

  pub length-index : (b : Bool) → length (by_index b L cs) ≡ 6
  length-index b =
      length-append (replicate (6 - L) all_pass) (used b L cs) ∙ omega (arith, length-replicate (6 - L) all_pass, length-used b)

  -- on any word; the inverse, since its stages lead back from where the butterfly's lead
  six-stages : (b : Bool) {x : ℕ} → x < 2 ^ 64 → exchanges b (prepared_of b L cs) x ≡ travel 64 (distances b L) (take L cs) x
  unfolding falling rising
  six-stages false h =
      exchanges-travel (falling 6) (by_index false L cs) (falling-fit 6 {L = 6} (omega arith)) h ∙ in_use_lem L h_l (take L cs) h
  six-stages true {x} h =
      let bs = by_index true L cs in
      let n : length bs ≡ length (falling 6) = length-index true in
      let y = travel 64 (rising L) (take L cs) x in
      let hy : y < 2 ^ 64 = travel-lt 64 (rising L) (take L cs) h in
      let there : travel 64 (falling 6) bs y ≡ x =
      in_use_lem L h_l (reverse (take L cs)) hy
      ∙ rw (← reverse-rising L) (travel-back 64 (rising L) (take L cs) (length-used false ∙ sym (length-rising L)) (rising-fit L {L = 6} h_l) h)
      in
      ap (λ (ss : List ℕ). exchanges_of (rising 6) ss x) (swaps-reverse (falling 6) bs n)
      ∙ exchanges-travel (rising 6) (reverse bs) (rising-fit 6 {L = 6} (omega arith)) h
      ∙ ap (travel 64 (rising 6) (reverse bs)) (sym there)
      ∙ travel-back 64 (falling 6) bs n (falling-fit 6 {L = 6} (omega arith)) hy

  module _ (b : Bool) where
    pub used-only : (x : ℕ) → travel_of b L (take L cs) x ≡ travel_of b L cs x
    unfolding travel_of
    used-only x =
        sym (travel-own (2 ^ L) (distances b L) (take L cs) (drop L cs) (length-used false ∙ sym (length-distances b L)) x)
        ∙ ap (λ (es : List ℕ). travel (2 ^ L) (distances b L) es x) (take-append-drop L cs)

    -- the bits below the width go as through its network
    pub six-below : {x : ℕ} → x < 2 ^ 64 → exchanges b (prepared_of b L cs) x % 2 ^ 2 ^ L ≡ travel_of b L cs (x % 2 ^ 2 ^ L)
    unfolding travel_of
    six-below {x} h =
        ap (λ (y : ℕ). y % 2 ^ 2 ^ L) (six-stages b h)
        ∙ travel-below (pow_mono h_l) (distances b L) (take L cs) (distances-fit b L (omega arith)) x
        ∙ used-only (x % 2 ^ 2 ^ L)

    -- and the whole word, if it is of the width
    pub six-same : {x : ℕ} → x < 2 ^ 2 ^ L → exchanges b (prepared_of b L cs) x ≡ travel_of b L cs x
    unfolding travel_of
    six-same {x} h =
        six-stages b (omega (arith, pow_mono (pow_mono h_l)))
        ∙ travel-wider (pow_mono h_l) (distances b L) (take L cs) (distances-fit b L (omega arith)) h
        ∙ used-only x
