-- A word through a stage and through stages one after the other: where each bit comes from, and the way back. Assumes nothing.
use mathlib.Core.Path.{◌≡◌, refl, sym, ◌∙◌, ap, ap₂}
use mathlib.Core.Bool.{Bool, true, false, not}
use mathlib.Core.List.{List, [], ◌∷◌, ◌++◌, reverse, reverse-cons, reverse-reverse}
use Prim.Native.Nat.{ℕ, zero, suc, ◌+◌, ◌-◌, ◌*◌, ◌%◌, ◌^◌, ◌<◌, ◌≤◌}
use native.Mathlib.Omega.{arith}
use native.Mathlib.Decide.{dec_lt}
use native.Mathlib.Nat.{mod-lt, pow-succ', zero-add, suc-add}
use lib.ListN.{length, drop, length-reverse}
use lib.Pow.{pow_pos, pow_mono, pow-add}
use Rattle.bits.specs.Bit.{bit}
use Rattle.bits.proofs.Word.{bit-mod-two, bit-mod, bit-above, bit-of_bits, of_bits-lt, ext}
use Rattle.network.specs.Stage.{source, stage, travel, falling, rising}
use Rattle.network.specs.Word.{distances}
use Rattle.network.proofs.Index.{source-source, source-injective, source-lt}

-- w places are whole blocks of a stage of distance d
pub record Fits (w d : ℕ) : Type 0 where
  pub positive : 0 < d
  pub blocks : ℕ
  pub whole : w ≡ blocks * (2 * d)

module _ {w d : ℕ} (f : Fits w d) (c : ℕ) where
  pub source-below : (p : ℕ) → p < w → source d c p < w
  source-below p h = rw f.whole (source-lt f.positive c f.blocks p (rw f.whole at h))

module _ (w d c x : ℕ) where
  pub stage-lt : stage w d c x < 2 ^ w
  unfolding stage
  stage-lt = of_bits-lt w (λ p. bit x (source d c p))

  pub bit-stage : (p : ℕ) → p < w → bit (stage w d c x) p ≡ bit x (source d c p)
  unfolding stage
  bit-stage p h = bit-of_bits w (λ q. bit x (source d c q)) p h ∙ bit-mod-two x (source d c p)

pub stage-stage : {w d : ℕ} → Fits w d → (c : ℕ) {x : ℕ} → x < 2 ^ w → stage w d c (stage w d c x) ≡ x
stage-stage {w} {d} f c {x} h =
    ext w (stage-lt w d c (stage w d c x)) h
    (λ p l. bit-stage w d c (stage w d c x) p l
    ∙ bit-stage w d c x (source d c p) (source-below f c p l)
    ∙ ap (bit x) (source-source f.positive c p))

-- stages one after the other

unfoldable pub AllFit : ℕ → List ℕ → Type 0
AllFit w [] = Unit
AllFit w (d ∷ ds) = Fits w d × AllFit w ds

-- the place whose bit comes to place p
unfoldable pub origin : List ℕ → List ℕ → ℕ → ℕ
origin [] cs p = p
origin (d ∷ ds) [] p = p
origin (d ∷ ds) (c ∷ cs) p = source d c (origin ds cs p)

module _ (w : ℕ) where
  pub travel-lt : (ds cs : List ℕ) {x : ℕ} → x < 2 ^ w → travel w ds cs x < 2 ^ w
  unfolding travel
  travel-lt [] cs h = h
  travel-lt (d ∷ ds) [] h = h
  travel-lt (d ∷ ds) (c ∷ cs) {x} h = travel-lt ds cs (stage-lt w d c x)

  pub origin-below : (ds cs : List ℕ) → AllFit w ds → (p : ℕ) → p < w → origin ds cs p < w
  unfolding AllFit origin
  origin-below [] cs f p h = h
  origin-below (d ∷ ds) [] f p h = h
  origin-below (d ∷ ds) (c ∷ cs) f p h = source-below f.0 c (origin ds cs p) (origin-below ds cs f.1 p h)

  pub bit-travel : (ds cs : List ℕ) → AllFit w ds → (x p : ℕ) → p < w → bit (travel w ds cs x) p ≡ bit x (origin ds cs p)
  unfolding AllFit origin travel
  bit-travel [] cs f x p h = refl
  bit-travel (d ∷ ds) [] f x p h = refl
  bit-travel (d ∷ ds) (c ∷ cs) f x p h =
      bit-travel ds cs f.1 (stage w d c x) p h ∙ bit-stage w d c x (origin ds cs p) (origin-below ds cs f.1 p h)

  -- no two places get one bit
  pub origin-injective : (ds cs : List ℕ) → AllFit w ds → (p q : ℕ) → origin ds cs p ≡ origin ds cs q → p ≡ q
  unfolding AllFit origin
  origin-injective [] cs f p q e = e
  origin-injective (d ∷ ds) [] f p q e = e
  origin-injective (d ∷ ds) (c ∷ cs) f p q e =
      origin-injective ds cs f.1 p q (source-injective f.0.positive c (origin ds cs p) (origin ds cs q) e)

  -- one stage more at the end
  travel-last : (ds cs : List ℕ) → length cs ≡ length ds → (d c x : ℕ)
      → travel w (ds ++ (d ∷ [])) (cs ++ (c ∷ [])) x ≡ stage w d c (travel w ds cs x)
  unfolding travel
  travel-last [] [] e d c x = refl
  travel-last [] (b ∷ cs) e d c x = absurd (omega arith)
  travel-last (a ∷ ds) [] e d c x = absurd (omega arith)
  travel-last (a ∷ ds) (b ∷ cs) e d c x = travel-last ds cs (omega arith) d c (stage w a b x)

  -- the stages in reversed order, with their own controls, lead back
  pub travel-back : (ds cs : List ℕ) → length cs ≡ length ds → AllFit w ds → {x : ℕ} → x < 2 ^ w
      → travel w (reverse ds) (reverse cs) (travel w ds cs x) ≡ x
  unfolding AllFit travel
  travel-back [] [] e f h = refl
  travel-back [] (c ∷ cs) e f h = absurd (omega arith)
  travel-back (d ∷ ds) [] e f h = absurd (omega arith)
  travel-back (d ∷ ds) (c ∷ cs) e f {x} h =
      let y = travel w ds cs (stage w d c x) in
      let l : length (reverse cs) ≡ length (reverse ds) = omega (arith, length-reverse cs, length-reverse ds) in
      ap₂ (λ (es bs : List ℕ). travel w es bs y) (reverse-cons d ds) (reverse-cons c cs)
      ∙ travel-last (reverse ds) (reverse cs) l d c y
      ∙ ap (stage w d c) (travel-back ds cs (omega arith) f.1 (stage-lt w d c x))
      ∙ stage-stage f.0 c h

-- the distances of the two networks

pub pow-fits : {n L : ℕ} → n < L → Fits (2 ^ L) (2 ^ n)
pow-fits {n} {L} h =
    let k = L - 1 - n in
    let s : L ≡ k + suc n = omega arith in
    let e : 2 ^ L ≡ 2 ^ k * (2 * 2 ^ n) = ap (λ (i : ℕ). 2 ^ i) s ∙ pow-add 2 k (suc n) ∙ ap (λ (i : ℕ). 2 ^ k * i) (pow-succ' 2 n) in
    record { positive = pow_pos n; blocks = 2 ^ k; whole = e }

pub falling-fit : (n : ℕ) {L : ℕ} → n ≤ L → AllFit (2 ^ L) (falling n)
unfolding AllFit falling
falling-fit zero h = tt
falling-fit (suc n) h = (pow-fits h, falling-fit n (omega arith))

append-fit : (w : ℕ) (ds es : List ℕ) → AllFit w ds → AllFit w es → AllFit w (ds ++ es)
unfolding AllFit
append-fit w [] es f g = g
append-fit w (d ∷ ds) es f g = (f.0, append-fit w ds es f.1 g)

pub rising-fit : (n : ℕ) {L : ℕ} → n ≤ L → AllFit (2 ^ L) (rising n)
unfolding AllFit rising
rising-fit zero h = tt
rising-fit (suc n) {L} h = append-fit (2 ^ L) (rising n) (2 ^ n ∷ []) (rising-fit n (omega arith)) (pow-fits h, tt)

pub reverse-falling : (n : ℕ) → reverse (falling n) ≡ rising n
unfolding falling rising
reverse-falling zero = refl
reverse-falling (suc n) = reverse-cons (2 ^ n) (falling n) ∙ ap (λ (ds : List ℕ). ds ++ (2 ^ n ∷ [])) (reverse-falling n)

pub reverse-rising : (n : ℕ) → reverse (rising n) ≡ falling n
reverse-rising n = ap reverse (sym (reverse-falling n)) ∙ reverse-reverse (falling n)

pub length-falling : (n : ℕ) → length (falling n) ≡ n
unfolding falling
length-falling zero = refl
length-falling (suc n) = ap suc (length-falling n)

pub drop-falling : (k L : ℕ) → drop k (falling (k + L)) ≡ falling L
unfolding falling
drop-falling zero L = ap falling (zero-add L)
drop-falling (suc k) L = ap (λ (n : ℕ). drop (suc k) (falling n)) (suc-add k L) ∙ drop-falling k L

pub length-rising : (n : ℕ) → length (rising n) ≡ n
length-rising n = ap length (sym (reverse-falling n)) ∙ length-reverse (falling n) ∙ length-falling n

-- the same of either network

pub distances-fit : (b : Bool) (n : ℕ) {L : ℕ} → n ≤ L → AllFit (2 ^ L) (distances b n)
distances-fit true = rising-fit
distances-fit false = falling-fit

pub length-distances : (b : Bool) (n : ℕ) → length (distances b n) ≡ n
length-distances true = length-rising
length-distances false = length-falling

pub reverse-distances : (b : Bool) (n : ℕ) → reverse (distances b n) ≡ distances (not b) n
reverse-distances true = reverse-rising
reverse-distances false = reverse-falling

-- Stages of whole blocks at a greater width: they send the bits below w as at width w, and leave the zeros above.

module _ {w v : ℕ} (l : w ≤ v) where
  stage-below : {d : ℕ} → Fits w d → (c x : ℕ) → stage v d c x % 2 ^ w ≡ stage w d c (x % 2 ^ w)
  stage-below {d} f c x =
      ext w (mod-lt (stage v d c x) (pow_pos w)) (stage-lt w d c (x % 2 ^ w))
      (λ p h. bit-mod (stage v d c x) w p h
      ∙ bit-stage v d c x p (omega arith)
      ∙ sym (bit-stage w d c (x % 2 ^ w) p h ∙ bit-mod x w (source d c p) (source-below f c p h)))

  pub travel-below : (ds cs : List ℕ) → AllFit w ds → (x : ℕ) → travel v ds cs x % 2 ^ w ≡ travel w ds cs (x % 2 ^ w)
  unfolding travel AllFit
  travel-below [] cs f x = refl
  travel-below (d ∷ ds) [] f x = refl
  travel-below (d ∷ ds) (c ∷ cs) f x = travel-below ds cs f.1 (stage v d c x) ∙ ap (travel w ds cs) (stage-below f.0 c x)

  stage-wider : {d : ℕ} → Fits w d → (c : ℕ) {x : ℕ} → x < 2 ^ w → stage v d c x ≡ stage w d c x
  stage-wider {d} f c {x} h =
      ext v (stage-lt v d c x) (omega (arith, stage-lt w d c x, pow_mono l)) (λ p k. bit-stage v d c x p k ∙ same p (dec_lt p w))
    where
      outside : (p : ℕ) → w ≤ p → Dec (source d c p < w) → w ≤ source d c p
      outside p k (no n) = omega arith
      outside p k (yes q) = absurd (omega (arith, source-source f.positive c p, source-below f c (source d c p) q))

      same : (p : ℕ) → Dec (p < w) → bit x (source d c p) ≡ bit (stage w d c x) p
      same p (yes k) = sym (bit-stage w d c x p k)
      same p (no n) =
          bit-above (source d c p) h (outside p (omega arith) (dec_lt (source d c p) w))
          ∙ sym (bit-above {w = w} p (stage-lt w d c x) (omega arith))

  pub travel-wider : (ds cs : List ℕ) → AllFit w ds → {x : ℕ} → x < 2 ^ w → travel v ds cs x ≡ travel w ds cs x
  unfolding travel AllFit
  travel-wider [] cs f h = refl
  travel-wider (d ∷ ds) [] f h = refl
  travel-wider (d ∷ ds) (c ∷ cs) f {x} h =
      ap (travel v ds cs) (stage-wider f.0 c h) ∙ travel-wider ds cs f.1 (stage-lt w d c x)
