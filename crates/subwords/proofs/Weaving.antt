-- Words as their subwords from the left, and two words woven, over every size z of which N pairs fill 64 bits. Assumes nothing.
use mathlib.Core.Path.{◌≡◌, refl, sym, ◌∙◌, ap, ap₂, subst}
use mathlib.Core.Logic.{◌⊎◌, inl, inr}
use mathlib.Core.Bool.{Bool, cond}
use Prim.Native.Nat.{ℕ, zero, suc, ◌+◌, ◌-◌, ◌*◌, ◌/◌, ◌%◌, ◌^◌, ◌<◌, min, max}
use native.Mathlib.Omega.{arith}
use native.Mathlib.Nat.{not-suc-le-zero, mod-lt, mul-zero}
use lib.Arith.{digits_div, digits_lt}
use lib.Bits.{bit_and, bit_or, or_lt, and_le_l}
use lib.Dec.{eqb}
use lib.Pow.{pow-add, pow_pos}
use borrow.Author.Tests.{eq-eqb, ne_eqb}
use Rattle.bits.specs.Bit.{bit}
use Rattle.bits.proofs.Word.{digit, bit-lt, bit-and, bit-or, bit_not, bit-mod, bit-shr, bit-shl-from, bit-cat-low, bit-cat-high, ext}
use Rattle.network.specs.Word.{pairs}
use Rattle.network.proofs.Index.{place_at, on-places, block-lt}
use Rattle.network.proofs.PairsExchanged.{lower-lt, bit-lower, bit-upper}
use Rattle.subwords.specs.Subword.{subword, from_left, woven}

-- subwords from the left

module _ (z : ℕ) (x i : ℕ) where
  pub subword-lt : subword z x i < 2 ^ z
  unfolding subword
  subword-lt = mod-lt (x / 2 ^ (64 - (i + 1) * z)) (pow_pos z)

  bit-subword : (t : ℕ) → t < z → bit (subword z x i) t ≡ bit x (64 - (i + 1) * z + t)
  unfolding subword
  bit-subword t h = bit-mod (x / 2 ^ (64 - (i + 1) * z)) z t h ∙ bit-shr x (64 - (i + 1) * z) t

module _ (z : ℕ) (f : ℕ → ℕ) (fits : (i : ℕ) → f i < 2 ^ z) where
  left_lt : (n : ℕ) → from_left z n f < 2 ^ (n * z)
  unfolding from_left
  left_lt zero = omega (arith, pow_pos (0 * z))
  left_lt (suc n) =
      let e : suc n * z ≡ n * z + z = omega arith in
      rw (e, pow-add 2 (n * z) z) (digits_lt (left_lt n) (fits n))

  bit-left : (n j t : ℕ) → j < n → t < z → bit (from_left z n f) (j * z + t) ≡ bit (f (n - 1 - j)) t
  unfolding from_left
  bit-left zero j t hj ht = absurd (not-suc-le-zero hj)
  bit-left (suc n) zero t hj ht =
      let e : 0 * z + t ≡ t = omega arith in
      let k : n ≡ suc n - 1 - 0 = omega arith in
      ap (bit (from_left z n f * 2 ^ z + f n)) e
      ∙ bit-cat-low (from_left z n f) z t (fits n) ht
      ∙ ap (λ (i : ℕ). bit (f i) t) k
  bit-left (suc n) (suc j) t hj ht =
      let e : suc j * z + t ≡ z + (j * z + t) = omega arith in
      let k : n - 1 - j ≡ suc n - 1 - suc j = omega arith in
      ap (bit (from_left z n f * 2 ^ z + f n)) e
      ∙ bit-cat-high (from_left z n f) z (j * z + t) (fits n)
      ∙ bit-left n j t (omega arith) ht
      ∙ ap (λ (i : ℕ). bit (f i) t) k

left-same : (z n : ℕ) (f g : ℕ → ℕ) → ((i : ℕ) → i < n → f i ≡ g i) → from_left z n f ≡ from_left z n g
unfolding from_left
left-same z zero f g e = refl
left-same z (suc n) f g e = ap₂ (λ (a b : ℕ). a * 2 ^ z + b) (left-same z n f g (λ i h. e i (omega arith))) (e n (omega arith))

-- the left subwords are those of even number, the right ones those of odd number

abbrev turns : (ℕ → ℕ) → (ℕ → ℕ) → ℕ → ℕ
turns l r i = cond (eqb (i % 2) 0) (l i) (r i)

turn-left : (l r : ℕ → ℕ) (i : ℕ) → i % 2 ≡ 0 → turns l r i ≡ l i
turn-left l r i e = ap (λ (b : Bool). cond b (l i) (r i)) (eq-eqb (i % 2) 0 e)

turn-right : (l r : ℕ → ℕ) (i : ℕ) → i % 2 ≡ 1 → turns l r i ≡ r i
turn-right l r i e = ap (λ (b : Bool). cond b (l i) (r i)) (ne_eqb (i % 2) 0 (λ q. omega arith))

turns_at : (P : ℕ → Type 0) (l r : ℕ → ℕ) (i : ℕ) → (i % 2 ≡ 0 → P (l i)) → (i % 2 ≡ 1 → P (r i)) → P (turns l r i)
turns_at P l r i left right = by (digit (i % 2) (omega arith))
  where
    by : (i % 2 ≡ 0) ⊎ (i % 2 ≡ 1) → P (turns l r i)
    by (inl e) = subst P (sym (turn-left l r i e)) (left e)
    by (inr e) = subst P (sym (turn-right l r i e)) (right e)

pub size-pos : (z N : ℕ) → N * (2 * z) ≡ 64 → 0 < z
size-pos zero N e = absurd (omega (arith, mul-zero N))
size-pos (suc z) N e = omega arith

module _ (z N : ℕ) (whole : N * (2 * z) ≡ 64) where
  pub subwords-count : 64 / z ≡ 2 * N
  subwords-count =
      let e : 64 ≡ 2 * N * z + 0 = omega arith in
      ap (λ (n : ℕ). n / z) e ∙ digits_div (2 * N) (size-pos z N whole)

  -- woven from equal subwords
  pub woven-same : (l r l' r' : ℕ → ℕ) → ((i : ℕ) → i + 1 < 64 / z → i % 2 ≡ 0 → l i ≡ l' i) → ((i : ℕ) → i < 64 / z → i % 2 ≡ 1 → r i ≡ r' i)
      → woven z l r ≡ woven z l' r'
  unfolding woven
  woven-same l r l' r' left right =
      left-same z (64 / z) (turns l r) (turns l' r')
      (λ i h.
      turns_at (λ (s : ℕ). s ≡ turns l' r' i) l r i
      (λ e. left i (omega (arith, subwords-count)) e ∙ sym (turn-left l' r' i e))
      (λ e. right i h e ∙ sym (turn-right l' r' i e)))

  -- one place of the two woven
  module _ (l r : ℕ → ℕ) (fits_l : (i : ℕ) → l i < 2 ^ z) (fits_r : (i : ℕ) → r i < 2 ^ z) where
    fits : (i : ℕ) → turns l r i < 2 ^ z
    fits i = turns_at (λ (s : ℕ). s < 2 ^ z) l r i (λ e. fits_l i) (λ e. fits_r i)

    pub woven-lt : woven z l r < 2 ^ 64
    unfolding woven
    woven-lt =
        let e : 64 / z * z ≡ 64 = omega (arith, ap (λ (n : ℕ). n * z) subwords-count) in
        rw e at (left_lt z (turns l r) fits (64 / z))

    pub bit-woven : (j t : ℕ) → j < 2 * N → t < z → bit (woven z l r) (j * z + t) ≡ bit (turns l r (2 * N - 1 - j)) t
    unfolding woven
    bit-woven j t hj ht =
        ap (λ (n : ℕ). bit (from_left z n (turns l r)) (j * z + t)) subwords-count
        ∙ bit-left z (turns l r) fits (2 * N) j t hj ht

  -- the bits of a subword, counted from the right
  bit_at : (x i t : ℕ) → i < 2 * N → t < z → bit (subword z x i) t ≡ bit x ((2 * N - 1 - i) * z + t)
  bit_at x i t hi ht =
      let s : i + 1 + (2 * N - 1 - i) ≡ 2 * N = omega arith in
      let e : 64 - (i + 1) * z + t ≡ (2 * N - 1 - i) * z + t = omega (arith, ap (λ (n : ℕ). n * z) s) in
      bit-subword z x i t ht ∙ ap (bit x) e

  place-lt : (j t : ℕ) → j < 2 * N → t < z → j * z + t < 64
  place-lt j t hj ht = omega (arith, digits_lt hj ht)

  -- a word shifted by a subword

  pub subword-up : (x i : ℕ) → i + 1 < 64 / z → subword z (x * 2 ^ z % 2 ^ 64) i ≡ subword z x (i + 1)
  subword-up x i h =
      let l : i + 1 < 2 * N = omega (arith, subwords-count) in
      let e : 2 * N - 1 - i ≡ 1 + (2 * N - 1 - (i + 1)) = omega arith in
      ext z (subword-lt z (x * 2 ^ z % 2 ^ 64) i) (subword-lt z x (i + 1))
      (λ t ht.
      let p : z + ((2 * N - 1 - (i + 1)) * z + t) ≡ (2 * N - 1 - i) * z + t = omega (arith, ap (λ (n : ℕ). n * z) e) in
      bit_at (x * 2 ^ z % 2 ^ 64) i t (omega arith) ht
      ∙ bit-shl-from x z ((2 * N - 1 - i) * z + t) ((2 * N - 1 - (i + 1)) * z + t) (place-lt (2 * N - 1 - i) t (omega arith) ht) p
      ∙ sym (bit_at x (i + 1) t l ht))

  pub subword-down : (x i : ℕ) → i < 64 / z → i % 2 ≡ 1 → subword z (x / 2 ^ z) i ≡ subword z x (i - 1)
  subword-down x i h odd =
      let l : i < 2 * N = omega (arith, subwords-count) in
      let e : 2 * N - 1 - (i - 1) ≡ 1 + (2 * N - 1 - i) = omega arith in
      ext z (subword-lt z (x / 2 ^ z) i) (subword-lt z x (i - 1))
      (λ t ht.
      let p : z + ((2 * N - 1 - i) * z + t) ≡ (2 * N - 1 - (i - 1)) * z + t = omega (arith, ap (λ (n : ℕ). n * z) e) in
      bit_at (x / 2 ^ z) i t l ht
      ∙ bit-shr x z ((2 * N - 1 - i) * z + t)
      ∙ ap (bit x) p
      ∙ sym (bit_at x (i - 1) t (omega arith) ht))

  -- each subword of what is woven
  module _ (l r : ℕ → ℕ) (fits_l : (i : ℕ) → l i < 2 ^ z) (fits_r : (i : ℕ) → r i < 2 ^ z) (i : ℕ) (h : i < 64 / z) where
    pub subword-woven : subword z (woven z l r) i ≡ turns l r i
    subword-woven =
        let n : i < 2 * N = omega (arith, subwords-count) in
        let e : 2 * N - 1 - (2 * N - 1 - i) ≡ i = omega arith in
        ext z (subword-lt z (woven z l r) i) (turns_at (λ (s : ℕ). s < 2 ^ z) l r i (λ e. fits_l i) (λ e. fits_r i))
        (λ t ht.
        bit_at (woven z l r) i t n ht
        ∙ bit-woven l r fits_l fits_r (2 * N - 1 - i) t (omega arith) ht
        ∙ ap (λ (k : ℕ). bit (turns l r k) t) e)

    pub left-woven : i % 2 ≡ 0 → subword z (woven z l r) i ≡ l i
    left-woven e = subword-woven ∙ turn-left l r i e

    pub right-woven : i % 2 ≡ 1 → subword z (woven z l r) i ≡ r i
    right-woven e = subword-woven ∙ turn-right l r i e

  -- the left subwords of one word and the right ones of another, bit by bit
  module _ (x y : ℕ) where
    abbrev woven_words : ℕ
    woven_words = woven z (subword z x) (subword z y)

    pub words-lt : woven_words < 2 ^ 64
    words-lt = woven-lt (subword z x) (subword z y) (subword-lt z x) (subword-lt z y)

    module _ (J t : ℕ) (h : J < N) (ht : t < z) where
      pub woven-lower : bit woven_words (place_at z J 0 t) ≡ bit y (place_at z J 0 t)
      woven-lower =
          let e : 2 * N - 1 - (2 * N - 1 - (J * 2 + 0)) ≡ J * 2 + 0 = omega arith in
          bit-woven (subword z x) (subword z y) (subword-lt z x) (subword-lt z y) (J * 2 + 0) t (omega arith) ht
          ∙ ap (λ (s : ℕ). bit s t) (turn-right (subword z x) (subword z y) (2 * N - 1 - (J * 2 + 0)) (omega arith))
          ∙ bit_at y (2 * N - 1 - (J * 2 + 0)) t (omega arith) ht
          ∙ ap (λ (j : ℕ). bit y (j * z + t)) e

      pub woven-upper : bit woven_words (place_at z J 1 t) ≡ bit x (place_at z J 1 t)
      woven-upper =
          let e : 2 * N - 1 - (2 * N - 1 - (J * 2 + 1)) ≡ J * 2 + 1 = omega arith in
          bit-woven (subword z x) (subword z y) (subword-lt z x) (subword-lt z y) (J * 2 + 1) t (omega arith) ht
          ∙ ap (λ (s : ℕ). bit s t) (turn-left (subword z x) (subword z y) (2 * N - 1 - (J * 2 + 1)) (omega arith))
          ∙ bit_at x (2 * N - 1 - (J * 2 + 1)) t (omega arith) ht
          ∙ ap (λ (j : ℕ). bit x (j * z + t)) e

  pub in_pairs : (J e t : ℕ) → place_at z J e t < 64 → J < N
  in_pairs J e t h = block-lt z J e t N (omega arith)

  -- a word is its own subwords
  pub woven-own : {x : ℕ} → x < 2 ^ 64 → woven z (subword z x) (subword z x) ≡ x
  woven-own {x} h = ext 64 (words-lt x x) h (on-places (size-pos z N whole) _ at)
    where
      at : (J e t : ℕ) → e < 2 → t < z → place_at z J e t < 64 → bit (woven_words x x) (place_at z J e t) ≡ bit x (place_at z J e t)
      at J zero t he ht l = woven-lower x x J t (in_pairs J 0 t l) ht
      at J (suc zero) t he ht l = woven-upper x x J t (in_pairs J 1 t l) ht
      at J (suc (suc e)) t he ht l = absurd (omega arith)

  -- the code's words: `rights` is pairs z
  module _ {x y : ℕ} (hx : x < 2 ^ 64) (hy : y < 2 ^ 64) where
    abbrev masked : ℕ
    masked = bit_or (bit_and x ((2 ^ 64 - 1) - pairs z)) (bit_and y (pairs z))

    bit_masked : (p : ℕ) → p < 64 → bit masked p ≡ max (min (bit x p) (1 - bit (pairs z) p)) (min (bit y p) (bit (pairs z) p))
    bit_masked p h =
        bit-or (bit_and x ((2 ^ 64 - 1) - pairs z)) (bit_and y (pairs z)) p
        ∙ ap₂ max
        (bit-and x ((2 ^ 64 - 1) - pairs z) p ∙ ap (min (bit x p)) (bit_not 64 {x = pairs z} p (lower-lt z (λ q. 1)) h))
        (bit-and y (pairs z) p)

    masked-lt : masked < 2 ^ 64
    masked-lt =
        or_lt 64 (bit_and x ((2 ^ 64 - 1) - pairs z)) (bit_and y (pairs z))
        (omega (arith, and_le_l x ((2 ^ 64 - 1) - pairs z)))
        (omega (arith, and_le_l y (pairs z)))

    pub weave-masked : masked ≡ woven z (subword z x) (subword z y)
    weave-masked = ext 64 masked-lt (words-lt x y) (on-places (size-pos z N whole) _ at)
      where
        at : (J e t : ℕ) → e < 2 → t < z → place_at z J e t < 64 → bit masked (place_at z J e t) ≡ bit (woven_words x y) (place_at z J e t)
        at J zero t he ht l =
            bit_masked (place_at z J 0 t) l
            ∙ omega (arith, bit-lower z (λ p. 1) J t ht l, bit-lt y (place_at z J 0 t), woven-lower x y J t (in_pairs J 0 t l) ht)
        at J (suc zero) t he ht l =
            bit_masked (place_at z J 1 t) l
            ∙ omega (arith, bit-upper z (λ p. 1) J t ht l, bit-lt x (place_at z J 1 t), woven-upper x y J t (in_pairs J 1 t l) ht)
        at J (suc (suc e)) t he ht l = absurd (omega arith)
