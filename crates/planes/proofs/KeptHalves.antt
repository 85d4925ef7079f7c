-- A step by shifts and masks, over half the width h of a field: the halves of two words by turns. Assumes nothing.
use mathlib.Core.Path.{◌≡◌, refl, sym, ◌∙◌, ap}
use mathlib.Core.Bool.{true, cond}
use Prim.Native.Nat.{ℕ, zero, suc, ◌+◌, ◌*◌, ◌/◌, ◌%◌, ◌^◌, ◌<◌}
use native.Mathlib.Omega.{arith}
use native.Mathlib.Nat.{mod-lt}
use lib.Arith.{digits_div, digits_mod, digits_lt}
use lib.Bits.{bit_and, bit_or, and_le_r, or_lt}
use lib.Dec.{eqb}
use lib.Pow.{pow_pos}
use borrow.Author.Tests.{eqb-true}
use Rattle.bits.specs.Bit.{bit, of_bits}
use Rattle.bits.proofs.Word.{bit-lt, bit-and, bit-or, bit-mod, bit-mod-two, bit-shr, bit-shl-below, bit-shl-from, bit-of_bits, of_bits-lt, ext}
use Rattle.bits.proofs.Computed.{every, every-at}
use Rattle.network.specs.Word.{at_lower, pairs, spread_of}
use Rattle.network.proofs.Index.{place_at, on-places, half_of, block-lt}
use Rattle.network.proofs.PairsExchanged.{lower-lt, bit-lower, bit-upper, bit-spread, bit-spread-upper, spread-lt}
use Rattle.planes.specs.Steps.{kept_place, keep_halves, merge_halves}
use Rattle.planes.specs.Rounds.{kept_halves, by_turns}

-- the low halves of all fields, as a quotient: one computed test of the six widths
low-halves-are : every 6 (λ e. eqb (0xFFFFFFFFFFFFFFFF / (2 ^ 2 ^ e + 1)) (pairs (2 ^ e))) ≡ true
unfolding every at_lower of_bits
low-halves-are = refl

pub low_halves : (e : ℕ) → e < 6 → 0xFFFFFFFFFFFFFFFF / (2 ^ 2 ^ e + 1) ≡ pairs (2 ^ e)
low_halves e h = eqb-true _ _ (every-at 6 (λ e. eqb (0xFFFFFFFFFFFFFFFF / (2 ^ 2 ^ e + 1)) (pairs (2 ^ e))) low-halves-are e h)

bit_kept : (w half x j : ℕ) → j < 32 → bit (kept_halves w half x) j ≡ bit x (kept_place w half j)
unfolding kept_halves
bit_kept w half x j l = bit-of_bits 32 (λ i. bit x (kept_place w half i)) j l ∙ bit-mod-two x (kept_place w half j)

kept-lt : (w half x : ℕ) → kept_halves w half x < 2 ^ 32
unfolding kept_halves
kept-lt w half x = of_bits-lt 32 (λ i. bit x (kept_place w half i))

pub turns-lt : (h x y : ℕ) → by_turns h x y < 2 ^ 64
unfolding by_turns
turns-lt h x y = of_bits-lt 64 (λ p. bit (cond (eqb (p / h % 2) 0) x y) (p / h / 2 * h + p % h))

merged-lt : (w half x y : ℕ) → merge_halves w half x y < 2 ^ 64
unfolding merge_halves
merged-lt w half x y = let h = w / 2 in of_bits-lt 64 (λ i. bit (cond (eqb (i / h % 2) 0) x y) (half * 32 + (i / w * h + i % h)))

-- a place by its block, its half and its offset
pub bit-turns : (h x y J e t : ℕ) → e < 2 → t < h → place_at h J e t < 64 → bit (by_turns h x y) (place_at h J e t) ≡ bit (cond (eqb e 0) x y) (J * h + t)
unfolding by_turns
bit-turns h x y J e t he ht l =
    let p = place_at h J e t in
    let n = half_of h J e t he ht in
    let s : place_at h J e t / h % 2 ≡ e = omega (arith, n) in
    let b : place_at h J e t / h / 2 ≡ J = omega (arith, n) in
    bit-of_bits 64 (λ p. bit (cond (eqb (p / h % 2) 0) x y) (p / h / 2 * h + p % h)) p l
    ∙ bit-mod-two (cond (eqb (p / h % 2) 0) x y) (p / h / 2 * h + p % h)
    ∙ rw (s, b, digits_mod (J * 2 + e) ht)

-- k fields fill a word
module _ (h k : ℕ) (pos : 0 < h) (fill : k * (2 * h) ≡ 64) where
  below-32 : (J e t : ℕ) → t < h → place_at h J e t < 64 → J * h + t < 32
  below-32 J e t ht l =
      let j : J < k = block-lt h J e t k (omega (arith, fill)) in
      let n : k * h ≡ 32 = omega (arith, fill) in
      omega (arith, digits_lt j ht)

  kept_at : (J t : ℕ) → t < h → kept_place (2 * h) 0 (J * h + t) ≡ place_at h J 0 t
  kept_at J t ht =
      let w : 2 * h / 2 ≡ h = omega arith in
      rw (w, digits_div J ht, digits_mod J ht) (omega arith)

  bit-low : (x J e t : ℕ) → t < h → place_at h J e t < 64 → bit (kept_halves (2 * h) 0 x) (J * h + t) ≡ bit x (place_at h J 0 t)
  bit-low x J e t ht l = bit_kept (2 * h) 0 x (J * h + t) (below-32 J e t ht l) ∙ ap (bit x) (kept_at J t ht)

  module _ (x y : ℕ) where
    abbrev lows : ℕ
    lows = bit_and y (pairs h)

    low_bit : (z J t : ℕ) → t < h → place_at h J 0 t < 64 → bit (bit_and z (pairs h)) (place_at h J 0 t) ≡ bit z (place_at h J 0 t)
    low_bit z J t ht l = bit-and z (pairs h) (place_at h J 0 t) ∙ omega (arith, bit-lower h (λ p. 1) J t ht l, bit-lt z (place_at h J 0 t))

    high_bit : (z J t : ℕ) → t < h → place_at h J 1 t < 64 → bit (bit_and z (pairs h)) (place_at h J 1 t) ≡ 0
    high_bit z J t ht l = bit-and z (pairs h) (place_at h J 1 t) ∙ omega (arith, bit-upper h (λ p. 1) J t ht l)

    raised-low : (J t : ℕ) → t < h → place_at h J 0 t < 64 → bit (lows * 2 ^ h % 2 ^ 64) (place_at h J 0 t) ≡ 0
    raised-low zero t ht l = bit-shl-below lows h (place_at h 0 0 t) l (omega arith)
    raised-low (suc J) t ht l =
        let q : h + place_at h J 1 t ≡ place_at h (suc J) 0 t = omega arith in
        bit-shl-from lows h (place_at h (suc J) 0 t) (place_at h J 1 t) l q ∙ high_bit y J t ht (omega (arith, q))

    raised-high : (J t : ℕ) → t < h → place_at h J 1 t < 64 → bit (lows * 2 ^ h % 2 ^ 64) (place_at h J 1 t) ≡ bit y (place_at h J 0 t)
    raised-high J t ht l =
        let q : h + place_at h J 0 t ≡ place_at h J 1 t = omega arith in
        bit-shl-from lows h (place_at h J 1 t) (place_at h J 0 t) l q ∙ low_bit y J t ht (omega (arith, q))

    -- the low halves of all fields of two words, by turns
    pub turns-word : bit_or (bit_and x (pairs h)) (lows * 2 ^ h % 2 ^ 64) ≡ by_turns h (kept_halves (2 * h) 0 x) (kept_halves (2 * h) 0 y)
    turns-word =
        ext 64 (or_lt 64 a b (omega (arith, and_le_r x (pairs h), lower-lt h (λ p. 1))) (mod-lt (lows * 2 ^ h) (pow_pos 64))) (turns-lt h kx ky)
        (on-places pos _ at)
      where
        a : ℕ
        a = bit_and x (pairs h)

        b : ℕ
        b = lows * 2 ^ h % 2 ^ 64

        kx : ℕ
        kx = kept_halves (2 * h) 0 x

        ky : ℕ
        ky = kept_halves (2 * h) 0 y

        at : (J e t : ℕ) → e < 2 → t < h → place_at h J e t < 64 → bit (bit_or a b) (place_at h J e t) ≡ bit (by_turns h kx ky) (place_at h J e t)
        at J zero t he ht l =
            bit-or a b (place_at h J 0 t)
            ∙ omega (arith, low_bit x J t ht l, raised-low J t ht l, bit-turns h kx ky J 0 t he ht l, bit-low x J 0 t ht l)
        at J (suc zero) t he ht l =
            bit-or a b (place_at h J 1 t)
            ∙ omega (arith, high_bit x J t ht l, raised-high J t ht l, bit-turns h kx ky J 1 t he ht l, bit-low y J 1 t ht l)
        at J (suc (suc e)) t he ht l = absurd (omega arith)

  -- the same half of two words, taken apart, by turns

  bit-half : (half x J e t : ℕ) → t < h → place_at h J e t < 64 → bit (x / 2 ^ (half * 32) % 2 ^ 32) (J * h + t) ≡ bit x (half * 32 + (J * h + t))
  bit-half half x J e t ht l = bit-mod (x / 2 ^ (half * 32)) 32 (J * h + t) (below-32 J e t ht l) ∙ bit-shr x (half * 32) (J * h + t)

  bit-merged : (half x y J e t : ℕ) → e < 2 → t < h → place_at h J e t < 64
      → bit (merge_halves (2 * h) half x y) (place_at h J e t) ≡ bit (cond (eqb e 0) x y) (half * 32 + (J * h + t))
  unfolding merge_halves
  bit-merged half x y J e t he ht l =
      let p = place_at h J e t in
      let w : 2 * h / 2 ≡ h = omega arith in
      let s : place_at h J e t / h % 2 ≡ e = omega (arith, half_of h J e t he ht) in
      let v : place_at h J e t ≡ J * (2 * h) + (e * h + t) = omega arith in
      let d : place_at h J e t / (2 * h) ≡ J = ap (λ (n : ℕ). n / (2 * h)) v ∙ digits_div J (digits_lt he ht) in
      bit-of_bits 64 (λ i. bit (cond (eqb (i / (2 * h / 2) % 2) 0) x y) (half * 32 + (i / (2 * h) * (2 * h / 2) + i % (2 * h / 2)))) p l
      ∙ bit-mod-two (cond (eqb (p / (2 * h / 2) % 2) 0) x y) (half * 32 + (p / (2 * h) * (2 * h / 2) + p % (2 * h / 2)))
      ∙ rw (w, s, d, digits_mod (J * 2 + e) ht)

  raised-spread : (c J e t : ℕ) → e < 2 → t < h → place_at h J e t < 64 → bit (spread_of h c * 2 ^ h % 2 ^ 64) (place_at h J e t) ≡ cond (eqb e 0) 0 (bit c (J * h + t))
  raised-spread c zero zero t he ht l = bit-shl-below (spread_of h c) h (place_at h 0 0 t) l (omega arith)
  raised-spread c (suc J) zero t he ht l =
      let q : h + place_at h J 1 t ≡ place_at h (suc J) 0 t = omega arith in
      bit-shl-from (spread_of h c) h (place_at h (suc J) 0 t) (place_at h J 1 t) l q ∙ bit-spread-upper h c J t ht (omega (arith, q))
  raised-spread c J (suc zero) t he ht l =
      let q : h + place_at h J 0 t ≡ place_at h J 1 t = omega arith in
      bit-shl-from (spread_of h c) h (place_at h J 1 t) (place_at h J 0 t) l q ∙ bit-spread h c J t ht (omega (arith, q))
  raised-spread c J (suc (suc e)) t he ht l = absurd (omega arith)

  pub merge-word : (half x y : ℕ)
      → bit_or (spread_of h (x / 2 ^ (half * 32) % 2 ^ 32)) (spread_of h (y / 2 ^ (half * 32) % 2 ^ 32) * 2 ^ h % 2 ^ 64) ≡ merge_halves (2 * h) half x y
  merge-word half x y = ext 64 (or_lt 64 a b (spread-lt h cx) (mod-lt (spread_of h cy * 2 ^ h) (pow_pos 64))) (merged-lt (2 * h) half x y) (on-places pos _ at)
    where
      cx : ℕ
      cx = x / 2 ^ (half * 32) % 2 ^ 32

      cy : ℕ
      cy = y / 2 ^ (half * 32) % 2 ^ 32

      a : ℕ
      a = spread_of h cx

      b : ℕ
      b = spread_of h cy * 2 ^ h % 2 ^ 64

      at : (J e t : ℕ) → e < 2 → t < h → place_at h J e t < 64 → bit (bit_or a b) (place_at h J e t) ≡ bit (merge_halves (2 * h) half x y) (place_at h J e t)
      at J zero t he ht l =
          bit-or a b (place_at h J 0 t)
          ∙ omega (arith, bit-spread h cx J t ht l, raised-spread cy J 0 t he ht l, bit-half half x J 0 t ht l, bit-merged half x y J 0 t he ht l)
      at J (suc zero) t he ht l =
          bit-or a b (place_at h J 1 t)
          ∙ omega (arith, bit-spread-upper h cx J t ht l, raised-spread cy J 1 t he ht l, bit-half half y J 1 t ht l, bit-merged half x y J 1 t he ht l)
      at J (suc (suc e)) t he ht l = absurd (omega arith)

-- where packing begins and ends

pub kept-shifted : (h half x : ℕ) → kept_halves (2 * h) 0 (x / 2 ^ (half * h)) ≡ kept_halves (2 * h) half x
kept-shifted h half x =
    ext 32 (kept-lt (2 * h) 0 (x / 2 ^ (half * h))) (kept-lt (2 * h) half x)
    (λ j l.
    let w : 2 * h / 2 ≡ h = omega arith in
    let q : half * h + kept_place (2 * h) 0 j ≡ kept_place (2 * h) half j = rw w (omega arith) in
    bit_kept (2 * h) 0 (x / 2 ^ (half * h)) j l ∙ bit-shr x (half * h) (kept_place (2 * h) 0 j) ∙ ap (bit x) q ∙ sym (bit_kept (2 * h) half x j l))

pub keep-end : (w half x y : ℕ) → by_turns 32 (kept_halves w half x) (kept_halves w half y) ≡ keep_halves w half x y
unfolding keep_halves
keep-end w half x y = ext 64 (turns-lt 32 (kept_halves w half x) (kept_halves w half y)) (of_bits-lt 64 f) (on-places {d = 32} (omega arith) _ at)
  where
    f : ℕ → ℕ
    f j = bit (cond (eqb (j / 32) 0) x y) (kept_place w half (j % 32))

    by_side : (e t : ℕ) → e < 2 → t < 32 → bit (cond (eqb e 0) (kept_halves w half x) (kept_halves w half y)) t ≡ bit (cond (eqb e 0) x y) (kept_place w half t)
    by_side zero t he l = bit_kept w half x t l
    by_side (suc zero) t he l = bit_kept w half y t l
    by_side (suc (suc e)) t he l = absurd (omega arith)

    at : (J e t : ℕ) → e < 2 → t < 32 → place_at 32 J e t < 64 → bit (by_turns 32 (kept_halves w half x) (kept_halves w half y)) (place_at 32 J e t) ≡ bit (of_bits 64 f) (place_at 32 J e t)
    at J e t he ht l =
        let p = place_at 32 J e t in
        let j : J * 32 + t ≡ t = omega arith in
        let d : place_at 32 J e t / 32 ≡ e = omega arith in
        let m : place_at 32 J e t % 32 ≡ t = omega arith in
        bit-turns 32 (kept_halves w half x) (kept_halves w half y) J e t he ht l
        ∙ ap (bit (cond (eqb e 0) (kept_halves w half x) (kept_halves w half y))) j
        ∙ by_side e t he ht
        ∙ sym (bit-of_bits 64 f p l ∙ bit-mod-two (cond (eqb (p / 32) 0) x y) _ ∙ rw (d, m))
