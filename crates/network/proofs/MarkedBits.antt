-- Marked bits exchanged with those at a distance above them, all at once: what each place then has. Assumes nothing.
use mathlib.Core.Path.{◌≡◌, ◌∙◌, ap}
use mathlib.Core.Logic.{◌⊎◌, inl, inr}
use Prim.Native.Nat.{ℕ, ◌+◌, ◌-◌, ◌*◌, ◌/◌, ◌%◌, ◌^◌, ◌<◌, ◌≤◌, min}
use native.Mathlib.Omega.{arith}
use native.Mathlib.Decide.{dec_lt}
use native.Mathlib.Nat.{mod-lt}
use lib.Bits.{bit_and, bit_xor, xor_lt, and_le_r}
use lib.Pow.{pow_pos}
use Rattle.bits.specs.Bit.{bit}
use Rattle.bits.proofs.Word.{bit-lt, bit-cases, bit-and, bit-xor, bit-shr, bit-shl-below, bit-shl-from}
use Rattle.network.specs.Word.{exchange_of}

module _ (d s : ℕ) where
  abbrev differ : ℕ → ℕ
  differ x = bit_and (bit_xor x (x / 2 ^ d)) s

  pub exchanged-lt : s < 2 ^ 64 → {x : ℕ} → x < 2 ^ 64 → exchange_of d s x < 2 ^ 64
  unfolding exchange_of
  exchanged-lt hs {x} h =
      xor_lt 64 (bit_xor x (differ x)) (differ x * 2 ^ d % 2 ^ 64)
      (xor_lt 64 x (differ x) h (omega (arith, and_le_r (bit_xor x (x / 2 ^ d)) s)))
      (mod-lt (differ x * 2 ^ d) (pow_pos 64))

  -- no bit takes part twice
  module _ (once : (p : ℕ) → bit s p ≡ 1 → bit s (p + d) ≡ 0) (x : ℕ) where
    bit-differ : (p : ℕ) → bit (differ x) p ≡ min ((bit x p + bit x (d + p)) % 2) (bit s p)
    bit-differ p = bit-and (bit_xor x (x / 2 ^ d)) s p ∙ omega (arith, bit-xor x (x / 2 ^ d) p, bit-shr x d p)

    bit-exchanged : (p : ℕ) → bit (exchange_of d s x) p ≡ (bit x p + bit (differ x) p + bit (differ x * 2 ^ d % 2 ^ 64) p) % 2
    unfolding exchange_of
    bit-exchanged p = bit-xor (bit_xor x (differ x)) (differ x * 2 ^ d % 2 ^ 64) p ∙ omega (arith, bit-xor x (differ x) p)

    -- differences moved up: none from below the word, and none from a place that is not marked
    none-up : (p : ℕ) → p < 64 → (d ≤ p → bit s (p - d) ≡ 0) → bit (differ x * 2 ^ d % 2 ^ 64) p ≡ 0
    none-up p l none = by (dec_lt p d)
      where
        by : Dec (p < d) → bit (differ x * 2 ^ d % 2 ^ 64) p ≡ 0
        by (yes k) = bit-shl-below (differ x) d p l k
        by (no k) = bit-shl-from (differ x) d p (p - d) l (omega arith) ∙ bit-differ (p - d) ∙ omega (arith, none (omega arith))

    not-below : (p : ℕ) → bit s p ≡ 1 → d ≤ p → bit s (p - d) ≡ 0
    not-below p e k = by (bit-cases s (p - d))
      where
        by : (bit s (p - d) ≡ 0) ⊎ (bit s (p - d) ≡ 1) → bit s (p - d) ≡ 0
        by (inl z) = z
        by (inr o) = let q : p - d + d ≡ p = omega arith in absurd (omega (arith, once (p - d) o, ap (bit s) q))

    -- a marked place, the place above a marked one, and any other

    pub at-marked : (p : ℕ) → p < 64 → bit s p ≡ 1 → bit (exchange_of d s x) p ≡ bit x (p + d)
    at-marked p l e =
        let q : d + p ≡ p + d = omega arith in
        bit-exchanged p ∙ omega (arith, bit-differ p, none-up p l (not-below p e), bit-lt x p, bit-lt x (d + p), ap (bit x) q)

    pub at_above : (p : ℕ) → p < 64 → bit s p ≡ 0 → d ≤ p → bit s (p - d) ≡ 1 → bit (exchange_of d s x) p ≡ bit x (p - d)
    at_above p l z k e =
        let q : d + (p - d) ≡ p = omega arith in
        bit-exchanged p
        ∙ omega (
          arith,
          bit-differ p,
          bit-shl-from (differ x) d {w = 64} p (p - d) l q,
          bit-differ (p - d),
          bit-lt x p,
          bit-lt x (p - d),
          ap (bit x) q,
        )

    pub at_other : (p : ℕ) → p < 64 → bit s p ≡ 0 → (d ≤ p → bit s (p - d) ≡ 0) → bit (exchange_of d s x) p ≡ bit x p
    at_other p l z none = bit-exchanged p ∙ omega (arith, bit-differ p, none-up p l none, bit-lt x p)
