-- The steps of the code as maps of places: marked bits exchanged with those above them, and the two subwords of every pair. Assumes nothing.
use mathlib.Core.Path.{◌≡◌}
use mathlib.Core.Logic.{◌⊎◌, inl, inr}
use mathlib.Core.Bool.{Bool, true, cond, ◌&&◌, ◌||◌}
use Prim.Native.Nat.{ℕ, ◌+◌, ◌-◌, ◌^◌, ◌<◌}
use native.Mathlib.Omega.{arith}
use native.Mathlib.Decide.{dec_lt}
use lib.Dec.{eqb, ltb}
use borrow.Author.Tests.{eq-eqb, ne_eqb, lt-ltb, le-ltb, eqb-true, ltb-true}
use Rattle.bits.specs.Bit.{bit}
use Rattle.bits.proofs.Computed.{every, every-at}
use Rattle.bits.proofs.Refusals.{both}
use Rattle.bits.proofs.Word.{bit-cases, bit-above}
use Rattle.network.specs.Stage.{partner}
use Rattle.network.specs.Word.{exchange_of}
use Rattle.network.proofs.MarkedBits.{exchanged-lt, at-marked, at_above, at_other}
use Rattle.subwords.specs.Subword.{exchange_pairs_of, is_size}
use Rattle.subwords.proofs.Theorems.{pairs-exchanged-lt, partner-lt, bit-pairs-exchanged}
use Rattle.tiles.proofs.Moves.{Sent}

-- where the bit at p comes from
abbrev pub swapped : ℕ → ℕ → ℕ → ℕ
swapped d s p = cond (eqb (bit s p) 1) (p + d) (cond (ltb p d) p (cond (eqb (bit s (p - d)) 1) (p - d) p))

-- no bit takes part twice, and none beyond the word
abbrev swaps_within : ℕ → ℕ → ℕ → Bool
swaps_within d s p = eqb (bit s p) 0 || (ltb (p + d) 64 && eqb (bit s (p + d)) 0)

abbrev pub swaps_once : ℕ → ℕ → Bool
swaps_once d s = every 64 (swaps_within d s)

module _ (d s : ℕ) (h : s < 2 ^ 64) (test : swaps_once d s ≡ true) where
  within : (p : ℕ) → p < 64 → bit s p ≡ 1 → (p + d < 64) × (bit s (p + d) ≡ 0)
  within p l e =
      let t : (eqb (bit s p) 0 || (ltb (p + d) 64 && eqb (bit s (p + d)) 0)) ≡ true = every-at 64 (swaps_within d s) test p l in
      let k = both (ltb (p + d) 64) (eqb (bit s (p + d)) 0) (rw (ne_eqb (bit s p) 0 (λ q. omega arith)) at t) in
      (ltb-true (p + d) 64 k.0, eqb-true (bit s (p + d)) 0 k.1)

  once : (p : ℕ) → bit s p ≡ 1 → bit s (p + d) ≡ 0
  once p e = by (dec_lt p 64)
    where
      by : Dec (p < 64) → bit s (p + d) ≡ 0
      by (yes l) = (within p l e).1
      by (no n) = absurd (omega (arith, bit-above {w = 64} p h (omega arith)))

  place_of : (x p : ℕ) → p < 64 → (swapped d s p < 64) × (bit (exchange_of d s x) p ≡ bit x (swapped d s p))
  place_of x p l = by (bit-cases s p) (dec_lt p d) (bit-cases s (p - d))
    where
      by : (bit s p ≡ 0) ⊎ (bit s p ≡ 1) → Dec (p < d) → (bit s (p - d) ≡ 0) ⊎ (bit s (p - d) ≡ 1)
          → (swapped d s p < 64) × (bit (exchange_of d s x) p ≡ bit x (swapped d s p))
      by (inr e) b c = rw (eq-eqb (bit s p) 1 e) ((within p l e).0, at-marked d s once x p l e)
      by (inl z) (yes b) c = rw (ne_eqb (bit s p) 1 (λ q. omega arith), lt-ltb p d b) (l, at_other d s once x p l z (λ k. absurd (omega arith)))
      by (inl z) (no b) (inl c) =
          rw (ne_eqb (bit s p) 1 (λ q. omega arith), le-ltb p d (omega arith), ne_eqb (bit s (p - d)) 1 (λ q. omega arith))
          (l, at_other d s once x p l z (λ k. c))
      by (inl z) (no b) (inr c) =
          rw (ne_eqb (bit s p) 1 (λ q. omega arith), le-ltb p d (omega arith), eq-eqb (bit s (p - d)) 1 c)
          (omega arith, at_above d s once x p l z (omega arith) c)

  pub sent-marked : {x : ℕ} → x < 2 ^ 64 → Sent (swapped d s) x (exchange_of d s x)
  sent-marked {x} hx =
      record { fits = exchanged-lt d s h hx; from-lt = λ q l. (place_of x q l).0; bits = λ q l. (place_of x q l).1 }

-- the two subwords of every pair exchanged
pub sent-pairs : (z : ℕ) → is_size z ≡ true → (x : ℕ) → Sent (partner z) x (exchange_pairs_of z x)
sent-pairs z h x = record { fits = pairs-exchanged-lt z h x; from-lt = partner-lt z h; bits = bit-pairs-exchanged z h x }
