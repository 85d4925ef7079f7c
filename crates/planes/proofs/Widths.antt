-- The widths of fields as powers of two: where the turns of a step begin, what one turn does, and where they end. Assumes nothing.
use mathlib.Core.Path.{◌≡◌, refl, sym, ◌∙◌, ap}
use mathlib.Core.Logic.{◌⊎◌, inl, inr}
use mathlib.Core.Bool.{Bool, true, false, ◌||◌, true≢false}
use Prim.Native.Nat.{ℕ, zero, suc, ◌+◌, ◌-◌, ◌*◌, ◌/◌, ◌%◌, ◌^◌, ◌<◌, ◌≤◌}
use native.Mathlib.Omega.{arith}
use native.Mathlib.Decide.{dec_lt}
use native.Mathlib.Nat.{pow-suc, mod-lt, mod-eq_of_lt, one-mul}
use lib.Bits.{bit_and, bit_or, and_mask}
use lib.Count.{count_trailing_zeros}
use lib.Dec.{eqb}
use lib.Pow.{pow-add, pow_mono, pow_pos}
use borrow.Author.Tests.{eqb-true}
use Rattle.bits.specs.Bit.{of_bits}
use Rattle.bits.proofs.Computed.{every, every-at}
use Rattle.network.specs.Word.{at_lower, pairs, spread_of}
use Rattle.network.proofs.PairsExchanged.{spread_none, spread-step}
use Rattle.planes.specs.Steps.{merge_halves}
use Rattle.planes.specs.Rounds.{is_power, is_half, kept_halves, by_turns, crossed_of}
use Rattle.planes.proofs.KeptHalves.{low_halves, turns-word, merge-word}
use Rattle.planes.proofs.Crossing.{turns-wider}

-- half a field's width, where fields fill a word
abbrev pub IsHalf : ℕ → Type 0
IsHalf h = (e : ℕ) × ((e < 6) × (h ≡ 2 ^ e))

power : (n h : ℕ) → is_power n h ≡ true → (e : ℕ) × ((e < n) × (h ≡ 2 ^ e))
power zero h t = absurd (true≢false (sym t))
power (suc n) h t = by (eqb h (2 ^ n)) refl t (power n h)
  where
    by : (b : Bool) → eqb h (2 ^ n) ≡ b → (b || is_power n h) ≡ true → (is_power n h ≡ true → (e : ℕ) × ((e < n) × (h ≡ 2 ^ e))) → (e : ℕ) × ((e < suc n) × (h ≡ 2 ^ e))
    by true q t rest = (n, (omega arith, eqb-true h (2 ^ n) q))
    by false q t rest = let r = rest t in let l : r.0 < suc n = omega (arith, r.1.0) in (r.0, (l, r.1.1))

pub half-power : (h : ℕ) → is_half h ≡ true → IsHalf h
half-power h t = power 6 h t

fills : (e : ℕ) → e < 6 → 2 ^ (5 - e) * (2 * 2 ^ e) ≡ 64
fills e h =
    let s : 5 - e + e ≡ 5 = omega arith in
    let p : 2 ^ (5 - e) * 2 ^ e ≡ 32 = sym (pow-add 2 (5 - e) e) ∙ ap (λ (n : ℕ). 2 ^ n) s in
    omega (arith, p)

-- packing goes up to halves of 32 bits
wider-half : (h : ℕ) → IsHalf h → h < 32 → IsHalf (2 * h)
wider-half h is l = by-power is.0 is.1.1 (dec_lt is.0 5)
  where
    by-power : (e : ℕ) → h ≡ 2 ^ e → Dec (e < 5) → IsHalf (2 * h)
    by-power e p (yes a) =
        let n : suc e < 6 = omega arith in
        let q : 2 * h ≡ 2 ^ suc e = omega (arith, p, pow-suc 2 e) in
        (suc e, (n, q))
    by-power e p (no a) = let b : 5 ≤ e = omega arith in absurd (omega (arith, p, pow_mono b))

pub half_pos : (h : ℕ) → IsHalf h → 0 < h
half_pos h is = omega (arith, is.1.1, pow_pos is.0)

pub half_le : (h : ℕ) → IsHalf h → h ≤ 32
half_le h is = let l : is.0 ≤ 5 = omega (arith, is.1.0) in omega (arith, is.1.1, pow_mono l)

-- the low halves of all fields, as the code divides
module _ (h : ℕ) (is : IsHalf h) where
  one_shifted : 1 * 2 ^ h % 2 ^ 64 ≡ 2 ^ h
  one_shifted = rw one-mul (mod-eq_of_lt (omega (arith, pow_mono (half_le h is))))

  pub divided : 0xFFFFFFFFFFFFFFFF / (1 * 2 ^ h % 2 ^ 64 + 1) ≡ pairs h
  divided = rw (one_shifted, is.1.1) (low_halves is.0 is.1.0)

half-fills : (h : ℕ) (is : IsHalf h) → 2 ^ (5 - is.0) * (2 * h) ≡ 64
half-fills h is = rw is.1.1 (fills is.0 is.1.0)

-- the low halves of two words
pub turns-of : (h : ℕ) → IsHalf h → (x y : ℕ) → bit_or (bit_and x (pairs h)) (bit_and y (pairs h) * 2 ^ h % 2 ^ 64) ≡ by_turns h (kept_halves (2 * h) 0 x) (kept_halves (2 * h) 0 y)
turns-of h is x y = turns-word h (2 ^ (5 - is.0)) (half_pos h is) (half-fills h is) x y

-- a turn of packing
pub cross-up : (h : ℕ) → IsHalf h → h < 32 → (x y : ℕ) → crossed_of h (by_turns h x y) ≡ by_turns (2 * h) x y
cross-up h is l x y = let wide = wider-half h is l in turns-wider h (2 ^ (5 - wide.0)) (half_pos h is) (half-fills (2 * h) wide) x y

-- the widths of steps

narrow : (h : ℕ) → is_half h ≡ true → h ≤ 4 → (h ≡ 1) ⊎ ((h ≡ 2) ⊎ (h ≡ 4))
narrow h t l = by-power (half-power h t).0 (half-power h t).1.1
  where
    by-power : (e : ℕ) → h ≡ 2 ^ e → (h ≡ 1) ⊎ ((h ≡ 2) ⊎ (h ≡ 4))
    by-power zero p = inl p
    by-power (suc zero) p = inr (inl p)
    by-power (suc (suc zero)) p = inr (inr p)
    by-power (suc (suc (suc e))) p = let m : 3 ≤ suc (suc (suc e)) = omega arith in absurd (omega (arith, p, pow_mono m))

pub mirrored-is : (h : ℕ) → is_half h ≡ true → h ≤ 4 → (is_half (4 / h) ≡ true) × (4 / h ≤ 4) × (2 * (4 / h) ≡ 16 / (2 * h))
mirrored-is h t l = by (narrow h t l)
  where
    by : (h ≡ 1) ⊎ ((h ≡ 2) ⊎ (h ≡ 4)) → (is_half (4 / h) ≡ true) × (4 / h ≤ 4) × (2 * (4 / h) ≡ 16 / (2 * h))
    by (inl e) = rw e (refl, omega arith, refl)
    by (inr (inl e)) = rw e (refl, omega arith, refl)
    by (inr (inr e)) = rw e (refl, omega arith, refl)

-- a merging step
pub merged-word : (h : ℕ) → IsHalf h → (half x y : ℕ)
    → bit_or (spread_of h (x / 2 ^ (half * 32) % 2 ^ 32)) (spread_of h (y / 2 ^ (half * 32) % 2 ^ 32) * 2 ^ h % 2 ^ 64) ≡ merge_halves (2 * h) half x y
merged-word h is half x y = merge-word h (2 ^ (5 - is.0)) (half_pos h is) (half-fills h is) half x y

-- merging goes by exponents, from 5 down to that of the width

powers-half : every 6 (λ e. is_half (1 * 2 ^ e % 2 ^ 64)) ≡ true
unfolding every
powers-half = refl

pub power-half : (e : ℕ) → e < 6 → is_half (1 * 2 ^ e % 2 ^ 64) ≡ true
power-half e l = every-at 6 (λ e. is_half (1 * 2 ^ e % 2 ^ 64)) powers-half e l

-- with them the amounts shifted by are below the number of bits
pub power-le : (e : ℕ) → e < 6 → 1 * 2 ^ e % 2 ^ 64 ≤ 32
power-le e l = half_le _ (half-power _ (power-half e l))

pub exponent-of : (h : ℕ) → is_half h ≡ true → h ≤ 4 → (count_trailing_zeros 64 h ≤ 5) × (2 ^ count_trailing_zeros 64 h ≡ h)
unfolding count_trailing_zeros
exponent-of h t l = by (narrow h t l)
  where
    by : (h ≡ 1) ⊎ ((h ≡ 2) ⊎ (h ≡ 4)) → (count_trailing_zeros 64 h ≤ 5) × (2 ^ count_trailing_zeros 64 h ≡ h)
    by (inl e) = rw e (omega arith, refl)
    by (inr (inl e)) = rw e (omega arith, refl)
    by (inr (inr e)) = rw e (omega arith, refl)

-- where merging begins, and a turn of it

pairs-32 : pairs 32 ≡ 2 ^ 32 - 1
unfolding at_lower of_bits
pairs-32 = refl

pub apart-start : (x k : ℕ) → bit_and (x / 2 ^ k) (pairs 32) ≡ spread_of 32 (x / 2 ^ k % 2 ^ 32)
apart-start x k =
    ap (bit_and (x / 2 ^ k)) pairs-32
    ∙ and_mask (x / 2 ^ k) 32
    ∙ sym (spread_none {d = 32} (omega arith) (omega arith) (mod-lt (x / 2 ^ k) (pow_pos 32)))

pub apart-turn : (e c : ℕ) {bits : ℕ} → 0 < e → e ≤ 5 → bits ≡ spread_of (2 ^ e) c → let h = 1 * 2 ^ (e - 1) % 2 ^ 64 in
    bit_and (bit_or bits (bits * 2 ^ h % 2 ^ 64)) (pairs h) ≡ spread_of (2 ^ (e - 1)) c
apart-turn zero c l n e = absurd (omega (arith, l))
apart-turn (suc d) c l n e =
    let q : suc d - 1 ≡ d = omega arith in
    let r : 1 * 2 ^ d % 2 ^ 64 ≡ 2 ^ d = rw one-mul (mod-eq_of_lt (omega (arith, pow_mono {i = d} {j = 4} (omega arith)))) in
    let even : 2 ^ suc d ≡ 2 * 2 ^ d = omega (arith, pow-suc 2 d) in
    rw (e ∙ ap (λ (h : ℕ). spread_of h c) even, q, r) (spread-step (2 ^ d) c (pow_pos d))
