-- One level of counting, over the size of the parts: from the counts of parts of s bits to those of twice as many, and the gaps of lower halves. And the
-- counts of eight bytes added up. Assumes nothing.
use mathlib.Core.Path.{◌≡◌, sym, ◌∙◌, ap}
use Prim.Native.Nat.{ℕ, ◌+◌, ◌-◌, ◌*◌, ◌/◌, ◌%◌, ◌^◌, ◌<◌, ◌≤◌}
use native.Mathlib.Omega.{arith}
use native.Mathlib.Nat.{mul-div_cancel}
use lib.Bits.{bit_and, and_mask}
use lib.Pow.{pow_pos, pow-add, low, ones_lt, pow_mono}
use lib.Arith.{digits_lt}
use Rattle.bits.specs.Bit.{rank}
use Rattle.bits.proofs.Rank.{rank-le, rank-add}
use Rattle.bits.proofs.Word.{bit-zero, below-pow}
use Rattle.gather.specs.Parts.{in_parts, counts_of, gaps_of}
use Rattle.gather.proofs.Parts.{every_part, parts-ext, parts-every, parts_add, parts-mul, parts-and, parts-pairs, parts_first}

-- the counts of lower halves alone
abbrev pub lower_of : ℕ → ℕ → ℕ → ℕ
lower_of s n m = in_parts (s + s) n (λ m x. rank m s) m 0

module _ (s n m : ℕ) where
  -- a part of the counts is the count of its upper half above that of its lower half
  counts-pairs : counts_of s (n + n) m ≡ in_parts (s + s) n (λ m x. rank (m / 2 ^ s) s) m 0 * 2 ^ s + lower_of s n m
  counts-pairs =
      parts-pairs s (λ m x. rank m s) n m 0
      ∙ sym (parts_add (s + s) (λ m x. rank (m / 2 ^ s) s * 2 ^ s) (λ m x. rank m s) n m 0)
      ∙ ap (λ (a : ℕ). a + lower_of s n m) (sym (parts-mul (s + s) (λ m x. rank (m / 2 ^ s) s) (2 ^ s) n m 0))

  pub lower-counts : bit_and (counts_of s (n + n) m) (every_part (s + s) n (2 ^ s - 1)) ≡ lower_of s n m
  lower-counts =
      let small : (m : ℕ) → rank m s < 2 ^ s = λ m. omega (arith, rank-le m s, below-pow s) in
      let pair : (m x : ℕ) → rank (m / 2 ^ s) s * 2 ^ s + rank m s < 2 ^ (s + s) =
      λ m x. rw (pow-add 2 s s) (digits_lt (small (m / 2 ^ s)) (small m))
      in
      let ones : (m x : ℕ) → 2 ^ s - 1 < 2 ^ (s + s) = λ m x. omega (arith, ones_lt s, pow_mono {i = s} {j = s + s} (omega arith)) in
      rw (parts-pairs s (λ m x. rank m s) n m 0, ← (parts-every (s + s) (2 ^ s - 1) n m 0), parts-and (s + s) pair ones n m 0)
      (parts-ext (s + s) (λ m x. and_mask (rank (m / 2 ^ s) s * 2 ^ s + rank m s) s ∙ low (rank (m / 2 ^ s) s) s (small m)) n m 0)

  -- the code's sum
  pub summed-counts : lower_of s n m + (counts_of s (n + n) m - lower_of s n m) / 2 ^ s ≡ counts_of (s + s) n m
  summed-counts =
      let h = in_parts (s + s) n (λ m x. rank (m / 2 ^ s) s) m 0 in
      let e : counts_of s (n + n) m - lower_of s n m ≡ h * 2 ^ s = omega (arith, counts-pairs) in
      rw (e, mul-div_cancel h (pow_pos s))
      (parts_add (s + s) (λ m x. rank m s) (λ m x. rank (m / 2 ^ s) s) n m 0 ∙ parts-ext (s + s) (λ m x. sym (rank-add s m s)) n m 0)

  -- the gaps and the counts of lower halves together are s in every part
  pub gaps-lower : gaps_of s n m + lower_of s n m ≡ every_part (s + s) n s
  gaps-lower =
      parts_add (s + s) (λ m x. s - rank m s) (λ m x. rank m s) n m 0
      ∙ parts-ext (s + s) (λ m x. omega (arith, rank-le m s)) n m 0
      ∙ parts-every (s + s) s n m 0

  -- the same of the code's values: c the counts, l those of lower halves, h a constant

  pub lower_by : {c h : ℕ} → c ≡ counts_of s (n + n) m → h ≡ every_part (s + s) n (2 ^ s - 1) → bit_and c h ≡ lower_of s n m
  lower_by e f = rw (e, f) lower-counts

  pub sum_by : {c l r : ℕ} → c ≡ counts_of s (n + n) m → l ≡ lower_of s n m → r ≡ l + (c - l) / 2 ^ s → r ≡ counts_of (s + s) n m
  sum_by e f g = rw (g, e, f) summed-counts

  pub gaps-by : {l h : ℕ} → h ≡ every_part (s + s) n s → l ≡ lower_of s n m → (l ≤ h) × (h - l ≡ gaps_of s n m)
  gaps-by e f = (omega (arith, e, f, gaps-lower), omega (arith, e, f, gaps-lower))

-- a mask is the counts of its bits
pub counts_bits : (n : ℕ) {m : ℕ} → m < 2 ^ (1 * n) → counts_of 1 n m ≡ m
unfolding rank
counts_bits n {m} h = parts-ext 1 (λ m x. omega (arith, bit-zero m)) n m 0 ∙ parts_first 1 n h 0

-- The counts of eight bytes added up, as the code does it: digits to the base 256, so small that no sum of them carries.

-- byte 3 of the product is the sum of four
four-digits : {a b c d : ℕ} → a ≤ 16 → b ≤ 16 → c ≤ 16 → d ≤ 16
    → (((d * 256 + c) * 256 + b) * 256 + a) * 0x01010101 / 2 ^ 24 % 256 ≡ a + b + c + d
four-digits {a} {b} {c} {d} ha hb hc hd =
    let e : (((d * 256 + c) * 256 + b) * 256 + a) * 0x01010101 / 2 ^ 24 ≡ ((d * 256 + (c + d)) * 256 + (b + c + d)) * 256 + (a + b + c + d) = omega arith in
    rw e (omega arith)

-- the upper four on the lower four, then these
eight-digits : {a b c d e f g h : ℕ} → a ≤ 8 → b ≤ 8 → c ≤ 8 → d ≤ 8 → e ≤ 8 → f ≤ 8 → g ≤ 8 → h ≤ 8
    → let n = (((((((0 * 256 + h) * 256 + g) * 256 + f) * 256 + e) * 256 + d) * 256 + c) * 256 + b) * 256 + a in
    (n + n / 2 ^ 32 < 2 ^ 64) × ((n + n / 2 ^ 32) % 2 ^ 32 * 0x01010101 / 2 ^ 24 % 256 ≡ (a + e) + (b + f) + (c + g) + (d + h))
eight-digits {a} {b} {c} {d} {e} {f} {g} {h} ha hb hc hd he hf hg hh =
    let n = (((((((0 * 256 + h) * 256 + g) * 256 + f) * 256 + e) * 256 + d) * 256 + c) * 256 + b) * 256 + a in
    let u = ((h * 256 + g) * 256 + f) * 256 + e in
    let p : n / 2 ^ 32 ≡ u = omega arith in
    let q : (n + u) / 2 ^ 32 ≡ u = omega arith in
    let r : (n + u) % 2 ^ 32 ≡ (((d + h) * 256 + (c + g)) * 256 + (b + f)) * 256 + (a + e) = omega arith in
    (rw p (omega arith), rw (p, r) (four-digits {a = a + e} {b = b + f} {c = c + g} {d = d + h} (omega arith) (omega arith) (omega arith) (omega arith)))

-- the counts of a mask's bytes are such digits, and the mask's count is their sum
pub counts-added : (m : ℕ) {n : ℕ} → n ≡ counts_of 8 8 m
    → (n + n / 2 ^ 32 < 2 ^ 64) × ((n + n / 2 ^ 32) % 2 ^ 32 * 0x01010101 / 2 ^ 24 % 256 ≡ rank m 64)
unfolding in_parts
counts-added m {n} e =
    let m1 = m / 2 ^ 8 in
    let m2 = m1 / 2 ^ 8 in
    let m3 = m2 / 2 ^ 8 in
    let m4 = m3 / 2 ^ 8 in
    let m5 = m4 / 2 ^ 8 in
    let m6 = m5 / 2 ^ 8 in
    let m7 = m6 / 2 ^ 8 in
    let d =
    eight-digits (rank-le m 8) (rank-le m1 8) (rank-le m2 8) (rank-le m3 8) (rank-le m4 8) (rank-le m5 8) (rank-le m6 8) (rank-le m7 8)
    in
    let r : (rank m 8 + rank m4 8) + (rank m1 8 + rank m5 8) + (rank m2 8 + rank m6 8) + (rank m3 8 + rank m7 8) ≡ rank m 64 =
    omega (arith, rank-add 8 m 56, rank-add 8 m1 48, rank-add 8 m2 40, rank-add 8 m3 32, rank-add 8 m4 24, rank-add 8 m5 16, rank-add 8 m6 8)
    in
    rw e (d.0, d.1 ∙ r)
