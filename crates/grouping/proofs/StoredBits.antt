-- A bit stored in a word where there was a zero. Assumes nothing.
use mathlib.Core.Path.{◌≡◌, sym, ◌∙◌, ap}
use Prim.Native.Nat.{ℕ, suc, ◌*◌, ◌%◌, ◌^◌, ◌<◌, ◌≤◌, max}
use native.Mathlib.Omega.{arith}
use native.Mathlib.Decide.{dec_lt}
use native.Mathlib.Nat.{mod-eq_of_lt, add-zero, mul-le-mul_right, pow-suc}
use lib.Bits.{bit_or}
use lib.Pow.{shl_exact, pow_pos}
use Rattle.bits.specs.Bit.{bit}
use Rattle.bits.proofs.Word.{bit-zero, bit-or, bit-above, bit-shl-low, bit-shl-high}

module _ (x at : ℕ) {b : ℕ} (digit : b < 2) (room : at < 64) where
  abbrev pub stored : ℕ
  stored = bit_or x (b * 2 ^ at % 2 ^ 64)

  whole : b * 2 ^ at % 2 ^ 64 ≡ b * 2 ^ at
  whole = shl_exact {a = b} 1 at 64 digit (omega arith)

  bits : (q : ℕ) → bit stored q ≡ max (bit x q) (bit (b * 2 ^ at) q)
  bits q = bit-or x (b * 2 ^ at % 2 ^ 64) q ∙ ap (λ (n : ℕ). max (bit x q) (bit n q)) whole

  pub bit-here : bit x at ≡ 0 → bit stored at ≡ b
  bit-here z =
      let own : bit (b * 2 ^ at) at ≡ b =
      ap (bit (b * 2 ^ at)) (sym (add-zero at)) ∙ bit-shl-high b at 0 ∙ bit-zero b ∙ mod-eq_of_lt digit
      in
      omega (arith, bits at, own, z)

  pub bit-there : (q : ℕ) → (q ≡ at → ⊥) → bit stored q ≡ bit x q
  bit-there q n = omega (arith, bits q, by_cases (dec_lt q at))
    where
      by_cases : Dec (q < at) → bit (b * 2 ^ at) q ≡ 0
      by_cases (yes l) = bit-shl-low b at q l
      by_cases (no g) =
          let l : b ≤ 1 = omega arith in
          bit-above {w = suc at} q (omega (arith, mul-le-mul_right (2 ^ at) l, pow-suc 2 at, pow_pos at)) (omega arith)
