-- The spare bits of packed words: in the last word, as the code reads it, and bit by bit. Assumes nothing.
use mathlib.Core.Path.{◌≡◌, sym, ◌∙◌, ap}
use mathlib.Core.List.{List}
use Prim.Native.Nat.{ℕ, ◌+◌, ◌-◌, ◌*◌, ◌/◌, ◌%◌, ◌^◌, ◌<◌, ◌≤◌}
use native.Mathlib.Omega.{arith}
use lib.ListN.{get_or}
use Rattle.bits.specs.Bit.{bit}
use Rattle.bits.proofs.Word.{bit-of-zero}
use Rattle.pack.specs.Fields.{needed, packed_bit, spare_bits}
use Rattle.pack.proofs.Stream.{of_bits-none, upper}
use Rattle.pack.proofs.Reading.{bit-packed, word-bits}

module _ (n : ℕ) (ps : List ℕ) where
  -- n bits that fill their words
  pub spare-none : n % 64 ≡ 0 → spare_bits n ps ≡ 0
  unfolding spare_bits
  spare-none z = of_bits-none (64 * needed n - n) (λ i. packed_bit ps (n + i)) (λ i l. absurd (omega arith))

  -- the last word x, shifted
  pub spare-shifted : (n % 64 ≡ 0 → ⊥) → {j x : ℕ} → j ≡ needed n - 1 → x ≡ get_or ps j 0 → x < 2 ^ 64 → x / 2 ^ (n % 64) ≡ spare_bits n ps
  unfolding spare_bits
  spare-shifted z {j} {x} q e h =
      let d = n % 64 in
      let r = 64 * needed n - n in
      let w : 64 ≡ d + r = omega arith in
      upper d r (λ i. packed_bit ps (64 * j + i)) (λ i. packed_bit ps (n + i)) w (e ∙ word-bits ps j (rw e at h))
      (λ i. let v : 64 * j + (d + i) ≡ n + i = omega arith in ap (packed_bit ps) v)

  pub spare-bit : spare_bits n ps ≡ 0 → (i : ℕ) → n ≤ i → i < 64 * needed n → packed_bit ps i ≡ 0
  unfolding spare_bits
  spare-bit z i h l =
      let e : i ≡ n + (i - n) = omega arith in
      ap (packed_bit ps) e
      ∙ sym (bit-packed ps (64 * needed n - n) n (i - n) (omega arith))
      ∙ ap (λ (x : ℕ). bit x (i - n)) z
      ∙ bit-of-zero (i - n)

  pub spare-bits : ((i : ℕ) → n ≤ i → i < 64 * needed n → packed_bit ps i ≡ 0) → spare_bits n ps ≡ 0
  unfolding spare_bits
  spare-bits z = of_bits-none (64 * needed n - n) (λ i. packed_bit ps (n + i)) (λ i l. z (n + i) (omega arith) (omega arith))
