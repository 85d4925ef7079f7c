-- The decoder's turn in closed form. Assumes nothing.
use mathlib.Core.Path.{◌≡◌, sym, ◌∙◌, ap}
use Prim.Native.Nat.{ℕ, zero, suc, ◌+◌, ◌-◌, ◌*◌, ◌/◌, ◌%◌, ◌^◌, ◌<◌}
use native.Mathlib.Omega.{arith}
use native.Mathlib.Nat.{div-eq_of_lt, add-div_right}
use lib.Arith.{digits_div, digits_mod}
use Rattle.bits.specs.Bit.{bit}
use Rattle.bits.proofs.Word.{bit-zero, bit-suc, bit-mod, bit-of-zero}
use Rattle.network.specs.Decoder.{turn, turned}

module _ (d x : ℕ) where
  turn_low : bit (turn d x) 0 ≡ 1 - bit x (d - 1)
  unfolding turn
  turn_low = bit-zero (x % 2 ^ (d - 1) * 2 + (1 - bit x (d - 1))) ∙ digits_mod (x % 2 ^ (d - 1)) (omega arith)

  turn_up : (t : ℕ) → suc t < d → bit (turn d x) (suc t) ≡ bit x t
  unfolding turn
  turn_up t h =
      bit-suc (x % 2 ^ (d - 1) * 2 + (1 - bit x (d - 1))) t
      ∙ ap (λ (y : ℕ). bit y t) (digits_div (x % 2 ^ (d - 1)) (omega arith))
      ∙ bit-mod x (d - 1) t (omega arith)

-- bit t of d zeros turned left c steps
pub turned_bit : (d c t : ℕ) → t < d → bit (turned d c) t ≡ (c + (d - 1 - t)) / d % 2
unfolding turned
turned_bit d zero t h = bit-of-zero t ∙ sym (ap (λ (n : ℕ). n % 2) (div-eq_of_lt {n = 0 + (d - 1 - t)} {m = d} (omega arith)))
turned_bit d (suc c) zero h =
    let s : suc c + (d - 1 - 0) ≡ c + d = omega arith in
    let r : c + (d - 1 - (d - 1)) ≡ c = omega arith in
    turn_low d (turned d c)
    ∙ omega (arith, turned_bit d c (d - 1) (omega arith), ap (λ (n : ℕ). n / d) s, ap (λ (n : ℕ). n / d) r, add-div_right c h)
turned_bit d (suc c) (suc t) h =
    let s : c + (d - 1 - t) ≡ suc c + (d - 1 - suc t) = omega arith in
    turn_up d (turned d c) t h ∙ turned_bit d c t (omega arith) ∙ ap (λ (n : ℕ). n / d % 2) s
