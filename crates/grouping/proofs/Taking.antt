-- The code takes the destinations of a permutation, and the mask of step 0 with them, entry by entry. Assumes nothing.
use mathlib.Core.Path.{◌≡◌, sym, ◌∙◌, ap}
use mathlib.Core.List.{List}
use Prim.Native.Nat.{ℕ, ◌+◌, ◌-◌, ◌*◌, ◌%◌, ◌^◌, ◌<◌, ◌≤◌}
use native.Mathlib.Omega.{arith}
use lib.Bits.{bit_or}
use lib.ListN.{length, get_or, set, take, length-set}
use lib.Seq.{get_or-set_same, get_or-set_other, get_or-take}
use Rattle.bits.specs.Bit.{bit}
use Rattle.bits.proofs.Word.{bit-of-zero, fits_bits, ext}
use Rattle.routing.specs.Lists.{find, entry, ListPermutes}
use Rattle.routing.proofs.InverseEntries.{LaidBelow, laid_more, laid-all}
use Rattle.grouping.specs.Destinations.{pass_mask}
use Rattle.grouping.proofs.Sorting.{mask-bit, mask_lt}
use Rattle.grouping.proofs.StoredBits.{bit-here, bit-there}

-- the first k entries are taken; the mask has no one at a bit that none of them names
pub record Taken (entries : List ℕ) (k mask : ℕ) (to : List ℕ) : Type 0 where
  pub long : length to ≡ 64
  pub places : LaidBelow k entries (λ p. p) (λ x. get_or to x 0)
  pub bits : LaidBelow k entries (λ p. 1 - bit p 0) (bit mask)
  pub rest : (x : ℕ) → ((p : ℕ) → p < k → x ≡ entry entries p → ⊥) → bit mask x ≡ 0

pub take-start : (entries to : List ℕ) → length to ≡ 64 → Taken entries 0 0 to
take-start entries to l =
    record { long = l; places = λ p h. absurd (omega arith); bits = λ p h. absurd (omega arith); rest = λ x n. bit-of-zero x }

module _ (w : ℕ) (entries : List ℕ) (is : ListPermutes w entries) (small : w ≤ 64) (k mask : ℕ) (to : List ℕ) (taken : Taken entries k mask to) where
  abbrev x : ℕ
  x = entry entries k

  pub take_next : {b : ℕ} → k < w → b ≡ 1 - bit k 0 → Taken entries (k + 1) (bit_or mask (b * 2 ^ x % 2 ^ 64)) (set to x k)
  take_next {b} h e =
      let room : x < 64 = omega (arith, is.small k h) in
      let digit : b < 2 = omega (arith, e) in
      let unnamed = taken.rest x (λ p l z. omega (arith, is.once k p h (omega arith) z)) in
      let there = bit-there mask x digit room in
      record {
        long = length-set to x k ∙ taken.long;
        places = laid_more w entries is k (λ p. p) (λ y. get_or to y 0) taken.places (λ y. get_or (set to x k) y 0) h
            (get_or-set_same to x k 0 (omega (arith, taken.long))) (λ y n. get_or-set_other to x y k 0 n);
        bits = laid_more w entries is k (λ p. 1 - bit p 0) (bit mask) taken.bits (bit (bit_or mask (b * 2 ^ x % 2 ^ 64))) h
            (bit-here mask x digit room unnamed ∙ e) there;
        rest = λ y n. there y (n k (omega arith)) ∙ taken.rest y (λ p l. n p (omega arith));
      }

  pub take-end : w ≤ k → k ≤ w → ((y : ℕ) → y < w → entry to y ≡ find y entries) × (mask ≡ pass_mask w 0 (take w to))
  take-end l m =
      let at = laid-all w entries is k (λ p. p) (λ y. get_or to y 0) taken.places l in (
        at,
        ext w ((fits_bits w mask).1 (λ y h. taken.rest y (λ p o z. omega (arith, z, is.small p (omega arith))))) (mask_lt w 0 (take w to))
            (λ y h.
            laid-all w entries is k (λ p. 1 - bit p 0) (bit mask) taken.bits l y h
            ∙ sym (mask-bit w 0 (take w to) y h ∙ ap (λ (d : ℕ). 1 - bit d 0) (get_or-take w to y 0 h ∙ at y h))),
      )
