-- Laws of a plane's pixels and its dark border, and its words by their pixels. Assumes nothing.
use mathlib.Core.Path.{◌≡◌, refl, sym, ◌∙◌, ap, ap₂}
use mathlib.Core.Bool.{Bool, true, false, cond, ◌&&◌}
use mathlib.Core.List.{List}
use Prim.Native.Nat.{ℕ, zero, suc, ◌+◌, ◌-◌, ◌*◌, ◌/◌, ◌%◌, ◌^◌, ◌<◌, ◌≤◌, max}
use native.Mathlib.Omega.{arith}
use native.Mathlib.Nat.{mul-le-mul_right, suc-mul, mul_comm}
use native.Mathlib.Numerals.{add-one}
use native.Mathlib.Decide.{dec_lt}
use lib.Dec.{ltb}
use lib.Bits.{bit_or}
use lib.ListN.{get_or}
use borrow.Author.Tests.{lt-ltb, le-ltb}
use Rattle.bits.specs.Bit.{bit, of_bits}
use Rattle.bits.proofs.Word.{bit-lt, bit-of-zero, bit-or, bit-shr, bit-above, bit-shl-below, bit-shl-from}
use Rattle.despeckle.specs.Plane.{pixel, bordered, window, around}
use Rattle.despeckle.proofs.Sliding.{three-joined}

-- where a word of a row stands
pub index-lt : {v h : ℕ} (y at : ℕ) → y < h → at < v → y * v + at < v * h
index-lt {v} {h} y at a b = omega (arith, mul-le-mul_right v a, suc-mul y v, mul_comm h v)

pub row-end : (y v : ℕ) → y * v + v ≡ (y + 1) * v
row-end y v = sym (rw add-one (suc-mul y v))

module _ (ws : List ℕ) (v h : ℕ) where
  pub pixel-lt : (y x : ℕ) → pixel ws v h y x < 2
  unfolding pixel
  pixel-lt y x = by (ltb y h && ltb x (64 * v))
    where
      by : (t : Bool) → cond t (bit (get_or ws (y * v + x / 64) 0) (63 - x % 64)) 0 < 2
      by true = bit-lt _ _
      by false = omega arith

  -- within the plane, below it, to the right of it

  pub pixel-within : (y x : ℕ) → y < h → x < 64 * v → pixel ws v h y x ≡ bit (get_or ws (y * v + x / 64) 0) (63 - x % 64)
  unfolding pixel
  pixel-within y x a b = rw (lt-ltb _ _ a, lt-ltb _ _ b)

  pub pixel-under : (y x : ℕ) → h ≤ y → pixel ws v h y x ≡ 0
  unfolding pixel
  pixel-under y x a = rw (le-ltb _ _ a)

  pub pixel-beside : (y x : ℕ) → 64 * v ≤ x → pixel ws v h y x ≡ 0
  unfolding pixel
  pixel-beside y x b = rw (le-ltb _ _ b) (neither (ltb y h))
    where
      neither : (t : Bool) → cond (t && false) (bit (get_or ws (y * v + x / 64) 0) (63 - x % 64)) 0 ≡ 0
      neither true = refl
      neither false = refl

  -- the bordered plane counts rows and columns from 1

  pub bordered-is : (y x : ℕ) → 0 < y → 0 < x → bordered ws v h y x ≡ pixel ws v h (y - 1) (x - 1)
  unfolding bordered
  bordered-is (suc y) (suc x) a b =
      let p : y ≡ suc y - 1 = omega arith in
      let q : x ≡ suc x - 1 = omega arith in
      ap₂ (pixel ws v h) p q
  bordered-is zero x a b = absurd (omega arith)
  bordered-is (suc y) zero a b = absurd (omega arith)

  pub bordered-lt : (y x : ℕ) → bordered ws v h y x < 2
  unfolding bordered
  bordered-lt zero x = omega arith
  bordered-lt (suc y) zero = omega arith
  bordered-lt (suc y) (suc x) = pixel-lt y x

  -- what is lit in the bordered plane lies in the plane
  pub bordered-lit : (y x : ℕ) → bordered ws v h y x ≡ 1
      → (up : ℕ) × (left : ℕ) × (y ≡ up + 1) × (x ≡ left + 1) × (up < h) × (left < 64 * v) × (pixel ws v h up left ≡ 1)
  unfolding bordered
  bordered-lit zero x e = absurd (omega (arith, e))
  bordered-lit (suc y) zero e = absurd (omega (arith, e))
  bordered-lit (suc y) (suc x) e = (y, x, omega arith, omega arith, below (dec_lt y h), before (dec_lt x (64 * v)), e)
    where
      below : Dec (y < h) → y < h
      below (yes l) = l
      below (no l) = absurd (omega (arith, e, pixel-under y x (omega arith)))

      before : Dec (x < 64 * v) → x < 64 * v
      before (yes l) = l
      before (no l) = absurd (omega (arith, e, pixel-beside y x (omega arith)))

  -- Word `at` of a row of the bordered plane, by its bits: those outside the plane are dark.
  module _ (row at : ℕ) where
    pub word_over : row ≡ 0 → (k : ℕ) → k < 64 → bit 0 k ≡ bordered ws v h row (64 * at + (64 - k))
    unfolding bordered
    word_over e k l = bit-of-zero k ∙ sym (ap (λ (r : ℕ). bordered ws v h r (64 * at + (64 - k))) e)

    pub word-under : h < row → (k : ℕ) → k < 64 → bit 0 k ≡ bordered ws v h row (64 * at + (64 - k))
    word-under a k l =
        bit-of-zero k
        ∙ sym (bordered-is row (64 * at + (64 - k)) (omega arith) (omega arith) ∙ pixel-under (row - 1) (64 * at + (64 - k) - 1) (omega arith))

    pub word-beside : (row ≡ 0 → ⊥) → v ≤ at → (k : ℕ) → k < 64 → bit 0 k ≡ bordered ws v h row (64 * at + (64 - k))
    word-beside z a k l =
        bit-of-zero k
        ∙ sym (bordered-is row (64 * at + (64 - k)) (omega arith) (omega arith) ∙ pixel-beside (row - 1) (64 * at + (64 - k) - 1) (omega arith))

    pub word-within : (row ≡ 0 → ⊥) → row ≤ h → at < v → {w : ℕ} → w ≡ get_or ws ((row - 1) * v + at) 0
        → (k : ℕ) → k < 64 → bit w k ≡ bordered ws v h row (64 * at + (64 - k))
    word-within z a b {w} e k l =
        let x = 64 * at + (64 - k) - 1 in
        let q : x / 64 ≡ at = omega arith in
        let r : 63 - x % 64 ≡ k = omega arith in
        sym (
        bordered-is row (64 * at + (64 - k)) (omega arith) (omega arith)
        ∙ pixel-within (row - 1) x (omega arith) (omega arith)
        ∙ ap₂ (λ (j i : ℕ). bit (get_or ws ((row - 1) * v + j) 0) i) q r
        ∙ ap (λ (n : ℕ). bit n k) (sym e)
        )

  -- Words of a row of the bordered plane, moved on by two pixels; the first two pixels of three rows.

  module _ (row at w next : ℕ) (inside : next < 2 ^ 64)
      (p : (k : ℕ) → k < 64 → bit w k ≡ bordered ws v h row (64 * at + (64 - k)))
      (q : (k : ℕ) → k < 64 → bit next k ≡ bordered ws v h row (64 * (at + 1) + (64 - k))) where
    pub word-ahead : (k : ℕ) → k < 64 → bit (bit_or (w * 2 ^ 2 % 2 ^ 64) (next / 2 ^ 62)) k ≡ bordered ws v h row (64 * at + (66 - k))
    word-ahead k l = bit-or _ _ k ∙ by (dec_lt k 2)
      where
        by : Dec (k < 2) → max (bit (w * 2 ^ 2 % 2 ^ 64) k) (bit (next / 2 ^ 62) k) ≡ bordered ws v h row (64 * at + (66 - k))
        by (yes b) =
            let e : 64 * (at + 1) + (64 - (62 + k)) ≡ 64 * at + (66 - k) = omega arith in
            omega (arith, bit-shl-below w 2 {w = 64} k l b, bit-shr next 62 k, q (62 + k) (omega arith), ap (bordered ws v h row) e)
        by (no b) =
            let e : 64 * at + (64 - (k - 2)) ≡ 64 * at + (66 - k) = omega arith in
            omega (
              arith,
              bit-shl-from w 2 {w = 64} k (k - 2) l (omega arith),
              bit-shr next 62 k,
              bit-above {w = 64} (62 + k) inside (omega arith),
              p (k - 2) (omega arith),
              ap (bordered ws v h row) e,
            )

  bordered-left : (row : ℕ) → bordered ws v h row 0 ≡ 0
  unfolding bordered
  bordered-left zero = refl
  bordered-left (suc y) = refl

  -- the highest two bits of the first word of a row
  first_two : (row : ℕ) {w : ℕ} → w < 2 ^ 64 → ((k : ℕ) → k < 64 → bit w k ≡ bordered ws v h row (64 * 0 + (64 - k)))
      → w / 2 ^ 62 ≡ bordered ws v h row 1 % 2 * 2 + bordered ws v h row 2 % 2
  unfolding bit
  first_two row {w} l p = omega (arith, p 63 (omega arith), p 62 (omega arith), bordered-lt row 1, bordered-lt row 2)

  pub first-window : (y : ℕ) {a o b : ℕ} → a < 2 ^ 64 → o < 2 ^ 64 → b < 2 ^ 64
      → ((k : ℕ) → k < 64 → bit a k ≡ bordered ws v h y (64 * 0 + (64 - k)))
      → ((k : ℕ) → k < 64 → bit o k ≡ bordered ws v h (y + 1) (64 * 0 + (64 - k)))
      → ((k : ℕ) → k < 64 → bit b k ≡ bordered ws v h (y + 2) (64 * 0 + (64 - k)))
      → bit_or (bit_or (a / 2 ^ 62 * 2 ^ 6 % 2 ^ 64) (o / 2 ^ 62 * 2 ^ 3 % 2 ^ 64)) (b / 2 ^ 62) ≡ around ws v h y 0
  unfolding window of_bits
  first-window y {a} {o} {b} ha ho hb p q r =
      let e : y + 2 - 0 ≡ y + 2 = omega arith in
      let f : y + 2 - 1 ≡ y + 1 = omega arith in
      let g : y + 2 - 2 ≡ y = omega arith in
      three-joined {a = a / 2 ^ 62} {o = o / 2 ^ 62} {b = b / 2 ^ 62} (omega (arith, ha)) (omega (arith, ho)) (omega (arith, hb))
      ∙ rw (e, f, g, bordered-left y, bordered-left (y + 1), bordered-left (y + 2))
      (omega (arith, first_two y ha p, first_two (y + 1) ho q, first_two (y + 2) hb r))
