-- The status byte bit by bit, and by the steps of the code. Assumes nothing.
use mathlib.Core.Path.{◌≡◌, refl, sym, ◌∙◌, ap, subst}
use mathlib.Core.Bool.{Bool, true, false, cond, ◌&&◌, ◌||◌}
use mathlib.Core.Logic.{◌⊎◌, inl, inr}
use Prim.Native.Nat.{ℕ, zero, suc, ◌-◌, ◌%◌, ◌^◌, ◌<◌, min, max}
use native.Mathlib.Omega.{arith}
use native.Mathlib.Nat.{mod-lt}
use native.Mathlib.Decide.{dec_lt}
use lib.Bits.{bit_and, bit_or, and_le_l, or_lt}
use lib.Dec.{T, eqb}
use borrow.Author.Tests.{eq-eqb, eqb-true}
use Rattle.bits.specs.Bit.{bit}
use Rattle.bits.proofs.Word.{bit-lt, bit-cases, bit-mod-two, bit-above, bit-of-zero, bit-mod, bit-and, bit-or, bit_not, bit-pow, bit-of_bits, of_bits-lt, ext}
use Rattle.unit.specs.declared.Registers.{Registers}
use Rattle.runs.specs.StatusByte.{with_bit, status_of, cleared, some_both, BothOne}

pub bit-with-bit : (s n i : ℕ) → i < 8 → bit (with_bit s n) i ≡ cond (eqb i n) 1 (bit s i)
unfolding with_bit
bit-with-bit s n i l = bit-of_bits 8 (λ j. cond (eqb j n) 1 (bit s j)) i l ∙ by-test (eqb i n)
  where
    by-test : (b : Bool) → cond b 1 (bit s i) % 2 ≡ cond b 1 (bit s i)
    by-test true = refl
    by-test false = bit-mod-two s i

pub bit-cleared : (s m i : ℕ) → i < 8 → bit (cleared s m) i ≡ cond (eqb (bit m i) 1) 0 (bit s i)
unfolding cleared
bit-cleared s m i l = bit-of_bits 8 (λ j. cond (eqb (bit m j) 1) 0 (bit s j)) i l ∙ by-test (eqb (bit m i) 1)
  where
    by-test : (b : Bool) → cond b 0 (bit s i) % 2 ≡ cond b 0 (bit s i)
    by-test true = refl
    by-test false = bit-mod-two s i

module _ (k : Registers) where
  pub bit-status : (i : ℕ) → i < 3 → bit (status_of k) i ≡ bit k.status i
  unfolding status_of
  bit-status i l = bit-of_bits 3 (λ j. bit k.status j) i l ∙ bit-mod-two k.status i

  pub status-lt : status_of k < 2 ^ 3
  unfolding status_of
  status-lt = of_bits-lt 3 (λ j. bit k.status j)

  -- by a remainder
  pub status-by : k.status % 2 ^ 3 ≡ status_of k
  status-by = ext 3 (mod-lt k.status (omega arith)) status-lt (λ i l. bit-mod k.status 3 i l ∙ sym (bit-status i l))

-- a bit set by `|`
pub with-bit-by : (s n : ℕ) → s < 2 ^ 8 → {m : ℕ} → m ≡ 2 ^ n → m < 2 ^ 8 → bit_or s m ≡ with_bit s n
unfolding with_bit
with-bit-by s n h {m} e l =
    ext 8 (or_lt 8 s m h l) (of_bits-lt 8 (λ j. cond (eqb j n) 1 (bit s j)))
    (λ i j. bit-or s m i ∙ ap (λ (b : ℕ). max (bit s i) b) (ap (λ (w : ℕ). bit w i) e ∙ bit-pow n i) ∙ by-test i (eqb i n) ∙ sym (bit-with-bit s n i j))
  where
    by-test : (i : ℕ) (b : Bool) → max (bit s i) (cond b 1 0) ≡ cond b 1 (bit s i)
    by-test i true = omega (arith, bit-lt s i)
    by-test i false = omega arith

-- bits cleared by `&` and the complement
pub cleared_by : (s m : ℕ) → s < 2 ^ 8 → m < 2 ^ 8 → bit_and s ((2 ^ 8 - 1) - m) ≡ cleared s m
unfolding cleared
cleared_by s m h l =
    let a = and_le_l s ((2 ^ 8 - 1) - m) in
    ext 8 (omega (arith, a)) (of_bits-lt 8 (λ j. cond (eqb (bit m j) 1) 0 (bit s j)))
    (λ i j. bit-and s ((2 ^ 8 - 1) - m) i ∙ ap (λ (b : ℕ). min (bit s i) b) (bit_not 8 i l j) ∙ by-digit i (bit-cases m i) ∙ sym (bit-cleared s m i j))
  where
    by-digit : (i : ℕ) → (bit m i ≡ 0) ⊎ (bit m i ≡ 1) → min (bit s i) (1 - bit m i) ≡ cond (eqb (bit m i) 1) 0 (bit s i)
    by-digit i (inl e) = rw e (omega (arith, bit-lt s i))
    by-digit i (inr e) = rw e (omega arith)

-- Some bit is one in both

some_at : (n x y i : ℕ) → i < n → bit x i ≡ 1 → bit y i ≡ 1 → some_both n x y ≡ true
unfolding some_both
some_at zero x y i l p q = absurd (omega arith)
some_at (suc n) x y i l p q = by-test (dec_lt i n) (some_at n x y i)
  where
    or-true : (b : Bool) → (b || true) ≡ true
    or-true true = refl
    or-true false = refl

    by-test : Dec (i < n) → (i < n → bit x i ≡ 1 → bit y i ≡ 1 → some_both n x y ≡ true)
        → (eqb (bit x n) 1 && eqb (bit y n) 1 || some_both n x y) ≡ true
    by-test (yes h) r = ap (λ (b : Bool). eqb (bit x n) 1 && eqb (bit y n) 1 || b) (r h p q) ∙ or-true (eqb (bit x n) 1 && eqb (bit y n) 1)
    by-test (no h) r =
        let e : i ≡ n = omega arith in
        let a : eqb (bit x n) 1 ≡ true = eq-eqb (bit x n) 1 (rw e at p) in
        let b : eqb (bit y n) 1 ≡ true = eq-eqb (bit y n) 1 (rw e at q) in
        rw (a, b)

pub some_of : (n x y : ℕ) → some_both n x y ≡ true → BothOne x y
unfolding some_both
some_of zero x y e = absurd (subst (λ (b : Bool). T b) (sym e) tt)
some_of (suc n) x y e = by-test (eqb (bit x n) 1) (eqb (bit y n) 1) refl refl e (some_of n x y)
  where
    by-test : (a b : Bool) → eqb (bit x n) 1 ≡ a → eqb (bit y n) 1 ≡ b → (a && b || some_both n x y) ≡ true → (some_both n x y ≡ true → BothOne x y) → BothOne x y
    by-test true true p q t r = record { place = n; in-first = eqb-true (bit x n) 1 p; in-second = eqb-true (bit y n) 1 q }
    by-test true false p q t r = r t
    by-test false true p q t r = r t
    by-test false false p q t r = r t

module _ (n x y : ℕ) (h : x < 2 ^ n) where
  -- a bit of x that is one is below n
  pub some-both : BothOne x y → some_both n x y ≡ true
  some-both o = some_at n x y o.place (below (dec_lt o.place n)) o.in-first o.in-second
    where
      below : Dec (o.place < n) → o.place < n
      below (yes l) = l
      below (no l) = absurd (omega (arith, bit-above o.place h (omega arith), o.in-first))

  -- by the steps of the code
  pub some-by : {z : ℕ} → z ≡ bit_and x y → (z ≡ 0 → ⊥) → some_both n x y ≡ true
  some-by e f = by-test (some_both n x y) refl
    where
      none : some_both n x y ≡ false → (i : ℕ) → bit (bit_and x y) i ≡ bit 0 i
      none t i = bit-and x y i ∙ by_digits (bit-cases x i) (bit-cases y i) ∙ sym (bit-of-zero i)
        where
          by_digits : (bit x i ≡ 0) ⊎ (bit x i ≡ 1) → (bit y i ≡ 0) ⊎ (bit y i ≡ 1) → min (bit x i) (bit y i) ≡ 0
          by_digits (inl p) q = omega arith
          by_digits (inr p) (inl q) = omega arith
          by_digits (inr p) (inr q) = absurd (subst (λ (b : Bool). T b) (sym (some-both (record { place = i; in-first = p; in-second = q })) ∙ t) tt)

      by-test : (b : Bool) → some_both n x y ≡ b → b ≡ true
      by-test true t = refl
      by-test false t =
          let a = and_le_l x y in
          absurd (f (e ∙ ext n (omega (arith, a)) (omega (arith, h)) (λ i l. none t i)))

pub none-by : (n x y : ℕ) {z : ℕ} → z ≡ bit_and x y → z ≡ 0 → some_both n x y ≡ false
none-by n x y e f = by-test (some_both n x y) refl
  where
    one-in-zero : BothOne x y → ⊥
    one-in-zero o =
        let i = o.place in
        let b : min (bit x i) (bit y i) ≡ 0 = sym (bit-and x y i) ∙ ap (λ (w : ℕ). bit w i) (sym e ∙ f) ∙ bit-of-zero i in
        omega (arith, b, o.in-first, o.in-second)

    by-test : (b : Bool) → some_both n x y ≡ b → b ≡ false
    by-test true t = absurd (one-in-zero (some_of n x y t))
    by-test false t = refl
