-- Bits put at 64 places, each of them listed once. Assumes nothing.
use mathlib.Core.Path.{◌≡◌, sym, ◌∙◌, ap, ap₂}
use mathlib.Core.Logic.{◌⊎◌, inl, inr}
use mathlib.Core.Bool.{Bool, true, false, cond}
use mathlib.Core.List.{[], ◌∷◌}
use Prim.Native.Nat.{ℕ, zero, suc, ◌+◌, ◌*◌, ◌/◌, ◌^◌, ◌<◌, ◌≤◌, min, max}
use native.Mathlib.Omega.{arith}
use native.Mathlib.Decide.{dec_lt, ℕ_discrete}
use native.Mathlib.Nat.{add-zero}
use lib.Bits.{bit_and, bit_or, or_disjoint, or_lt, and_le_l}
use lib.Dec.{eqb, ltb}
use lib.Pow.{pow-lt}
use borrow.Author.Tests.{eq-eqb, ne_eqb, lt-ltb, le-ltb}
use Rattle.bits.specs.Bit.{bit, up_to, put}
use Rattle.bits.proofs.Places.{put-append}
use Rattle.bits.proofs.UpTo.{length-up_to}
use Rattle.bits.proofs.Word.{bit-lt, bit-cases, bit-shr, bit-of-zero, bit-and, bit-or, bit-pow, ext}

-- a one more where there was none
module _ (p y : ℕ) (hp : p < 64) (h : y < 2 ^ 64) (none : bit y p ≡ 0) where
  apart : bit_and y (2 ^ p) ≡ 0
  apart =
      ext 64 (omega (arith, and_le_l y (2 ^ p))) (omega arith)
      (λ i l. bit-and y (2 ^ p) i ∙ ap (min (bit y i)) (bit-pow p i) ∙ by i (ℕ_discrete i p) ∙ sym (bit-of-zero i))
    where
      by : (i : ℕ) → Dec (i ≡ p) → min (bit y i) (cond (eqb i p) 1 0) ≡ 0
      by i (yes e) = omega (arith, ap (bit y) e, none)
      by i (no n) = rw (ne_eqb i p n) (omega arith)

  joined : y + 2 ^ p ≡ bit_or y (2 ^ p)
  joined = sym (or_disjoint y (2 ^ p) apart)

  one-lt : y + 2 ^ p < 2 ^ 64
  one-lt = rw joined (or_lt 64 y (2 ^ p) h (pow-lt hp))

  bit-one : (q : ℕ) → bit (y + 2 ^ p) q ≡ cond (eqb q p) 1 (bit y q)
  bit-one q = ap (λ (v : ℕ). bit v q) joined ∙ bit-or y (2 ^ p) q ∙ ap (max (bit y q)) (bit-pow p q) ∙ by (eqb q p)
    where
      by : (b : Bool) → max (bit y q) (cond b 1 0) ≡ cond b 1 (bit y q)
      by true = omega (arith, bit-lt y q)
      by false = omega arith

  -- or another bit
  module _ (b : ℕ) (hb : (b ≡ 0) ⊎ (b ≡ 1)) where
    more_lt : y + b * 2 ^ p < 2 ^ 64
    more_lt = by hb
      where
        by : (b ≡ 0) ⊎ (b ≡ 1) → y + b * 2 ^ p < 2 ^ 64
        by (inl e) = let z : y + b * 2 ^ p ≡ y = rw e (omega arith) in omega (arith, z)
        by (inr e) = let z : y + b * 2 ^ p ≡ y + 2 ^ p = rw e (omega arith) in omega (arith, z, one-lt)

    bit-more : (q : ℕ) → bit (y + b * 2 ^ p) q ≡ cond (eqb q p) b (bit y q)
    bit-more q = by hb (ℕ_discrete q p)
      where
        by : (b ≡ 0) ⊎ (b ≡ 1) → Dec (q ≡ p) → bit (y + b * 2 ^ p) q ≡ cond (eqb q p) b (bit y q)
        by (inl e) (yes s) =
            let z : y + b * 2 ^ p ≡ y = rw e (omega arith) in
            ap₂ bit z s ∙ none ∙ sym e ∙ sym (ap (λ (t : Bool). cond t b (bit y q)) (eq-eqb q p s))
        by (inl e) (no n) =
            let z : y + b * 2 ^ p ≡ y = rw e (omega arith) in
            ap (λ (v : ℕ). bit v q) z ∙ sym (ap (λ (t : Bool). cond t b (bit y q)) (ne_eqb q p n))
        by (inr e) d =
            let z : y + b * 2 ^ p ≡ y + 2 ^ p = rw e (omega arith) in
            ap (λ (v : ℕ). bit v q) z ∙ bit-one q ∙ ap (λ (v : ℕ). cond (eqb q p) v (bit y q)) (sym e)

-- one place more of a list
put-suc : (t : ℕ → ℕ) (n x : ℕ) → put (up_to (suc n) t) x ≡ put (up_to n t) x + bit x n * 2 ^ t n
unfolding up_to put
put-suc t n x =
    put-append (up_to n t) (t n ∷ []) x
    ∙ ap (λ (k : ℕ). put (up_to n t) x + put (t n ∷ []) (x / 2 ^ k)) (length-up_to t n)
    ∙ ap (λ (b : ℕ). put (up_to n t) x + (b * 2 ^ t n + 0)) (bit-shr x n 0 ∙ ap (bit x) (add-zero n))
    ∙ omega arith

-- t and g take 64 places to each other
pub record Bijective (t g : ℕ → ℕ) : Type 0 where
  pub there : (p : ℕ) → p < 64 → t p < 64
  pub back : (q : ℕ) → q < 64 → g q < 64
  pub restored : (p : ℕ) → p < 64 → g (t p) ≡ p
  pub reached : (q : ℕ) → q < 64 → t (g q) ≡ q

module _ (t g : ℕ → ℕ) (o : Bijective t g) (x : ℕ) where
  -- bits below n are put, and no other
  abbrev PutBelow : ℕ → Type 0
  PutBelow n = (put (up_to n t) x < 2 ^ 64) × ((q : ℕ) → q < 64 → bit (put (up_to n t) x) q ≡ cond (ltb (g q) n) (bit x (g q)) 0)

  one_more : (n q : ℕ) → n < 64 → q < 64 → cond (eqb q (t n)) (bit x n) (cond (ltb (g q) n) (bit x (g q)) 0) ≡ cond (ltb (g q) (suc n)) (bit x (g q)) 0
  one_more n q hn hq = by (ℕ_discrete q (t n)) (dec_lt (g q) n)
    where
      by : Dec (q ≡ t n) → Dec (g q < n) → cond (eqb q (t n)) (bit x n) (cond (ltb (g q) n) (bit x (g q)) 0) ≡ cond (ltb (g q) (suc n)) (bit x (g q)) 0
      by (yes e) d =
          let k : g q ≡ n = ap g e ∙ o.restored n hn in
          rw (eq-eqb q (t n) e, lt-ltb (g q) (suc n) (omega (arith, k))) (ap (bit x) (sym k))
      by (no e) (yes l) = rw (ne_eqb q (t n) e, lt-ltb (g q) n l, lt-ltb (g q) (suc n) (omega arith))
      by (no e) (no l) =
          let k : g q ≡ n → ⊥ = λ w. e (sym (o.reached q hq) ∙ ap t w) in
          rw (ne_eqb q (t n) e, le-ltb (g q) n (omega arith), le-ltb (g q) (suc n) (omega (arith, k)))

  none_yet : (n : ℕ) → n < 64 → PutBelow n → bit (put (up_to n t) x) (t n) ≡ 0
  none_yet n h b = b.1 (t n) (o.there n h) ∙ ap (λ (s : Bool). cond s (bit x (g (t n))) 0) (le-ltb (g (t n)) n (omega (arith, o.restored n h)))

  put-below : (n : ℕ) → n ≤ 64 → PutBelow n
  unfolding up_to put
  put-below zero l = (omega arith, λ q h. bit-of-zero q ∙ sym (ap (λ (s : Bool). cond s (bit x (g q)) 0) (le-ltb (g q) 0 (omega arith))))
  put-below (suc n) l = more (put-below n (omega arith))
    where
      more : PutBelow n → PutBelow (suc n)
      more b = (
        rw (put-suc t n x) (more_lt (t n) (put (up_to n t) x) (o.there n l) b.0 (none_yet n l b) (bit x n) (bit-cases x n)),
        λ q h.
            ap (λ (v : ℕ). bit v q) (put-suc t n x)
            ∙ bit-more (t n) (put (up_to n t) x) (o.there n l) b.0 (none_yet n l b) (bit x n) (bit-cases x n) q
            ∙ ap (cond (eqb q (t n)) (bit x n)) (b.1 q h)
            ∙ one_more n q l h,
      )

  pub put-lt : put (up_to 64 t) x < 2 ^ 64
  put-lt = (put-below 64 (omega arith)).0

  pub bit-put : (q : ℕ) → q < 64 → bit (put (up_to 64 t) x) q ≡ bit x (g q)
  bit-put q h = (put-below 64 (omega arith)).1 q h ∙ ap (λ (s : Bool). cond s (bit x (g q)) 0) (lt-ltb (g q) 64 (o.back q h))
