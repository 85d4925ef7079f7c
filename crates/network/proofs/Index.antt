-- Index algebra of a stage: a place by its block, its half and its offset; where a switch, its partner and a bit's source stand.
-- Assumes nothing.
use mathlib.Core.Path.{◌≡◌, sym, ◌∙◌, ap, subst}
use mathlib.Core.Logic.{◌⊎◌, inl, inr}
use mathlib.Core.Bool.{Bool, cond}
use Prim.Native.Nat.{ℕ, ◌+◌, ◌-◌, ◌*◌, ◌/◌, ◌%◌, ◌<◌}
use native.Mathlib.Omega.{arith}
use native.Mathlib.Nat.{div-add-mod', mod-lt, lt_of_mul-lt-mul_right}
use lib.Arith.{digits_div, digits_mod, digits_lt}
use lib.Dec.{eqb}
use borrow.Author.Tests.{eq-eqb, ne_eqb}
use Rattle.bits.specs.Bit.{bit}
use Rattle.bits.proofs.Word.{digit, bit-lt, bit-cases}
use Rattle.network.specs.Stage.{switch_of, partner, source}

-- offset t in half e of block J, where a block is two halves of d places
abbrev pub place_at : ℕ → ℕ → ℕ → ℕ → ℕ
place_at d J e t = (J * 2 + e) * d + t

-- what holds at every offset of every half of every block holds at every place
pub on-places : {d : ℕ} → 0 < d → (P : ℕ → Type 0) → ((J e t : ℕ) → e < 2 → t < d → P (place_at d J e t)) → (p : ℕ) → P p
on-places {d} pos P h p =
    let n : p / d / 2 * 2 + p / d % 2 ≡ p / d = omega arith in
    subst P (ap (λ (q : ℕ). q * d + p % d) n ∙ div-add-mod' p d)
    (h (p / d / 2) (p / d % 2) (p % d) (omega arith) (mod-lt p pos))

-- a place of k blocks lies in one of them
pub block-lt : (d J e t k : ℕ) → place_at d J e t < k * (2 * d) → J < k
block-lt d J e t k h = let l : J * 2 + e < k * 2 = lt_of_mul-lt-mul_right d (omega arith) in omega arith

module _ (d J e t : ℕ) (he : e < 2) (ht : t < d) where
  pub half_of : place_at d J e t / d ≡ J * 2 + e
  half_of = digits_div (J * 2 + e) ht

  offset-of : place_at d J e t % d ≡ t
  offset-of = digits_mod (J * 2 + e) ht

  pub side-of : place_at d J e t / d % 2 ≡ e
  side-of = omega (arith, half_of)

  block_of : place_at d J e t / d / 2 ≡ J
  block_of = omega (arith, half_of)

  pub switch-at : switch_of d (place_at d J e t) ≡ J * d + t
  unfolding switch_of
  switch-at = rw (block_of, offset-of)

  pub partner-at : partner d (place_at d J e t) ≡ place_at d J (1 - e) t
  unfolding partner
  partner-at = by_side (digit e he)
    where
      by_side : (e ≡ 0) ⊎ (e ≡ 1)
          → cond (eqb (place_at d J e t / d % 2) 0) (place_at d J e t + d) (place_at d J e t - d) ≡ place_at d J (1 - e) t
      by_side (inl z) =
          ap (λ (b : Bool). cond b (place_at d J e t + d) (place_at d J e t - d)) (eq-eqb _ _ (side-of ∙ z)) ∙ rw z (omega arith)
      by_side (inr o) =
          ap (λ (b : Bool). cond b (place_at d J e t + d) (place_at d J e t - d))
          (ne_eqb (place_at d J e t / d % 2) 0 (λ q. omega (arith, side-of)))
          ∙ rw o (omega arith)

  -- a switch that passes keeps the half, one that swaps changes it
  pub source-at : (c : ℕ) → source d c (place_at d J e t) ≡ place_at d J ((e + bit c (J * d + t) + 1) % 2) t
  unfolding source
  source-at c = by_cases (bit-cases c (J * d + t))
    where
      test : eqb (bit c (switch_of d (place_at d J e t))) 1 ≡ eqb (bit c (J * d + t)) 1
      test = ap (λ (s : ℕ). eqb (bit c s) 1) switch-at

      by_cases : (bit c (J * d + t) ≡ 0) ⊎ (bit c (J * d + t) ≡ 1)
          → cond (eqb (bit c (switch_of d (place_at d J e t))) 1) (place_at d J e t) (partner d (place_at d J e t))
          ≡ place_at d J ((e + bit c (J * d + t) + 1) % 2) t
      by_cases (inl z) =
          let s : 1 - e ≡ (e + bit c (J * d + t) + 1) % 2 = omega arith in
          ap (λ (b : Bool). cond b (place_at d J e t) (partner d (place_at d J e t)))
          (test ∙ ne_eqb (bit c (J * d + t)) 1 (λ q. omega arith))
          ∙ partner-at ∙ ap (λ (n : ℕ). place_at d J n t) s
      by_cases (inr o) =
          let s : e ≡ (e + bit c (J * d + t) + 1) % 2 = omega arith in
          ap (λ (b : Bool). cond b (place_at d J e t) (partner d (place_at d J e t))) (test ∙ eq-eqb _ _ o)
          ∙ ap (λ (n : ℕ). place_at d J n t) s

-- over every place

module _ {d : ℕ} (pos : 0 < d) (c : ℕ) where
  -- a switch joins both ways
  pub source-source : (p : ℕ) → source d c (source d c p) ≡ p
  source-source = on-places pos _ at
    where
      at : (J e t : ℕ) → e < 2 → t < d → source d c (source d c (place_at d J e t)) ≡ place_at d J e t
      at J e t he ht =
          let f = (e + bit c (J * d + t) + 1) % 2 in
          let back : (f + bit c (J * d + t) + 1) % 2 ≡ e = omega (arith, bit-lt c (J * d + t)) in
          ap (source d c) (source-at d J e t he ht c)
          ∙ source-at d J f t (omega arith) ht c
          ∙ ap (λ (n : ℕ). place_at d J n t) back

  pub source-injective : (p q : ℕ) → source d c p ≡ source d c q → p ≡ q
  source-injective p q e = sym (source-source p) ∙ ap (source d c) e ∙ source-source q

  -- a stage over k whole blocks stays inside them
  pub source-lt : (k p : ℕ) → p < k * (2 * d) → source d c p < k * (2 * d)
  source-lt k = on-places pos _ at
    where
      at : (J e t : ℕ) → e < 2 → t < d → place_at d J e t < k * (2 * d) → source d c (place_at d J e t) < k * (2 * d)
      at J e t he ht h =
          let f = (e + bit c (J * d + t) + 1) % 2 in
          let l : J * 2 + f < k * 2 = omega (arith, block-lt d J e t k h) in
          omega (arith, source-at d J e t he ht c, digits_lt l ht)
