-- The five operations as halves of the pairs of two words, and these by shifted words. Assumes nothing.
use mathlib.Core.Path.{◌≡◌, refl, ◌∙◌, ap}
use mathlib.Core.Logic.{◌⊎◌, inl, inr}
use mathlib.Core.Bool.{true}
use Prim.Native.Nat.{ℕ, ◌+◌, ◌-◌, ◌*◌, ◌/◌, ◌%◌, ◌^◌, ◌<◌}
use native.Mathlib.Omega.{arith}
use native.Mathlib.Nat.{mod-eq_of_lt, mul-zero, mul-one, pow-zero, div-one}
use Rattle.bits.proofs.Word.{digit}
use Rattle.subwords.specs.Subword.{subword, woven, check_of, exchange_pairs_of, excheck_of, mix_left_of, mix_right_of, is_size}
use Rattle.subwords.specs.declared.Half.{Half}
use Rattle.subwords.specs.declared.Half.TheVariants.{Left, Right}
use Rattle.subwords.specs.Halves.{place_of, halves_of}
use Rattle.subwords.proofs.Sizes.{size-fills}
use Rattle.subwords.proofs.Weaving.{woven-same, subword-up, subword-down}

pub place-lt : (half : Half) → place_of half < 2
place-lt Left = omega arith
place-lt Right = omega arith

module _ (z : ℕ) (size : is_size z ≡ true) where
  -- a half that stands at the other side is brought over by a shift

  to-left : (x : ℕ) {h : ℕ} → (h ≡ 0 → x < 2 ^ 64) → h < 2 → (i : ℕ) → i + 1 < 64 / z → subword z (x * 2 ^ (z * h) % 2 ^ 64) i ≡ subword z x (i + h)
  to-left x {h} b l i n = by (digit h l)
    where
      by : (h ≡ 0) ⊎ (h ≡ 1) → subword z (x * 2 ^ (z * h) % 2 ^ 64) i ≡ subword z x (i + h)
      by (inl e) =
          let k : i + 0 ≡ i = omega arith in
          rw (e, mul-zero z, pow-zero 2, mul-one x, mod-eq_of_lt (b e), k)
      by (inr e) = rw (e, mul-one z) (subword-up z (32 / z) (size-fills z size) x i n)

  to-right : (x : ℕ) {k : ℕ} → k < 2 → (i : ℕ) → i < 64 / z → i % 2 ≡ 1 → subword z (x / 2 ^ (z * (1 - k))) i ≡ subword z x (i - 1 + k)
  to-right x {k} l i n odd = by (digit k l)
    where
      by : (k ≡ 0) ⊎ (k ≡ 1) → subword z (x / 2 ^ (z * (1 - k))) i ≡ subword z x (i - 1 + k)
      by (inl e) =
          let a : i - 1 + 0 ≡ i - 1 = omega arith in
          rw (e, mul-one z, a) (subword-down z (32 / z) (size-fills z size) x i n odd)
      by (inr e) =
          let a : i - 1 + 1 ≡ i = omega arith in
          rw (e, mul-zero z, pow-zero 2, div-one x, a)

  pub halves-shifted : (x : ℕ) {h : ℕ} (y : ℕ) {k : ℕ} → (h ≡ 0 → x < 2 ^ 64) → h < 2 → k < 2
      → woven z (subword z (x * 2 ^ (z * h) % 2 ^ 64)) (subword z (y / 2 ^ (z * (1 - k)))) ≡ halves_of z x h y k
  unfolding halves_of
  halves-shifted x y b hh hk =
      woven-same z (32 / z) (size-fills z size) _ _ _ _ (λ i n e. to-left x b hh i n) (λ i n e. to-right y hk i n e)

  -- the operations

  is-half : (x h y k : ℕ) (l r : ℕ → ℕ) → ((i : ℕ) → i % 2 ≡ 0 → i + h ≡ l i) → ((i : ℕ) → i % 2 ≡ 1 → i - 1 + k ≡ r i)
      → halves_of z x h y k ≡ woven z (λ i. subword z x (l i)) (λ i. subword z y (r i))
  unfolding halves_of
  is-half x h y k l r e f =
      woven-same z (32 / z) (size-fills z size) _ _ _ _ (λ i n o. ap (subword z x) (e i o)) (λ i n o. ap (subword z y) (f i o))

  module _ (x y : ℕ) where
    pub halves-check : halves_of z x 0 y 1 ≡ check_of z x y
    unfolding check_of
    halves-check = is-half x 0 y 1 (λ i. i) (λ i. i) (λ i e. omega arith) (λ i e. omega arith)

    pub halves-excheck : halves_of z y 1 x 0 ≡ excheck_of z x y
    unfolding excheck_of
    halves-excheck = is-half y 1 x 0 (λ i. i + 1) (λ i. i - 1) (λ i e. refl) (λ i e. omega arith)

    pub halves-left : halves_of z x 0 y 0 ≡ mix_left_of z x y
    unfolding mix_left_of
    halves-left = is-half x 0 y 0 (λ i. i) (λ i. i - 1) (λ i e. omega arith) (λ i e. omega arith)

    pub halves-right : halves_of z x 1 y 1 ≡ mix_right_of z x y
    unfolding mix_right_of
    halves-right = is-half x 1 y 1 (λ i. i + 1) (λ i. i) (λ i e. refl) (λ i e. omega arith)

  pub halves-exchange : (x : ℕ) → halves_of z x 1 x 0 ≡ exchange_pairs_of z x
  unfolding exchange_pairs_of
  halves-exchange x = is-half x 1 x 0 (λ i. i + 1) (λ i. i - 1) (λ i e. refl) (λ i e. omega arith)

  -- by a distance of the networks' table
  pub exchanged-by : {d : ℕ} → d ≡ z → (x : ℕ) → woven z (subword z (x * 2 ^ d % 2 ^ 64)) (subword z (x / 2 ^ d)) ≡ exchange_pairs_of z x
  exchanged-by {d} e x =
      let one : d ≡ z * 1 = omega (arith, e) in
      ap (λ (n : ℕ). woven z (subword z (x * 2 ^ n % 2 ^ 64)) (subword z (x / 2 ^ n))) one
      ∙ halves-shifted x {h = 1} x {k = 0} (λ q. absurd (omega arith)) (omega arith) (omega arith)
      ∙ halves-exchange x
