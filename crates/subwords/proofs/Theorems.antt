-- Req 05's theorems on subwords, over every size. Assumes nothing.
use mathlib.Core.Path.{◌≡◌, refl, sym, ◌∙◌, ap, ap₂}
use mathlib.Core.Bool.{true, cond}
use mathlib.Core.List.{[], ◌∷◌}
use mathlib.Core.Logic.{◌⊎◌, inl, inr}
use Prim.Native.Nat.{ℕ, zero, suc, ◌+◌, ◌-◌, ◌*◌, ◌/◌, ◌%◌, ◌^◌, ◌<◌}
use native.Mathlib.Omega.{arith}
use lib.Arith.{digits_lt}
use lib.Dec.{eqb}
use borrow.Author.Tests.{eq-eqb, ne_eqb}
use Rattle.bits.specs.Bit.{bit}
use Rattle.bits.proofs.Word.{digit, bit-of-zero, bit-shr, bit-shl-from, ext}
use Rattle.network.specs.Stage.{switch_of, partner, source, stage}
use Rattle.network.proofs.Index.{place_at, on-places, partner-at}
use Rattle.network.proofs.Travel.{bit-stage, stage-lt}
use Rattle.subwords.specs.Subword.{subword, from_left, woven, check_of, exchange_pairs_of, excheck_of, mix_left_of, mix_right_of, is_size}
use Rattle.subwords.proofs.Sizes.{size-fills}
use Rattle.subwords.proofs.Weaving.{subword-lt, size-pos, subwords-count, in_pairs, woven-same, woven-lt, woven-own, subword-woven, left-woven, right-woven, woven-lower, woven-upper}
use Rattle.subwords.proofs.Words.{exchanged-by}

module _ (z : ℕ) (h : is_size z ≡ true) where
  abbrev fills : 32 / z * (2 * z) ≡ 64
  fills = size-fills z h

  -- each subword of what is woven
  pub woven-subword : (l r : ℕ → ℕ) → ((i : ℕ) → l i < 2 ^ z) → ((i : ℕ) → r i < 2 ^ z) → (i : ℕ) → i < 64 / z
      → subword z (woven z l r) i ≡ cond (eqb (i % 2) 0) (l i) (r i)
  woven-subword l r hl hr i n = subword-woven z (32 / z) fills l r hl hr i n

  even-count : 64 / z ≡ 2 * (32 / z)
  even-count = subwords-count z (32 / z) fills

  -- "Excheck can be described as a composite operation: it performs a check on the two source registers, followed by an exchange operation on the result."
  pub excheck-check : (x y : ℕ) → excheck_of z x y ≡ exchange_pairs_of z (check_of z x y)
  unfolding excheck_of exchange_pairs_of check_of
  excheck-check x y =
      sym (woven-same z (32 / z) fills _ _ _ _
      (λ i n e. right-woven z (32 / z) fills (subword z x) (subword z y) (subword-lt z x) (subword-lt z y) (i + 1) n (omega arith))
      (λ i n o. left-woven z (32 / z) fills (subword z x) (subword z y) (subword-lt z x) (subword-lt z y) (i - 1) (omega arith) (omega arith)))

  -- exchange undoes itself
  pub exchange-twice : {x : ℕ} → x < 2 ^ 64 → exchange_pairs_of z (exchange_pairs_of z x) ≡ x
  unfolding exchange_pairs_of
  exchange-twice {x} b =
      woven-same z (32 / z) fills _ _ (subword z x) (subword z x)
      (λ i n e.
      let k : i + 1 - 1 ≡ i = omega arith in
      right-woven z (32 / z) fills up down (λ j. subword-lt z x (j + 1)) (λ j. subword-lt z x (j - 1)) (i + 1) n (omega arith)
      ∙ ap (subword z x) k)
      (λ i n o.
      let k : i - 1 + 1 ≡ i = omega arith in
      left-woven z (32 / z) fills up down (λ j. subword-lt z x (j + 1)) (λ j. subword-lt z x (j - 1)) (i - 1) (omega arith) (omega arith)
      ∙ ap (subword z x) k)
      ∙ woven-own z (32 / z) fills b
    where
      up : ℕ → ℕ
      up i = subword z x (i + 1)

      down : ℕ → ℕ
      down i = subword z x (i - 1)

  -- Subword i of the first word (w = 0) or of the second (w = 1) stands in mix left for even i, in mix right for odd i, at place i / 2 × 2 + w.
  pub mix-places : (x y w i : ℕ) → w < 2 → i < 64 / z
      → subword z (cond (eqb (i % 2) 0) (mix_left_of z x y) (mix_right_of z x y)) (i / 2 * 2 + w) ≡ subword z (cond (eqb w 0) x y) i
  unfolding mix_left_of mix_right_of
  mix-places x y w i hw hi = by (digit (i % 2) (omega arith)) (digit w hw)
    where
      fit : (v j : ℕ) → subword z v j < 2 ^ z
      fit v j = subword-lt z v j

      first : w ≡ 0 → x ≡ cond (eqb w 0) x y
      first e = rw (eq-eqb w 0 e)

      second : w ≡ 1 → y ≡ cond (eqb w 0) x y
      second e = rw (ne_eqb w 0 (λ q. omega arith))

      in_left : i % 2 ≡ 0 → mix_left_of z x y ≡ cond (eqb (i % 2) 0) (mix_left_of z x y) (mix_right_of z x y)
      in_left e = rw (eq-eqb (i % 2) 0 e)

      in_right : i % 2 ≡ 1 → mix_right_of z x y ≡ cond (eqb (i % 2) 0) (mix_left_of z x y) (mix_right_of z x y)
      in_right e = rw (ne_eqb (i % 2) 0 (λ q. omega arith))

      by : (i % 2 ≡ 0) ⊎ (i % 2 ≡ 1) → (w ≡ 0) ⊎ (w ≡ 1)
          → subword z (cond (eqb (i % 2) 0) (mix_left_of z x y) (mix_right_of z x y)) (i / 2 * 2 + w) ≡ subword z (cond (eqb w 0) x y) i
      by (inl e) (inl f) =
          let q : i / 2 * 2 + w ≡ i = omega arith in
          ap (λ (m : ℕ). subword z m (i / 2 * 2 + w)) (sym (in_left e))
          ∙ left-woven z (32 / z) fills (λ j. subword z x j) (λ j. subword z y (j - 1)) (fit x) (λ j. fit y (j - 1)) (i / 2 * 2 + w) (omega (arith, even-count)) (omega arith)
          ∙ ap₂ (subword z) (first f) q
      by (inl e) (inr f) =
          let q : i / 2 * 2 + w - 1 ≡ i = omega arith in
          ap (λ (m : ℕ). subword z m (i / 2 * 2 + w)) (sym (in_left e))
          ∙ right-woven z (32 / z) fills (λ j. subword z x j) (λ j. subword z y (j - 1)) (fit x) (λ j. fit y (j - 1)) (i / 2 * 2 + w) (omega (arith, even-count)) (omega arith)
          ∙ ap₂ (subword z) (second f) q
      by (inr e) (inl f) =
          let q : i / 2 * 2 + w + 1 ≡ i = omega arith in
          ap (λ (m : ℕ). subword z m (i / 2 * 2 + w)) (sym (in_right e))
          ∙ left-woven z (32 / z) fills (λ j. subword z x (j + 1)) (λ j. subword z y j) (λ j. fit x (j + 1)) (fit y) (i / 2 * 2 + w) (omega (arith, even-count)) (omega arith)
          ∙ ap₂ (subword z) (first f) q
      by (inr e) (inr f) =
          let q : i / 2 * 2 + w ≡ i = omega arith in
          ap (λ (m : ℕ). subword z m (i / 2 * 2 + w)) (sym (in_right e))
          ∙ right-woven z (32 / z) fills (λ j. subword z x (j + 1)) (λ j. subword z y j) (λ j. fit x (j + 1)) (fit y) (i / 2 * 2 + w) (omega (arith, even-count)) (omega arith)
          ∙ ap₂ (subword z) (second f) q

  -- and each place of either mix has just one: subword k / 2 × 2 + m of word k % 2 stands at place k of mix left (m = 0) or right (m = 1)
  pub mix-every : (m k : ℕ) → m < 2 → k < 64 / z → (k / 2 * 2 + m < 64 / z) × ((k / 2 * 2 + m) % 2 ≡ m) × ((k / 2 * 2 + m) / 2 * 2 + k % 2 ≡ k)
  mix-every m k hm hk = (omega (arith, even-count), omega arith, omega arith)

  -- bit by bit: every bit comes from the other half of its pair
  pub bit-pairs-exchanged : (x p : ℕ) → p < 64 → bit (exchange_pairs_of z x) p ≡ bit x (partner z p)
  bit-pairs-exchanged x = on-places (size-pos z (32 / z) fills) _ at
    where
      at : (J e t : ℕ) → e < 2 → t < z → place_at z J e t < 64 → bit (exchange_pairs_of z x) (place_at z J e t) ≡ bit x (partner z (place_at z J e t))
      at J zero t he ht l =
          let p : z + place_at z J 0 t ≡ place_at z J 1 t = omega arith in
          ap (λ (y : ℕ). bit y (place_at z J 0 t)) (sym (exchanged-by z h refl x))
          ∙ woven-lower z (32 / z) fills (x * 2 ^ z % 2 ^ 64) (x / 2 ^ z) J t (in_pairs z (32 / z) fills J 0 t l) ht
          ∙ bit-shr x z (place_at z J 0 t)
          ∙ ap (bit x) (p ∙ sym (partner-at z J 0 t he ht))
      at J (suc zero) t he ht l =
          let p : z + place_at z J 0 t ≡ place_at z J 1 t = omega arith in
          ap (λ (y : ℕ). bit y (place_at z J 1 t)) (sym (exchanged-by z h refl x))
          ∙ woven-upper z (32 / z) fills (x * 2 ^ z % 2 ^ 64) (x / 2 ^ z) J t (in_pairs z (32 / z) fills J 1 t l) ht
          ∙ bit-shl-from x z (place_at z J 1 t) (place_at z J 0 t) l p
          ∙ ap (bit x) (sym (partner-at z J 1 t he ht))
      at J (suc (suc e)) t he ht l = absurd (omega arith)

  pub partner-lt : (p : ℕ) → p < 64 → partner z p < 64
  partner-lt = on-places (size-pos z (32 / z) fills) _ at
    where
      at : (J e t : ℕ) → e < 2 → t < z → place_at z J e t < 64 → partner z (place_at z J e t) < 64
      at J e t he ht l =
          let n : J * 2 + (1 - e) < 2 * (32 / z) = omega (arith, in_pairs z (32 / z) fills J e t l) in
          omega (arith, partner-at z J e t he ht, digits_lt n ht, fills)

  pub pairs-exchanged-lt : (x : ℕ) → exchange_pairs_of z x < 2 ^ 64
  unfolding exchange_pairs_of
  pairs-exchanged-lt x = woven-lt z (32 / z) fills _ _ (λ i. subword-lt z x (i + 1)) (λ i. subword-lt z x (i - 1))

  -- Exchange at size z is the stage of distance z with controls of zero.
  pub exchange-is-stage : (x : ℕ) → exchange_pairs_of z x ≡ stage 64 z 0 x
  unfolding source
  exchange-is-stage x =
      ext 64 (pairs-exchanged-lt x) (stage-lt 64 z 0 x) (λ p l. bit-pairs-exchanged x p l ∙ ap (bit x) (sym (source-zero p)) ∙ sym (bit-stage 64 z 0 x p l))
    where
      source-zero : (p : ℕ) → source z 0 p ≡ partner z p
      source-zero p = rw (bit-of-zero (switch_of z p))

-- two subwords that stand at one place of one mix are the same
pub mix-once : (w i w' i' : ℕ) → w < 2 → w' < 2 → i % 2 ≡ i' % 2 → i / 2 * 2 + w ≡ i' / 2 * 2 + w' → (w ≡ w') × (i ≡ i')
mix-once w i w' i' hw hw' m k = (omega arith, omega arith)

-- Tables 1 and 2 of document 002, a letter for each byte: "R1 = a b c d e f g h", "R2 = A B C D E F G H"

abbrev R1 : ℕ
R1 = 0x6162636465666768

abbrev R2 : ℕ
R2 = 0x4142434445464748

pub table-1 :
    mix_left_of 8 R1 R2 ∷ mix_right_of 8 R1 R2 ∷ mix_left_of 16 R1 R2 ∷ mix_right_of 16 R1 R2 ∷ mix_left_of 32 R1 R2 ∷ mix_right_of 32 R1 R2 ∷ []
    ≡ 0x6141634365456747 ∷ 0x6242644466466848 ∷ 0x6162414265664546 ∷ 0x6364434467684748 ∷ 0x6162636441424344 ∷ 0x6566676845464748 ∷ []
unfolding mix_left_of mix_right_of woven from_left subword
table-1 = refl

pub table-2 :
    check_of 8 R1 R2 ∷ check_of 16 R1 R2 ∷ check_of 32 R1 R2
    ∷ exchange_pairs_of 8 R1 ∷ exchange_pairs_of 16 R1 ∷ exchange_pairs_of 32 R1
    ∷ excheck_of 8 R1 R2 ∷ excheck_of 16 R1 R2 ∷ excheck_of 32 R1 R2 ∷ []
    ≡ 0x6142634465466748 ∷ 0x6162434465664748 ∷ 0x6162636445464748
    ∷ 0x6261646366656867 ∷ 0x6364616267686566 ∷ 0x6566676861626364
    ∷ 0x4261446346654867 ∷ 0x4344616247486566 ∷ 0x4546474861626364 ∷ []
unfolding check_of exchange_pairs_of excheck_of woven from_left subword
table-2 = refl
