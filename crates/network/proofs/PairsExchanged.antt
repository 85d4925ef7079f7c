-- A stage on a whole word: pairs exchanged under a word of swaps, and the control bits of a stage spread to the lower places of its pairs. Assumes nothing.
use mathlib.Core.Path.{◌≡◌, refl, sym, ◌∙◌, ap}
use mathlib.Core.Logic.{◌⊎◌, inl, inr}
use mathlib.Core.Bool.{Bool, cond}
use Prim.Native.Nat.{ℕ, zero, suc, ◌+◌, ◌-◌, ◌*◌, ◌/◌, ◌%◌, ◌^◌, ◌<◌, ◌≤◌, max}
use native.Mathlib.Omega.{arith}
use native.Mathlib.Decide.{dec_lt}
use lib.Dec.{eqb}
use lib.Bits.{bit_and, bit_or, and_le_l, and_le_r}
use lib.Pow.{pow_mono}
use borrow.Author.Tests.{eq-eqb, ne_eqb}
use Rattle.bits.specs.Bit.{bit}
use Rattle.bits.proofs.Word.{digit, bit-lt, bit-cases, bit-mod-two, bit-and, bit-or, bit_not, bit-shl-below, bit-shl-from, bit-above, bit-of_bits, of_bits-lt, ext}
use Rattle.network.specs.Stage.{switch_of, source, stage}
use Rattle.network.specs.Word.{at_lower, pairs, spread_of, swaps_of, exchange_of}
use Rattle.network.proofs.Index.{place_at, on-places, side-of, switch-at, source-at}
use Rattle.network.proofs.Travel.{bit-stage, stage-lt}
use Rattle.network.proofs.MarkedBits.{at-marked, at_above, at_other, exchanged-lt}

shl-above : (x d q : ℕ) → d + q < 64 → bit (x * 2 ^ d % 2 ^ 64) (d + q) ≡ bit x q
shl-above x d q h = bit-shl-from x d (d + q) q h refl

-- a word of lower places

module _ (d : ℕ) (f : ℕ → ℕ) where
  pub lower-lt : at_lower d f < 2 ^ 64
  unfolding at_lower
  lower-lt = of_bits-lt 64 (λ p. cond (eqb (p / d % 2) 0) (f p) 0)

  module _ (J t : ℕ) (h : t < d) where
    pub bit-lower : place_at d J 0 t < 64 → bit (at_lower d f) (place_at d J 0 t) ≡ f (place_at d J 0 t) % 2
    unfolding at_lower
    bit-lower l =
        bit-of_bits 64 (λ p. cond (eqb (p / d % 2) 0) (f p) 0) (place_at d J 0 t) l
        ∙ ap (λ (b : Bool). cond b (f (place_at d J 0 t)) 0 % 2) (eq-eqb (place_at d J 0 t / d % 2) 0 (side-of d J 0 t (omega arith) h))

    pub bit-upper : place_at d J 1 t < 64 → bit (at_lower d f) (place_at d J 1 t) ≡ 0
    unfolding at_lower
    bit-upper l =
        bit-of_bits 64 (λ p. cond (eqb (p / d % 2) 0) (f p) 0) (place_at d J 1 t) l
        ∙ ap (λ (b : Bool). cond b (f (place_at d J 1 t)) 0 % 2)
        (ne_eqb (place_at d J 1 t / d % 2) 0 (λ e. omega (arith, side-of d J 1 t (omega arith) h)))

module _ (d c J t : ℕ) (h : t < d) where
  pub bit-spread : place_at d J 0 t < 64 → bit (spread_of d c) (place_at d J 0 t) ≡ bit c (J * d + t)
  unfolding spread_of
  bit-spread l =
      bit-lower d (λ p. bit c (switch_of d p)) J t h l
      ∙ bit-mod-two c (switch_of d (place_at d J 0 t))
      ∙ ap (bit c) (switch-at d J 0 t (omega arith) h)

  pub bit-spread-upper : place_at d J 1 t < 64 → bit (spread_of d c) (place_at d J 1 t) ≡ 0
  unfolding spread_of
  bit-spread-upper l = bit-upper d (λ p. bit c (switch_of d p)) J t h l

-- The exchange is the stage.

module _ (d c J t : ℕ) (h : t < d) where
  bit-swaps : place_at d J 0 t < 64 → bit (swaps_of d c) (place_at d J 0 t) ≡ 1 - bit c (J * d + t)
  unfolding spread_of swaps_of
  bit-swaps l =
      bit-and (pairs d) ((2 ^ 64 - 1) - spread_of d c) (place_at d J 0 t)
      ∙ omega (
        arith,
        bit-lower d (λ p. 1) J t h l,
        bit_not 64 {x = spread_of d c} (place_at d J 0 t) (lower-lt d (λ p. bit c (switch_of d p))) l,
        bit-spread d c J t h l,
      )

  bit-swaps-upper : place_at d J 1 t < 64 → bit (swaps_of d c) (place_at d J 1 t) ≡ 0
  unfolding swaps_of
  bit-swaps-upper l =
      bit-and (pairs d) ((2 ^ 64 - 1) - spread_of d c) (place_at d J 1 t) ∙ omega (arith, bit-upper d (λ p. 1) J t h l)

swaps-lt : (d c : ℕ) → swaps_of d c < 2 ^ 64
unfolding swaps_of
swaps-lt d c = omega (arith, and_le_l (pairs d) ((2 ^ 64 - 1) - spread_of d c), lower-lt d (λ p. 1))

module _ (d c : ℕ) (pos : 0 < d) where
  -- above a lower place is an upper one, which is not marked; so is what lies below it
  upper-free : (J t : ℕ) → t < d → bit (swaps_of d c) (place_at d J 1 t) ≡ 0
  upper-free J t h = by (dec_lt (place_at d J 1 t) 64)
    where
      by : Dec (place_at d J 1 t < 64) → bit (swaps_of d c) (place_at d J 1 t) ≡ 0
      by (yes l) = bit-swaps-upper d c J t h l
      by (no n) = bit-above {w = 64} (place_at d J 1 t) (swaps-lt d c) (omega arith)

  below_free : (J t : ℕ) → t < d → d ≤ place_at d J 0 t → bit (swaps_of d c) (place_at d J 0 t - d) ≡ 0
  below_free zero t h l = absurd (omega arith)
  below_free (suc J) t h l = let q : place_at d (suc J) 0 t - d ≡ place_at d J 1 t = omega arith in ap (bit (swaps_of d c)) q ∙ upper-free J t h

  swaps-once : (p : ℕ) → bit (swaps_of d c) p ≡ 1 → bit (swaps_of d c) (p + d) ≡ 0
  swaps-once = on-places pos _ at
    where
      at : (J e t : ℕ) → e < 2 → t < d → bit (swaps_of d c) (place_at d J e t) ≡ 1 → bit (swaps_of d c) (place_at d J e t + d) ≡ 0
      at J zero t he h o = let q : place_at d J 0 t + d ≡ place_at d J 1 t = omega arith in ap (bit (swaps_of d c)) q ∙ upper-free J t h
      at J (suc zero) t he h o = absurd (omega (arith, upper-free J t h))
      at J (suc (suc e)) t he h o = absurd (omega arith)

  module _ (x : ℕ) where
    exchanged-at : (J e t : ℕ) → e < 2 → t < d → place_at d J e t < 64
        → bit (exchange_of d (swaps_of d c) x) (place_at d J e t) ≡ bit x (place_at d J ((e + bit c (J * d + t) + 1) % 2) t)
    exchanged-at J zero t he h l = by (bit-cases c (J * d + t))
      where
        by : (bit c (J * d + t) ≡ 0) ⊎ (bit c (J * d + t) ≡ 1)
            → bit (exchange_of d (swaps_of d c) x) (place_at d J 0 t) ≡ bit x (place_at d J ((0 + bit c (J * d + t) + 1) % 2) t)
        by (inl z) =
            let q : place_at d J 0 t + d ≡ place_at d J ((0 + bit c (J * d + t) + 1) % 2) t = rw z (omega arith) in
            at-marked d (swaps_of d c) swaps-once x (place_at d J 0 t) l (omega (arith, bit-swaps d c J t h l)) ∙ ap (bit x) q
        by (inr o) =
            let q : place_at d J 0 t ≡ place_at d J ((0 + bit c (J * d + t) + 1) % 2) t = rw o (omega arith) in
            at_other d (swaps_of d c) swaps-once x (place_at d J 0 t) l (omega (arith, bit-swaps d c J t h l)) (below_free J t h) ∙ ap (bit x) q
    exchanged-at J (suc zero) t he h l = by (bit-cases c (J * d + t))
      where
        lower : bit (swaps_of d c) (place_at d J 1 t - d) ≡ 1 - bit c (J * d + t)
        lower = let q : place_at d J 1 t - d ≡ place_at d J 0 t = omega arith in ap (bit (swaps_of d c)) q ∙ bit-swaps d c J t h (omega arith)

        by : (bit c (J * d + t) ≡ 0) ⊎ (bit c (J * d + t) ≡ 1)
            → bit (exchange_of d (swaps_of d c) x) (place_at d J 1 t) ≡ bit x (place_at d J ((1 + bit c (J * d + t) + 1) % 2) t)
        by (inl z) =
            let q : place_at d J 1 t - d ≡ place_at d J ((1 + bit c (J * d + t) + 1) % 2) t = rw z (omega arith) in
            at_above d (swaps_of d c) swaps-once x (place_at d J 1 t) l (upper-free J t h) (omega arith) (omega (arith, lower)) ∙ ap (bit x) q
        by (inr o) =
            let q : place_at d J 1 t ≡ place_at d J ((1 + bit c (J * d + t) + 1) % 2) t = rw o (omega arith) in
            at_other d (swaps_of d c) swaps-once x (place_at d J 1 t) l (upper-free J t h) (λ k. omega (arith, lower)) ∙ ap (bit x) q
    exchanged-at J (suc (suc e)) t he h l = absurd (omega arith)

pub exchange-stage : (d c x : ℕ) → 0 < d → x < 2 ^ 64 → exchange_of d (swaps_of d c) x ≡ stage 64 d c x
exchange-stage d c x pos h =
    ext 64 (exchanged-lt d (swaps_of d c) (swaps-lt d c) h) (stage-lt 64 d c x) (λ p l. same p l ∙ sym (bit-stage 64 d c x p l))
  where
    same : (p : ℕ) → p < 64 → bit (exchange_of d (swaps_of d c) x) p ≡ bit x (source d c p)
    same = on-places pos _ (λ J e t he ht l. exchanged-at d c pos x J e t he ht l ∙ ap (bit x) (sym (source-at d J e t he ht c)))

-- Spreading.

pub spread-lt : (d c : ℕ) → spread_of d c < 2 ^ 64
unfolding spread_of
spread-lt d c = lower-lt d (λ p. bit c (switch_of d p))

-- no more control bits than the distance stand at its lower places already
pub spread_none : {d c : ℕ} → 0 < d → d ≤ 32 → c < 2 ^ d → spread_of d c ≡ c
spread_none {d} {c} pos wide h = ext 64 (spread-lt d c) (omega (arith, pow_mono wide)) (on-places {d = d} pos _ at)
  where
    above : (p : ℕ) → d ≤ p → 0 ≡ bit c p
    above p l = sym (bit-above {w = d} p h l)

    at : (J e t : ℕ) → e < 2 → t < d → place_at d J e t < 64 → bit (spread_of d c) (place_at d J e t) ≡ bit c (place_at d J e t)
    at zero zero t he ht l = let p : 0 * d + t ≡ place_at d 0 0 t = omega arith in bit-spread d c 0 t ht l ∙ ap (bit c) p
    at (suc J) zero t he ht l =
        bit-spread d c (suc J) t ht l ∙ sym (above (suc J * d + t) (omega arith)) ∙ above (place_at d (suc J) 0 t) (omega arith)
    at J (suc zero) t he ht l = bit-spread-upper d c J t ht l ∙ above (place_at d J 1 t) (omega arith)
    at J (suc (suc e)) t he ht l = absurd (omega arith)

module _ (d c : ℕ) where
  abbrev wider : ℕ
  wider = spread_of (2 * d) c

  abbrev moved : ℕ
  moved = wider * 2 ^ d % 2 ^ 64

  -- an even block is the lower half of a wider one, and nothing moves onto it

  own-even : (K t : ℕ) → t < d → place_at d (2 * K) 0 t < 64 → bit wider (place_at d (2 * K) 0 t) ≡ bit c (2 * K * d + t)
  own-even K t h l =
      let p : place_at (2 * d) K 0 t ≡ place_at d (2 * K) 0 t = omega arith in
      let s : K * (2 * d) + t ≡ 2 * K * d + t = omega arith in
      ap (bit wider) (sym p) ∙ bit-spread (2 * d) c K t (omega arith) (omega (arith, p)) ∙ ap (bit c) s

  moved-even : (K t : ℕ) → t < d → place_at d (2 * K) 0 t < 64 → bit moved (place_at d (2 * K) 0 t) ≡ 0
  moved-even zero t h l = bit-shl-below wider d (place_at d 0 0 t) l (omega arith)
  moved-even (suc K) t h l =
      let q : d + place_at (2 * d) K 1 (d + t) ≡ place_at d (2 * suc K) 0 t = omega arith in
      ap (bit moved) (sym q)
      ∙ shl-above wider d (place_at (2 * d) K 1 (d + t)) (omega (arith, q))
      ∙ bit-spread-upper (2 * d) c K (d + t) (omega arith) (omega (arith, q))

  -- an odd one is an upper half, and the offsets from d up of the lower half move onto it

  own-odd : (K t : ℕ) → t < d → place_at d (2 * K + 1) 0 t < 64 → bit wider (place_at d (2 * K + 1) 0 t) ≡ 0
  own-odd K t h l =
      let p : place_at (2 * d) K 1 t ≡ place_at d (2 * K + 1) 0 t = omega arith in
      ap (bit wider) (sym p) ∙ bit-spread-upper (2 * d) c K t (omega arith) (omega (arith, p))

  moved-odd : (K t : ℕ) → t < d → place_at d (2 * K + 1) 0 t < 64 → bit moved (place_at d (2 * K + 1) 0 t) ≡ bit c ((2 * K + 1) * d + t)
  moved-odd K t h l =
      let q : d + place_at (2 * d) K 0 (d + t) ≡ place_at d (2 * K + 1) 0 t = omega arith in
      let s : K * (2 * d) + (d + t) ≡ (2 * K + 1) * d + t = omega arith in
      ap (bit moved) (sym q)
      ∙ shl-above wider d (place_at (2 * d) K 0 (d + t)) (omega (arith, q))
      ∙ bit-spread (2 * d) c K (d + t) (omega arith) (omega (arith, q))
      ∙ ap (bit c) s

  both : (J t : ℕ) → t < d → place_at d J 0 t < 64 → max (bit wider (place_at d J 0 t)) (bit moved (place_at d J 0 t)) ≡ bit c (J * d + t)
  both J t h l = by-parity (digit (J % 2) (omega arith))
    where
      by-parity : (J % 2 ≡ 0) ⊎ (J % 2 ≡ 1) → max (bit wider (place_at d J 0 t)) (bit moved (place_at d J 0 t)) ≡ bit c (J * d + t)
      by-parity (inl z) =
          let e : J ≡ 2 * (J / 2) = omega arith in
          let k = rw e at l in
          rw e (omega (arith, own-even (J / 2) t h k, moved-even (J / 2) t h k))
      by-parity (inr o) =
          let e : J ≡ 2 * (J / 2) + 1 = omega arith in
          let k = rw e at l in
          rw e (omega (arith, own-odd (J / 2) t h k, moved-odd (J / 2) t h k))

  -- one stage further down: each half of a block goes to the lower half of a block of its own
  pub spread-step : 0 < d → bit_and (bit_or wider moved) (pairs d) ≡ spread_of d c
  spread-step pos =
      ext 64 (omega (arith, and_le_r (bit_or wider moved) (pairs d), lower-lt d (λ p. 1))) (spread-lt d c) (on-places pos _ at)
    where
      at : (J e t : ℕ) → e < 2 → t < d → place_at d J e t < 64
          → bit (bit_and (bit_or wider moved) (pairs d)) (place_at d J e t) ≡ bit (spread_of d c) (place_at d J e t)
      at J zero t he h l =
          bit-and (bit_or wider moved) (pairs d) (place_at d J 0 t)
          ∙ omega (arith, bit-or wider moved (place_at d J 0 t), bit-lower d (λ p. 1) J t h l, both J t h l, bit-spread d c J t h l, bit-lt c (J * d + t))
      at J (suc zero) t he h l =
          bit-and (bit_or wider moved) (pairs d) (place_at d J 1 t)
          ∙ omega (arith, bit-upper d (λ p. 1) J t h l, bit-spread-upper d c J t h l)
      at J (suc (suc e)) t he h l = absurd (omega arith)
