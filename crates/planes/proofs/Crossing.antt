-- The second and the third of every four halves change places: by shifts and masks, and as what takes halves by turns to fields twice as wide.
-- Assumes nothing.
use mathlib.Core.Path.{◌≡◌, sym, ◌∙◌, ap, ap₂, subst}
use mathlib.Core.Bool.{cond}
use Prim.Native.Nat.{ℕ, zero, suc, ◌+◌, ◌-◌, ◌*◌, ◌/◌, ◌%◌, ◌^◌, ◌<◌, ◌≤◌, min, max}
use native.Mathlib.Omega.{arith}
use native.Mathlib.Nat.{mod-lt, mul-le-mul_right}
use lib.Arith.{digits_mod, digits_lt}
use lib.Bits.{bit_and, bit_or, and_le_l, and_le_r, and_self, or_lt}
use lib.Dec.{eqb}
use lib.Pow.{pow_pos}
use Rattle.bits.specs.Bit.{bit}
use Rattle.bits.proofs.Word.{bit-lt, bit-and, bit-or, bit_not, bit-mod-two, bit-shr, bit-shl-below, bit-shl-from, bit-of_bits, of_bits-lt, ext}
use Rattle.network.specs.Word.{pairs}
use Rattle.network.proofs.Index.{place_at, on-places, half_of, block-lt}
use Rattle.network.proofs.PairsExchanged.{lower-lt, bit-lower, bit-upper}
use Rattle.planes.specs.Rounds.{by_turns, cross_place, crossed_of}
use Rattle.planes.proofs.KeptHalves.{bit-turns, turns-lt}

-- half f of field e of the two fields of block K
abbrev half_at : ℕ → ℕ → ℕ → ℕ → ℕ → ℕ
half_at h K e f t = place_at h (K * 2 + e) f t

on-halves : {h : ℕ} → 0 < h → (P : ℕ → Type 0) → ((K e f t : ℕ) → e < 2 → f < 2 → t < h → P (half_at h K e f t)) → (p : ℕ) → P p
on-halves {h} pos P g =
    on-places pos P
    (λ J f t hf ht.
    let n : J / 2 * 2 + J % 2 ≡ J = omega arith in
    subst (λ (j : ℕ). P (place_at h j f t)) n (g (J / 2) (J % 2) f t (omega arith) hf ht))

cross_at : (h K e f t : ℕ) → e < 2 → f < 2 → t < h → cross_place h (half_at h K e f t) ≡ half_at h K f e t
cross_at h K e f t he hf ht =
    let n = half_of h (K * 2 + e) f t hf ht in
    let m : half_at h K e f t / h / 2 ≡ K * 2 + e = omega (arith, n) in
    let a : half_at h K e f t / h / 2 / 2 ≡ K = omega (arith, m) in
    let b : half_at h K e f t / h % 2 ≡ f = omega (arith, n) in
    let c : half_at h K e f t / h / 2 % 2 ≡ e = omega (arith, m) in
    rw (a, b, c, digits_mod ((K * 2 + e) * 2 + f) ht)

bit-crossed : (h x K e f t : ℕ) → e < 2 → f < 2 → t < h → half_at h K e f t < 64 → bit (crossed_of h x) (half_at h K e f t) ≡ bit x (half_at h K f e t)
unfolding crossed_of
bit-crossed h x K e f t he hf ht l =
    bit-of_bits 64 (λ p. bit x (cross_place h p)) (half_at h K e f t) l
    ∙ bit-mod-two x (cross_place h (half_at h K e f t))
    ∙ ap (bit x) (cross_at h K e f t he hf ht)

crossed-lt : (h x : ℕ) → crossed_of h x < 2 ^ 64
unfolding crossed_of
crossed-lt h x = of_bits-lt 64 (λ p. bit x (cross_place h p))

-- by shifts and masks

module _ (h : ℕ) (pos : 0 < h) (x : ℕ) (fits : x < 2 ^ 64) where
  abbrev inner : ℕ
  inner = bit_and (pairs (2 * h)) ((2 ^ 64 - 1) - pairs h)

  abbrev marks : ℕ
  marks = bit_or inner (inner * 2 ^ h % 2 ^ 64)

  abbrev outer : ℕ
  outer = bit_and x ((2 ^ 64 - 1) - marks)

  abbrev lowered : ℕ
  lowered = bit_and (x / 2 ^ h) inner

  abbrev raised : ℕ
  raised = bit_and x inner * 2 ^ h % 2 ^ 64

  -- the high half of the first field is marked in `inner`, no other

  wide : (K e f t : ℕ) → e < 2 → f < 2 → t < h → half_at h K e f t < 64 → bit (pairs (2 * h)) (half_at h K e f t) ≡ 1 - e
  wide K zero f t he hf ht l =
      let p : place_at (2 * h) K 0 (f * h + t) ≡ half_at h K 0 f t = omega arith in
      ap (bit (pairs (2 * h))) (sym p) ∙ bit-lower (2 * h) (λ p. 1) K (f * h + t) (digits_lt hf ht) (omega (arith, p))
  wide K (suc zero) f t he hf ht l =
      let p : place_at (2 * h) K 1 (f * h + t) ≡ half_at h K 1 f t = omega arith in
      ap (bit (pairs (2 * h))) (sym p) ∙ bit-upper (2 * h) (λ p. 1) K (f * h + t) (digits_lt hf ht) (omega (arith, p))
  wide K (suc (suc e)) f t he hf ht l = absurd (omega arith)

  narrow : (J f t : ℕ) → f < 2 → t < h → place_at h J f t < 64 → bit (pairs h) (place_at h J f t) ≡ 1 - f
  narrow J zero t hf ht l = bit-lower h (λ p. 1) J t ht l
  narrow J (suc zero) t hf ht l = bit-upper h (λ p. 1) J t ht l
  narrow J (suc (suc f)) t hf ht l = absurd (omega arith)

  bit-inner : (K e f t : ℕ) → e < 2 → f < 2 → t < h → half_at h K e f t < 64 → bit inner (half_at h K e f t) ≡ min (1 - e) f
  bit-inner K e f t he hf ht l =
      let p = half_at h K e f t in
      let n : bit ((2 ^ 64 - 1) - pairs h) p ≡ f = bit_not 64 {x = pairs h} p (lower-lt h (λ p. 1)) l ∙ omega (arith, narrow (K * 2 + e) f t hf ht l) in
      bit-and (pairs (2 * h)) ((2 ^ 64 - 1) - pairs h) p ∙ ap₂ (λ (a b : ℕ). min a b) (wide K e f t he hf ht l) n

  inner-lt : inner < 2 ^ 64
  inner-lt = omega (arith, and_le_l (pairs (2 * h)) ((2 ^ 64 - 1) - pairs h), lower-lt (2 * h) (λ p. 1))

  -- raised by h, what `inner` marks of a word stands at the low half of the second field, and nowhere else

  module _ (z : ℕ) where
    abbrev up : ℕ
    up = bit_and z inner * 2 ^ h % 2 ^ 64

    up_from : (K e f t L a b : ℕ) → a < 2 → b < 2 → t < h → half_at h K e f t < 64 → h + half_at h L a b t ≡ half_at h K e f t
        → bit up (half_at h K e f t) ≡ min (bit z (half_at h L a b t)) (min (1 - a) b)
    up_from K e f t L a b ha hb ht l q =
        bit-shl-from (bit_and z inner) h (half_at h K e f t) (half_at h L a b t) l q
        ∙ bit-and z inner (half_at h L a b t)
        ∙ ap (λ (m : ℕ). min (bit z (half_at h L a b t)) m) (bit-inner L a b t ha hb ht (omega (arith, q)))

    up-high : (K e t : ℕ) → e < 2 → t < h → half_at h K e 1 t < 64 → bit up (half_at h K e 1 t) ≡ 0
    up-high K e t he ht l =
        let q : h + half_at h K e 0 t ≡ half_at h K e 1 t = omega arith in up_from K e 1 t K e 0 he (omega arith) ht l q ∙ omega arith

    up_first : (K t : ℕ) → t < h → half_at h K 0 0 t < 64 → bit up (half_at h K 0 0 t) ≡ 0
    up_first zero t ht l = bit-shl-below (bit_and z inner) h (half_at h 0 0 0 t) l (omega arith)
    up_first (suc K) t ht l =
        let q : h + half_at h K 1 1 t ≡ half_at h (suc K) 0 0 t = omega arith in
        up_from (suc K) 0 0 t K 1 1 (omega arith) (omega arith) ht l q ∙ omega arith

    up_second : (K t : ℕ) → t < h → half_at h K 1 0 t < 64 → bit up (half_at h K 1 0 t) ≡ bit z (half_at h K 0 1 t)
    up_second K t ht l =
        let q : h + half_at h K 0 1 t ≡ half_at h K 1 0 t = omega arith in
        up_from K 1 0 t K 0 1 (omega arith) (omega arith) ht l q ∙ omega (arith, bit-lt z (half_at h K 0 1 t))

  abbrev shifted : ℕ
  shifted = inner * 2 ^ h % 2 ^ 64

  -- `inner` is what it marks of itself
  bit_shifted : (K e f t s : ℕ) → bit (up inner) (half_at h K e f t) ≡ s → bit shifted (half_at h K e f t) ≡ s
  bit_shifted K e f t s q = ap (λ (i : ℕ). bit (i * 2 ^ h % 2 ^ 64) (half_at h K e f t)) (sym (and_self inner)) ∙ q

  bit-whole : (K e f t s r : ℕ) → e < 2 → f < 2 → t < h → half_at h K e f t < 64 → bit (up inner) (half_at h K e f t) ≡ s → bit raised (half_at h K e f t) ≡ r
      → bit (bit_or (bit_or outer lowered) raised) (half_at h K e f t)
      ≡ max (max (min (bit x (half_at h K e f t)) (1 - max (min (1 - e) f) s)) (min (bit x (h + half_at h K e f t)) (min (1 - e) f))) r
  bit-whole K e f t s r he hf ht l es er =
      let p = half_at h K e f t in
      let i = bit-inner K e f t he hf ht l in
      let m : bit marks p ≡ max (min (1 - e) f) s = bit-or inner shifted p ∙ ap₂ (λ (a b : ℕ). max a b) i (bit_shifted K e f t s es) in
      let o : bit outer p ≡ min (bit x p) (1 - max (min (1 - e) f) s) =
      bit-and x ((2 ^ 64 - 1) - marks) p
      ∙ ap (λ (b : ℕ). min (bit x p) b) (bit_not 64 {x = marks} p (or_lt 64 inner shifted inner-lt (mod-lt (inner * 2 ^ h) (pow_pos 64))) l ∙ ap (λ (b : ℕ). 1 - b) m)
      in
      let d : bit lowered p ≡ min (bit x (h + p)) (min (1 - e) f) = bit-and (x / 2 ^ h) inner p ∙ ap₂ (λ (a b : ℕ). min a b) (bit-shr x h p) i in
      bit-or (bit_or outer lowered) raised p
      ∙ ap₂ (λ (a b : ℕ). max a b) (bit-or outer lowered p ∙ ap₂ (λ (a b : ℕ). max a b) o d) er

  at-halves : (K e f t : ℕ) → e < 2 → f < 2 → t < h → half_at h K e f t < 64 → bit (bit_or (bit_or outer lowered) raised) (half_at h K e f t) ≡ bit x (half_at h K f e t)
  at-halves K zero zero t he hf ht l =
      bit-whole K 0 0 t 0 0 he hf ht l (up_first inner K t ht l) (up_first x K t ht l) ∙ omega (arith, bit-lt x (half_at h K 0 0 t))
  at-halves K zero (suc zero) t he hf ht l =
      let q : h + half_at h K 0 1 t ≡ half_at h K 1 0 t = omega arith in
      bit-whole K 0 1 t 0 0 he hf ht l (up-high inner K 0 t he ht l) (up-high x K 0 t he ht l) ∙ omega (arith, ap (bit x) q, bit-lt x (half_at h K 1 0 t))
  at-halves K (suc zero) zero t he hf ht l =
      let q : h + half_at h K 0 1 t ≡ half_at h K 1 0 t = omega arith in
      let i = bit-inner K 0 1 t (omega arith) (omega arith) ht (omega (arith, q)) in
      bit-whole K 1 0 t 1 (bit x (half_at h K 0 1 t)) he hf ht l (up_second inner K t ht l ∙ i) (up_second x K t ht l) ∙ omega (arith, bit-lt x (half_at h K 0 1 t))
  at-halves K (suc zero) (suc zero) t he hf ht l =
      bit-whole K 1 1 t 0 0 he hf ht l (up-high inner K 1 t he ht l) (up-high x K 1 t he ht l) ∙ omega (arith, bit-lt x (half_at h K 1 1 t))
  at-halves K zero (suc (suc f)) t he hf ht l = absurd (omega arith)
  at-halves K (suc zero) (suc (suc f)) t he hf ht l = absurd (omega arith)
  at-halves K (suc (suc e)) f t he hf ht l = absurd (omega arith)

  pub crossed-word : bit_or (bit_or outer lowered) raised ≡ crossed_of h x
  crossed-word =
      ext 64 (or_lt 64 (bit_or outer lowered) raised (or_lt 64 outer lowered below-outer below-lowered) (mod-lt (bit_and x inner * 2 ^ h) (pow_pos 64)))
      (crossed-lt h x)
      (on-halves pos _ (λ K e f t he hf ht l. at-halves K e f t he hf ht l ∙ sym (bit-crossed h x K e f t he hf ht l)))
    where
      below-outer : outer < 2 ^ 64
      below-outer = omega (arith, and_le_l x ((2 ^ 64 - 1) - marks))

      below-lowered : lowered < 2 ^ 64
      below-lowered = omega (arith, and_le_r (x / 2 ^ h) inner, inner-lt)

-- what it does to halves by turns, where k times four halves fill a word

module _ (h k : ℕ) (pos : 0 < h) (fill : k * (2 * (2 * h)) ≡ 64) (x y : ℕ) where
  -- the halves of one block lie in the word together
  inside : (K e f t a b : ℕ) → a < 2 → b < 2 → t < h → half_at h K e f t < 64 → half_at h K a b t < 64
  inside K e f t a b ha hb ht l =
      let p : place_at (2 * h) K e (f * h + t) ≡ half_at h K e f t = omega arith in
      let j : K + 1 ≤ k = omega (arith, block-lt (2 * h) K e (f * h + t) k (omega (arith, fill, p))) in
      let d : a * 2 + b < 4 = omega arith in
      omega (arith, fill, mul-le-mul_right (2 * (2 * h)) j, digits_lt d ht)

  wider-at : (K e f t : ℕ) → e < 2 → f < 2 → t < h → half_at h K e f t < 64
      → bit (by_turns (2 * h) x y) (half_at h K e f t) ≡ bit (cond (eqb e 0) x y) ((K * 2 + f) * h + t)
  wider-at K e f t he hf ht l =
      let p : place_at (2 * h) K e (f * h + t) ≡ half_at h K e f t = omega arith in
      let q : K * (2 * h) + (f * h + t) ≡ (K * 2 + f) * h + t = omega arith in
      ap (bit (by_turns (2 * h) x y)) (sym p)
      ∙ bit-turns (2 * h) x y K e (f * h + t) he (digits_lt hf ht) (omega (arith, p))
      ∙ ap (bit (cond (eqb e 0) x y)) q

  pub turns-wider : crossed_of h (by_turns h x y) ≡ by_turns (2 * h) x y
  turns-wider =
      ext 64 (crossed-lt h (by_turns h x y)) (turns-lt (2 * h) x y)
      (on-halves pos _
      (λ K e f t he hf ht l.
      bit-crossed h (by_turns h x y) K e f t he hf ht l
      ∙ bit-turns h x y (K * 2 + f) e t he ht (inside K e f t f e hf he ht l)
      ∙ sym (wider-at K e f t he hf ht l)))
