-- The route of a bit through the butterfly: each stage chooses one bit of the place.
-- Assumes nothing.
use mathlib.Core.Path.{◌≡◌, refl, sym, ap, ap₂, ◌∙◌}
use mathlib.Core.Bool.{Bool, true, false, not, cond}
use Prim.Native.Nat.{ℕ, zero, suc, ◌+◌, ◌-◌, ◌*◌, ◌/◌, ◌%◌, ◌^◌, ◌≤◌, ◌<◌}
use native.Mathlib.Nat.{pow-suc, add-div_right, add-mod_right, div-eq-sub-div, mod-eq-sub-mod, div-div-eq-div-mul, div-eq_of_lt, div-lt_iff_lt-mul, mod-eq_of_lt, pow-succ'}
use native.Mathlib.Decide.{dec_lt}
use native.Mathlib.Omega.{arith}
use lib.Arith.{mod-mul}
use lib.Dec.{eqb}
use lib.Pow.{pow_pos, mod-mod-pow}
use borrow.Author.Tests.{eqb-true, eqb-false, eq-eqb, ne_eqb}
use Rattle.bits.specs.Bit.{bit}
use Rattle.bits.proofs.Word.{bit-mod}
use Rattle.routing.specs.Stages.{switch_at, partner_at, through, butterfly}
use Rattle.routing.proofs.Through.{odd-above}
use Rattle.alone.specs.Asked.{crossed, straight}

half-above : (e x : ℕ) → x / 2 ^ suc e ≡ x / 2 ^ e / 2
half-above e x = rw pow-suc (sym (div-div-eq-div-mul x (2 ^ e) 2))

-- the other number of an even one and the next
abbrev paired : ℕ → ℕ
paired u = u / 2 * 2 + (1 - u % 2)

-- The partner has bit e changed, and a stage changes no other.
module _ (e x : ℕ) where
  partner-high : partner_at e x / 2 ^ e ≡ paired (x / 2 ^ e)
  unfolding partner_at
  partner-high = go (eqb (x / 2 ^ e % 2) 0) refl
    where
      go : (b : Bool) → eqb (x / 2 ^ e % 2) 0 ≡ b → cond b (x + 2 ^ e) (x - 2 ^ e) / 2 ^ e ≡ paired (x / 2 ^ e)
      go true t = omega (arith, add-div_right x (pow_pos e), eqb-true (x / 2 ^ e % 2) 0 t)
      go false t =
          let odd = eqb-false (x / 2 ^ e % 2) 0 t in
          omega (arith, div-eq-sub-div (pow_pos e) (odd-above e x odd), odd)

  partner-low : partner_at e x % 2 ^ e ≡ x % 2 ^ e
  unfolding partner_at
  partner-low = go (eqb (x / 2 ^ e % 2) 0) refl
    where
      go : (b : Bool) → eqb (x / 2 ^ e % 2) 0 ≡ b → cond b (x + 2 ^ e) (x - 2 ^ e) % 2 ^ e ≡ x % 2 ^ e
      go true t = add-mod_right x (2 ^ e)
      go false t = sym (mod-eq-sub-mod (odd-above e x (eqb-false (x / 2 ^ e % 2) 0 t)))

module _ (e : ℕ) (c : ℕ → Bool) (x : ℕ) where
  through-high : through e c x / 2 ^ e ≡ cond (c (switch_at e x)) (paired (x / 2 ^ e)) (x / 2 ^ e)
  unfolding through
  through-high = go (c (switch_at e x))
    where
      go : (b : Bool) → cond b (partner_at e x) x / 2 ^ e ≡ cond b (paired (x / 2 ^ e)) (x / 2 ^ e)
      go true = partner-high e x
      go false = refl

  through-low : through e c x % 2 ^ e ≡ x % 2 ^ e
  unfolding through
  through-low = go (c (switch_at e x))
    where
      go : (b : Bool) → cond b (partner_at e x) x % 2 ^ e ≡ x % 2 ^ e
      go true = partner-low e x
      go false = refl

  through-above : through e c x / 2 ^ suc e ≡ x / 2 ^ suc e
  through-above = half-above e (through e c x) ∙ go (c (switch_at e x)) through-high ∙ sym (half-above e x)
    where
      go : (b : Bool) → through e c x / 2 ^ e ≡ cond b (paired (x / 2 ^ e)) (x / 2 ^ e) → through e c x / 2 ^ e / 2 ≡ x / 2 ^ e / 2
      go true h = omega arith
      go false h = omega arith

-- the stages below e leave the bits from e up, those from e up leave the bits below
butterfly-high : (e : ℕ) (c : ℕ → ℕ → Bool) (a : ℕ) → butterfly e c a / 2 ^ e ≡ a / 2 ^ e
unfolding butterfly
butterfly-high zero c a = refl
butterfly-high (suc e) c a =
    through-above e (c e) (butterfly e c a)
    ∙ half-above e (butterfly e c a)
    ∙ ap (λ (u : ℕ). u / 2) (butterfly-high e c a)
    ∙ sym (half-above e a)

mod_low : (e n x : ℕ) → e ≤ n → x % 2 ^ n % 2 ^ e ≡ x % 2 ^ e
mod_low e n x l = let q : n ≡ n - e + e = omega arith in ap (λ (m : ℕ). x % 2 ^ m % 2 ^ e) q ∙ mod-mod-pow x (n - e) e

butterfly-low : (n e : ℕ) (c : ℕ → ℕ → Bool) (a : ℕ) → e ≤ n → butterfly n c a % 2 ^ e ≡ butterfly e c a % 2 ^ e
unfolding butterfly
butterfly-low zero e c a l = let q : 0 ≡ e = omega arith in ap (λ (m : ℕ). butterfly m c a % 2 ^ e) q
butterfly-low (suc n) e c a l = go (dec_lt n e) (butterfly-low n e c a)
  where
    go :
        Dec (n < e)
        → (e ≤ n → butterfly n c a % 2 ^ e ≡ butterfly e c a % 2 ^ e)
        → through n (c n) (butterfly n c a) % 2 ^ e ≡ butterfly e c a % 2 ^ e
    go (yes g) ih = let q : suc n ≡ e = omega arith in ap (λ (m : ℕ). butterfly m c a % 2 ^ e) q
    go (no g) ih =
        let h : e ≤ n = omega arith in
        sym (mod_low e n (through n (c n) (butterfly n c a)) h)
        ∙ ap (λ (u : ℕ). u % 2 ^ e) (through-low n (c n) (butterfly n c a))
        ∙ mod_low e n (butterfly n c a) h
        ∙ ih h

-- a bit with the low bits of b stands at the switch of its route
at-switch :
    (c : ℕ → ℕ → Bool) (a b e : ℕ)
    → butterfly e c a % 2 ^ e ≡ b % 2 ^ e
    → switch_at e (butterfly e c a) ≡ crossed e a b
unfolding switch_at crossed
at-switch c a b e low =
    let q : butterfly e c a / 2 ^ suc e ≡ a / 2 ^ suc e =
    half-above e (butterfly e c a) ∙ ap (λ (u : ℕ). u / 2) (butterfly-high e c a) ∙ sym (half-above e a)
    in
    ap₂ (λ (j t : ℕ). j * 2 ^ e + t) q low

-- the route of bit b to place a, at the stage of exponent e
module _ (n : ℕ) (c : ℕ → ℕ → Bool) (a b e : ℕ) (brings : butterfly n c a ≡ b) (h : e < n) where
  route-low : (k : ℕ) → k ≤ n → butterfly k c a % 2 ^ k ≡ b % 2 ^ k
  route-low k l = sym (butterfly-low n k c a l) ∙ ap (λ (x : ℕ). x % 2 ^ k) brings

  source-bit : b / 2 ^ e % 2 ≡ butterfly (suc e) c a / 2 ^ e % 2
  unfolding bit
  source-bit =
      sym (bit-mod b (suc e) e (omega arith))
      ∙ ap (λ (u : ℕ). u / 2 ^ e % 2) (sym (route-low (suc e) h))
      ∙ bit-mod (butterfly (suc e) c a) (suc e) e (omega arith)

  -- it passes its switch exactly if it goes straight
  pub route-straight : straight e a b ≡ not (c e (crossed e a b))
  unfolding straight butterfly
  route-straight =
      go (c e (switch_at e (butterfly e c a))) (through-high e (c e) (butterfly e c a))
      ∙ ap (λ (s : ℕ). not (c e s)) (at-switch c a b e (route-low e (omega arith)))
    where
      go :
          (d : Bool)
          → through e (c e) (butterfly e c a) / 2 ^ e
          ≡ cond d (paired (butterfly e c a / 2 ^ e)) (butterfly e c a / 2 ^ e)
          → eqb (a / 2 ^ e % 2) (b / 2 ^ e % 2) ≡ not d
      go true t = ne_eqb (a / 2 ^ e % 2) (b / 2 ^ e % 2) (λ q. absurd (omega (arith, butterfly-high e c a, source-bit)))
      go false t = eq-eqb (a / 2 ^ e % 2) (b / 2 ^ e % 2) (omega (arith, butterfly-high e c a, source-bit))

-- and a bit that does so at every stage comes from b
module _ (c : ℕ → ℕ → Bool) (a b : ℕ) where
  straight-bit :
      (e : ℕ)
      → butterfly e c a % 2 ^ e ≡ b % 2 ^ e
      → straight e a b ≡ not (c e (crossed e a b))
      → butterfly (suc e) c a / 2 ^ e % 2 ≡ b / 2 ^ e % 2
  unfolding straight butterfly
  straight-bit e low t =
      go (c e (switch_at e x)) (through-high e (c e) x) (t ∙ ap (λ (s : ℕ). not (c e s)) (sym (at-switch c a b e low)))
    where
      x : ℕ
      x = butterfly e c a

      go :
          (d : Bool)
          → through e (c e) x / 2 ^ e ≡ cond d (paired (x / 2 ^ e)) (x / 2 ^ e)
          → eqb (a / 2 ^ e % 2) (b / 2 ^ e % 2) ≡ not d
          → through e (c e) x / 2 ^ e % 2 ≡ b / 2 ^ e % 2
      go true h t = let n = eqb-false (a / 2 ^ e % 2) (b / 2 ^ e % 2) t in omega (arith, butterfly-high e c a)
      go false h t = omega (arith, butterfly-high e c a, eqb-true (a / 2 ^ e % 2) (b / 2 ^ e % 2) t)

  straight-low :
      (n : ℕ)
      → ((e : ℕ) → e < n → straight e a b ≡ not (c e (crossed e a b)))
      → butterfly n c a % 2 ^ n ≡ b % 2 ^ n
  unfolding butterfly
  straight-low zero t = omega arith
  straight-low (suc e) t =
      let low = straight-low e (λ d l. t d (omega arith)) in
      let y = butterfly (suc e) c a in
      let same : y % 2 ^ e ≡ b % 2 ^ e = through-low e (c e) (butterfly e c a) ∙ low in
      let top = straight-bit e low (t e (omega arith)) in
      rw pow-succ' (mod-mul y (omega arith) (pow_pos e) ∙ ap₂ (λ (u v : ℕ). u * 2 ^ e + v) top same ∙ sym (mod-mul b (omega arith) (pow_pos e)))

  pub straight-brings :
      (n : ℕ)
      → a < 2 ^ n
      → b < 2 ^ n
      → ((e : ℕ) → e < n → straight e a b ≡ not (c e (crossed e a b)))
      → butterfly n c a ≡ b
  straight-brings n l m t =
      let z : butterfly n c a < 1 * 2 ^ n =
      (div-lt_iff_lt-mul {k = 2 ^ n} (pow_pos n)).0 (omega (arith, butterfly-high n c a, div-eq_of_lt l))
      in
      sym (mod-eq_of_lt (omega arith)) ∙ straight-low n t ∙ mod-eq_of_lt m
