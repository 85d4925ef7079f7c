-- Stages by numbers: a stage inside one half, the stage of the two halves; a stage undoes itself, and so the networks undo each other.
-- Assumes nothing.
use mathlib.Core.Path.{◌≡◌, refl, sym, ap, ap₂, ◌∙◌}
use mathlib.Core.Bool.{Bool, true, false, not, cond}
use Prim.Native.Nat.{ℕ, zero, suc, ◌+◌, ◌-◌, ◌*◌, ◌/◌, ◌%◌, ◌^◌, ◌≤◌, ◌<◌}
use native.Mathlib.Nat.{pow-suc, add-div_left, div-eq_of_lt, div-add-mod', mod-lt, mul-add-div_right, mul-add-mod_self_right}
use native.Mathlib.Decide.{dec_lt}
use native.Mathlib.Omega.{arith}
use lib.Dec.{eqb, leb}
use lib.Pow.{pow_pos, pow-add}
use borrow.Author.Tests.{eqb-false}
use Rattle.routing.specs.Place.{Place, weight, num}
use Rattle.routing.specs.Loop.{xor, side, sent}
use Rattle.routing.specs.Stages.{switch_at, partner_at, through, butterfly, inverse}
use Rattle.routing.proofs.Stage.{xor-xor}
use Rattle.routing.proofs.PlaceNumbers.{num-lt, weight-le, weight-rest, split-top}

-- a place in the upper half of its block
pub odd-above : (e x : ℕ) → (x / 2 ^ e % 2 ≡ 0 → ⊥) → 2 ^ e ≤ x
odd-above e x odd = go (dec_lt x (2 ^ e))
  where
    go : Dec (x < 2 ^ e) → 2 ^ e ≤ x
    go (yes l) = absurd (odd (ap (λ (y : ℕ). y % 2) (div-eq_of_lt l)))
    go (no n) = omega arith

-- H blocks of twice the distance to the right: everything moves by them
module _ (e H x : ℕ) where
  block : H * 2 ^ suc e ≡ H * 2 * 2 ^ e
  block = rw pow-suc (omega arith)

  switch-offset : switch_at e (H * 2 ^ suc e + x) ≡ H * 2 ^ e + switch_at e x
  unfolding switch_at
  switch-offset =
      let q = mul-add-div_right (pow_pos (suc e)) H x in
      let r : (H * 2 ^ suc e + x) % 2 ^ e ≡ x % 2 ^ e = rw block (mul-add-mod_self_right (H * 2) (2 ^ e) x) in
      omega (arith, ap (λ (y : ℕ). y * 2 ^ e) q, r)

  pub digit-offset : (H * 2 ^ suc e + x) / 2 ^ e % 2 ≡ x / 2 ^ e % 2
  digit-offset =
      let q : (H * 2 ^ suc e + x) / 2 ^ e ≡ H * 2 + x / 2 ^ e = rw block (mul-add-div_right (pow_pos e) (H * 2) x) in
      rw q (omega arith)

  partner-offset : partner_at e (H * 2 ^ suc e + x) ≡ H * 2 ^ suc e + partner_at e x
  unfolding partner_at
  partner-offset =
      ap
      (λ (y : ℕ). cond (eqb y 0) (H * 2 ^ suc e + x + 2 ^ e) (H * 2 ^ suc e + x - 2 ^ e))
      digit-offset
      ∙ go (eqb (x / 2 ^ e % 2) 0) refl
    where
      go :
          (b : Bool)
          → eqb (x / 2 ^ e % 2) 0 ≡ b
          → cond b (H * 2 ^ suc e + x + 2 ^ e) (H * 2 ^ suc e + x - 2 ^ e)
          ≡ H * 2 ^ suc e + cond b (x + 2 ^ e) (x - 2 ^ e)
      go true t = omega arith
      go false t = let a = odd-above e x (eqb-false (x / 2 ^ e % 2) 0 t) in omega arith

  through-offset : (c : ℕ → Bool) → through e c (H * 2 ^ suc e + x) ≡ H * 2 ^ suc e + through e (λ s. c (H * 2 ^ e + s)) x
  unfolding through
  through-offset c =
      ap₂ (λ (s y : ℕ). cond (c s) y (H * 2 ^ suc e + x)) switch-offset partner-offset
      ∙ go (c (H * 2 ^ e + switch_at e x))
    where
      go : (b : Bool) → cond b (H * 2 ^ suc e + partner_at e x) (H * 2 ^ suc e + x) ≡ H * 2 ^ suc e + cond b (partner_at e x) x
      go true = refl
      go false = refl

weight-add : (h : Bool) (e r : ℕ) → weight h (e + r) ≡ weight h r * 2 ^ e
unfolding weight
weight-add false e r = omega arith
weight-add true e r = omega (arith, pow-add 2 e r)

-- a stage inside the halves moves within each
through-weight :
    (e k : ℕ)
    → e ≤ k
    → (h : Bool) (c : ℕ → Bool) (x : ℕ)
    → through e c (weight h (suc k) + x) ≡ weight h (suc k) + through e (λ s. c (weight h k + s)) x
through-weight e k l h c x =
    let a : k ≡ e + (k - e) = omega arith in
    let b : suc k ≡ suc e + (k - e) = omega arith in
    let u : weight h k ≡ weight h (k - e) * 2 ^ e = ap (weight h) a ∙ weight-add h e (k - e) in
    let v : weight h (suc k) ≡ weight h (k - e) * 2 ^ suc e = ap (weight h) b ∙ weight-add h (suc e) (k - e) in
    rw (u, v) (through-offset e (weight h (k - e)) x c)

butterfly-weight :
    (e k : ℕ)
    → e ≤ suc k
    → (h : Bool) (c : ℕ → ℕ → Bool) (x : ℕ)
    → butterfly e c (weight h (suc k) + x) ≡ weight h (suc k) + butterfly e (λ d s. c d (weight h k + s)) x
unfolding butterfly
butterfly-weight zero k l h c x = refl
butterfly-weight (suc e) k l h c x =
    ap (through e (c e)) (butterfly-weight e k (omega arith) h c x)
    ∙ through-weight e k (omega arith) h (c e) (butterfly e (λ d s. c d (weight h k + s)) x)

-- the stages of half h
abbrev pub within : {A : Type 0} (n : ℕ) → Bool → (A → ℕ → Bool) → A → ℕ → Bool
within zero h c = c
within (suc k) h c = λ a s. c a (weight h k + s)

pub butterfly-within :
    (n : ℕ) (h : Bool) (c : ℕ → ℕ → Bool) (x : ℕ)
    → butterfly n c (weight h n + x) ≡ weight h n + butterfly n (within n h c) x
butterfly-within zero h c x = unfold butterfly in refl
butterfly-within (suc k) h c x = butterfly-weight (suc k) k (omega arith) h c x

-- the stage that joins the halves
switch-top : (h : Bool) (n x : ℕ) → x < 2 ^ n → switch_at n (weight h n + x) ≡ x
unfolding switch_at
switch-top h n x l =
    let q : (weight h n + x) / 2 ^ suc n ≡ 0 = div-eq_of_lt (omega (arith, weight-le h n)) in
    omega (arith, ap (λ (y : ℕ). y * 2 ^ n) q, weight-rest h n x l)

partner-top : (h : Bool) (n x : ℕ) → x < 2 ^ n → partner_at n (weight h n + x) ≡ weight (not h) n + x
unfolding partner_at weight
partner-top false n x l =
    let q : (0 + x) / 2 ^ n % 2 ≡ 0 = ap (λ (y : ℕ). y % 2) (div-eq_of_lt (omega arith)) in
    ap (λ (y : ℕ). cond (eqb y 0) (0 + x + 2 ^ n) (0 + x - 2 ^ n)) q ∙ omega arith
partner-top true n x l =
    let q : (2 ^ n + x) / 2 ^ n % 2 ≡ 1 = rw (add-div_left x (pow_pos n), div-eq_of_lt l) refl in
    ap (λ (y : ℕ). cond (eqb y 0) (2 ^ n + x + 2 ^ n) (2 ^ n + x - 2 ^ n)) q ∙ omega arith

pub through-top :
    (n : ℕ) (c : ℕ → Bool) (f : Place n → Bool)
    → ((q : Place n) → c (num n q) ≡ f q)
    → (p : Place (suc n))
    → through n c (num (suc n) p) ≡ num (suc n) (sent f p)
unfolding through num sent side
through-top n c f is p =
    ap₂
    (λ (b : Bool) (y : ℕ). cond b y (weight p.0 n + num n p.1))
    (ap c (switch-top p.0 n (num n p.1) (num-lt n p.1)) ∙ is p.1)
    (partner-top p.0 n (num n p.1) (num-lt n p.1))
    ∙ go (f p.1)
  where
    go :
        (b : Bool)
        → cond b (weight (not p.0) n + num n p.1) (weight p.0 n + num n p.1)
        ≡ weight (xor b p.0) n + num n p.1
    go true = refl
    go false = refl

-- A stage of distance d = 2^e as the paper has it: switch j*d + t joins bits 2*j*d + t and 2*j*d + t + d.
stage-joins :
    (e j t : ℕ) (h : Bool) (c : ℕ → Bool)
    → t < 2 ^ e
    → through e c (j * 2 ^ suc e + (weight h e + t))
    ≡ j * 2 ^ suc e + (weight (xor (c (j * 2 ^ e + t)) h) e + t)
unfolding through
stage-joins e j t h c l =
    through-offset e j (weight h e + t) c
    ∙ ap (λ (y : ℕ). j * 2 ^ suc e + y)
    (ap₂
    (λ (s y : ℕ). cond (c (j * 2 ^ e + s)) y (weight h e + t))
    (switch-top h e t l)
    (partner-top h e t l)
    ∙ go (c (j * 2 ^ e + t)))
  where
    go : (b : Bool) → cond b (weight (not h) e + t) (weight h e + t) ≡ weight (xor b h) e + t
    go true = refl
    go false = refl

-- it undoes itself
through-through : (e : ℕ) (c : ℕ → Bool) (x : ℕ) → through e c (through e c x) ≡ x
through-through e c x =
    let d = 2 ^ suc e in
    let r = x % d in
    let h = leb (2 ^ e) r in
    let t = r % 2 ^ e in
    let l = mod-lt r (pow_pos e) in
    let b = c (x / d * 2 ^ e + t) in
    let split : x ≡ x / d * d + (weight h e + t) =
    sym (div-add-mod' x d) ∙ ap (λ (y : ℕ). x / d * d + y) (sym (split-top e r (mod-lt x (pow_pos (suc e))))) in
    ap (λ (y : ℕ). through e c (through e c y)) split
    ∙ ap (through e c) (stage-joins e (x / d) t h c l)
    ∙ stage-joins e (x / d) t (xor b h) c l
    ∙ ap (λ (g : Bool). x / d * d + (weight g e + t)) (xor-xor b h)
    ∙ sym split

-- so the inverse undoes the butterfly of the same controls, and the other way
pub butterfly-inverse : (n : ℕ) (c : ℕ → ℕ → Bool) (p : ℕ) → butterfly n c (inverse n c p) ≡ p
unfolding butterfly inverse
butterfly-inverse zero c p = refl
butterfly-inverse (suc e) c p =
    ap (through e (c e)) (butterfly-inverse e c (through e (c e) p)) ∙ through-through e (c e) p

pub inverse-butterfly : (n : ℕ) (c : ℕ → ℕ → Bool) (p : ℕ) → inverse n c (butterfly n c p) ≡ p
unfolding butterfly inverse
inverse-butterfly zero c p = refl
inverse-butterfly (suc e) c p =
    ap (inverse e c) (through-through e (c e) (butterfly e c p)) ∙ inverse-butterfly e c p
