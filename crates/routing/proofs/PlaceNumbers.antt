-- Numbers of places, and tables.
-- Assumes nothing.
use mathlib.Core.Path.{◌≡◌, refl, sym, ap, ◌∙◌, fun_ext}
use mathlib.Core.Bool.{Bool, true, false, cond}
use Prim.Native.Nat.{ℕ, zero, suc, ◌+◌, ◌-◌, ◌%◌, ◌^◌, ◌≤◌, ◌<◌}
use native.Mathlib.Nat.{zero-add, add-mod_left, mod-eq_of_lt, mod-eq-sub-mod, mod-lt}
use native.Mathlib.Omega.{arith}
use lib.Arith.{lt-one}
use lib.Dec.{leb}
use lib.Pow.{pow_pos}
use borrow.Author.Tests.{leb-true, leb-false, le-leb, lt-leb}
use Rattle.routing.specs.Place.{Place, weight, num, place, at, tab}
use Rattle.routing.proofs.Stage.{pair}
use Rattle.routing.proofs.Loop.{Numbered}

pub weight-le : (h : Bool) (n : ℕ) → weight h n ≤ 2 ^ n
unfolding weight
weight-le false n = omega arith
weight-le true n = omega arith

pub num-lt : (n : ℕ) (p : Place n) → num n p < 2 ^ n
unfolding num
num-lt zero p = omega arith
num-lt (suc n) p = omega (arith, num-lt n p.1, weight-le p.0 n)

-- a number below 2^n, with the weight of a half added, gives both back
pub weight-top : (h : Bool) (n x : ℕ) → x < 2 ^ n → leb (2 ^ n) (weight h n + x) ≡ h
unfolding weight
weight-top false n x l = lt-leb (2 ^ n) (0 + x) (omega arith)
weight-top true n x l = le-leb (2 ^ n) (2 ^ n + x) (omega arith)

pub weight-rest : (h : Bool) (n x : ℕ) → x < 2 ^ n → (weight h n + x) % 2 ^ n ≡ x
unfolding weight
weight-rest false n x l = rw zero-add (mod-eq_of_lt l)
weight-rest true n x l = add-mod_left (2 ^ n) x ∙ mod-eq_of_lt l

pub place-weight : (h : Bool) (n x : ℕ) → x < 2 ^ n → place (suc n) (weight h n + x) ≡ (h, place n x)
unfolding place
place-weight h n x l = pair (weight-top h n x l) (ap (place n) (weight-rest h n x l))

pub place-num : (n : ℕ) (p : Place n) → place n (num n p) ≡ p
unfolding num place
place-num zero p = refl
place-num (suc n) p =
    place-weight p.0 n (num n p.1) (num-lt n p.1) ∙ pair refl (place-num n p.1)

pub num-injective : (n : ℕ) (p q : Place n) → num n p ≡ num n q → p ≡ q
num-injective n p q e = sym (place-num n p) ∙ ap (place n) e ∙ place-num n q

pub split-top : (n x : ℕ) → x < 2 ^ suc n → weight (leb (2 ^ n) x) n + x % 2 ^ n ≡ x
unfolding weight
split-top n x l = go (leb (2 ^ n) x) refl
  where
    go : (b : Bool) → leb (2 ^ n) x ≡ b → weight b n + x % 2 ^ n ≡ x
    go true e =
        let g = leb-true (2 ^ n) x e in
        let q : x - 2 ^ n < 2 ^ n = omega arith in
        omega (arith, mod-eq-sub-mod g ∙ mod-eq_of_lt q)
    go false e = rw zero-add (mod-eq_of_lt (leb-false (2 ^ n) x e))

pub num-place : (n x : ℕ) → x < 2 ^ n → num n (place n x) ≡ x
unfolding num place
num-place zero x l = sym (lt-one l)
num-place (suc n) x l =
    ap (λ (y : ℕ). weight (leb (2 ^ n) x) n + y) (num-place n (x % 2 ^ n) (mod-lt x (pow_pos n)))
    ∙ split-top n x l

abbrev pub numbered : (n : ℕ) → Numbered (Place n)
numbered n = record { index = num n; count = 2 ^ n; small = num-lt n; injective = num-injective n }

pub at-tab : {A : Type 0} (n : ℕ) (f : Place n → A) (p : Place n) → at n (tab n f) p ≡ f p
unfolding at tab
at-tab zero f p = refl
at-tab (suc n) f p = go p.0 p.1 (at-tab n (λ q. f (true, q))) (at-tab n (λ q. f (false, q)))
  where
    go :
        (h : Bool) (q : Place n)
        → ((q : Place n) → at n (tab n (λ q. f (true, q))) q ≡ f (true, q))
        → ((q : Place n) → at n (tab n (λ q. f (false, q))) q ≡ f (false, q))
        → at n (cond h (tab n (λ q. f (true, q))) (tab n (λ q. f (false, q)))) q ≡ f (h, q)
    go true q upper lower = upper q
    go false q upper lower = lower q

pub at-tab-all : {A : Type 0} (n : ℕ) (f : Place n → A) → at n (tab n f) ≡ f
at-tab-all n f = fun_ext (at-tab n f)
