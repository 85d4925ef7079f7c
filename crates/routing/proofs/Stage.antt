-- Laws of a stage and of the two halves.
-- Assumes nothing.
use mathlib.Core.Path.{◌≡◌, refl, sym, ap, ◌∙◌}
use mathlib.Core.Logic.{◌⊎◌, inl, inr}
use mathlib.Core.Bool.{Bool, true, false, not, true≢false, false≢true}
use Rattle.routing.specs.Loop.{Maps, xor, flip, side, sent}

pub not-not : (b : Bool) → not (not b) ≡ b
not-not true = refl
not-not false = refl

not-ne : (b : Bool) → not b ≡ b → ⊥
not-ne true e = false≢true e
not-ne false e = true≢false e

pub xor-xor : (a b : Bool) → xor a (xor a b) ≡ b
xor-xor false b = refl
xor-xor true b = not-not b

xor-not : (a b : Bool) → xor a (not b) ≡ not (xor a b)
xor-not false b = refl
xor-not true b = refl

pub xor-false : (a : Bool) → xor a false ≡ a
xor-false false = refl
xor-false true = refl

pub xor_comm : (a b : Bool) → xor a b ≡ xor b a
xor_comm false b = sym (xor-false b)
xor_comm true false = refl
xor_comm true true = refl

pub maps-path : {A : Type 0} {a b : Maps A} → a.to ≡ b.to → a.from ≡ b.from → a ≡ b
maps-path p q = λ i. record { to = p i; from = q i }

module _ {S : Type 0} where
  pub pair : {x y : Bool × S} → x.0 ≡ y.0 → x.1 ≡ y.1 → x ≡ y
  pair p q = λ i. (p i, q i)

  pub flip-flip : (x : Bool × S) → flip (flip x) ≡ x
  unfolding flip
  flip-flip x = ap (λ (b : Bool). (b, x.1)) (not-not x.0)

  pub flip-ne : (x : Bool × S) → flip x ≡ x → ⊥
  unfolding flip
  flip-ne x e = not-ne x.0 (ap (λ (y : Bool × S). y.0) e)

  pub flip-switch : (x : Bool × S) → (flip x).1 ≡ x.1
  unfolding flip
  flip-switch x = refl

  -- a switch has two bits
  pub same_switch : (x y : Bool × S) → x.1 ≡ y.1 → (x ≡ y) ⊎ (x ≡ flip y)
  unfolding flip
  same_switch x y e = go x.0 y.0 refl refl
    where
      go : (a b : Bool) → x.0 ≡ a → y.0 ≡ b → (x ≡ y) ⊎ (x ≡ (not y.0, y.1))
      go true true p q = inl (pair (p ∙ sym q) e)
      go true false p q = inr (pair (p ∙ ap not (sym q)) e)
      go false true p q = inr (pair (p ∙ ap not (sym q)) e)
      go false false p q = inl (pair (p ∙ sym q) e)

  pub side-flip : (f : S → Bool) (x : Bool × S) → side f (flip x) ≡ not (side f x)
  unfolding flip side
  side-flip f x = xor-not (f x.1) x.0

  pub stage-stage : (f : S → Bool) (x : Bool × S) → sent f (sent f x) ≡ x
  unfolding sent side
  stage-stage f x = ap (λ (b : Bool). (b, x.1)) (xor-xor (f x.1) x.0)

  pub side-stage : (f : S → Bool) (x : Bool × S) → side f (sent f x) ≡ x.0
  unfolding sent side
  side-stage f x = xor-xor (f x.1) x.0

  pub stage-side : (f : S → Bool) (x : Bool × S) → (sent f x).0 ≡ side f x
  unfolding sent
  stage-side f x = refl

  pub side-low : (f : S → Bool) (s : S) → side f (false, s) ≡ f s
  unfolding side
  side-low f s = xor-false (f s)
