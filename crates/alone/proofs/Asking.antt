-- Routes that agree at every switch are led by the controls that they ask for; routes of any controls agree.
-- Assumes nothing.
use mathlib.Core.Path.{◌≡◌, refl, sym, ap, ◌∙◌, subst}
use mathlib.Core.Bool.{Bool, true, false, not, cond, ◌&&◌, false≢true}
use mathlib.Core.List.{List}
use Prim.Native.Nat.{ℕ, zero, suc, ◌^◌, ◌<◌}
use native.Mathlib.Decide.{dec_lt}
use native.Mathlib.Omega.{arith}
use lib.Dec.{eqb}
use borrow.Author.Tests.{eqb-true, eq-eqb}
use Rattle.routing.specs.Loop.{pass, swap}
use Rattle.routing.specs.Stages.{butterfly}
use Rattle.routing.specs.Lists.{entry}
use Rattle.routing.proofs.Stage.{not-not}
use Rattle.alone.specs.Asked.{crossed, straight, asks, unasked, Within}
use Rattle.alone.proofs.Route.{route-straight, straight-brings}

-- every route below k comes from its source
abbrev pub Routed : List ℕ → List ℕ → ℕ → ℕ → (ℕ → ℕ → Bool) → Type 0
Routed places sources k n c = (p : ℕ) → p < k → butterfly n c (entry places p) ≡ entry sources p

-- no switch of the stage is asked for both by the routes below k
abbrev pub Free : List ℕ → List ℕ → ℕ → ℕ → Type 0
Free places sources k e = (s : ℕ) → unasked true places sources k e s ≡ false → unasked false places sources k e s ≡ false → ⊥

module _ (way : Bool) (places sources : List ℕ) (e : ℕ) where
  -- the switch of route p, and whether the route asks this of it
  abbrev at : ℕ → ℕ
  at p = crossed e (entry places p) (entry sources p)

  abbrev asking : ℕ → Bool
  asking p = asks way e (entry places p) (entry sources p)

  abbrev none : ℕ → ℕ → Bool
  none k s = unasked way places sources k e s

  -- a switch is asked by each route that asks it, and by no other
  asked-there : (k p : ℕ) → p < k → asking p ≡ true → none k (at p) ≡ false
  unfolding unasked
  asked-there zero p l t = absurd (omega arith)
  asked-there (suc k) p l t = go (dec_lt p k) (asked-there k p)
    where
      later : (b x : Bool) → x ≡ false → cond b false x ≡ false
      later true x h = refl
      later false x h = h

      go :
          Dec (p < k)
          → (p < k → asking p ≡ true → none k (at p) ≡ false)
          → cond (asking k && eqb (at p) (at k)) false (none k (at p)) ≡ false
      go (yes h) ih = later (asking k && eqb (at p) (at k)) (none k (at p)) (ih h t)
      go (no g) ih =
          let q : p ≡ k = omega arith in
          ap (λ (b : Bool). cond (b && eqb (at p) (at k)) false (none k (at p))) (ap asking (sym q) ∙ t)
          ∙ ap (λ (b : Bool). cond b false (none k (at p))) (eq-eqb (at p) (at k) (ap at q))

  pub asked-only :
      (P : ℕ → Type 0) (k : ℕ)
      → ((p : ℕ) → p < k → asking p ≡ true → P (at p))
      → (s : ℕ)
      → none k s ≡ false
      → P s
  unfolding unasked
  asked-only P zero all s t = absurd (false≢true (sym t))
  asked-only P (suc k) all s t =
      go (asking k) (eqb s (at k)) refl refl t (asked-only P k (λ p l. all p (omega arith)) s)
    where
      go :
          (b q : Bool)
          → asking k ≡ b
          → eqb s (at k) ≡ q
          → cond (b && q) false (none k s) ≡ false
          → (none k s ≡ false → P s)
          → P s
      go true true h i t ih = subst P (sym (eqb-true s (at k) i)) (all k (omega arith) h)
      go true false h i t ih = ih t
      go false q h i t ih = ih t

module _ (places sources : List ℕ) (k n : ℕ) where
  -- the routes that controls lead ask each switch for what it does
  pub routed-free : (d : ℕ → ℕ → Bool) → Routed places sources k n d → (e : ℕ) → e < n → Free places sources k e
  unfolding asks
  routed-free d routed e h s t u =
      let does : (p : ℕ) → p < k → d e (crossed e (entry places p) (entry sources p)) ≡ not (straight e (entry places p) (entry sources p)) =
      λ p l.
      sym (not-not (d e (crossed e (entry places p) (entry sources p))))
      ∙ ap not (sym (route-straight n d (entry places p) (entry sources p) e (routed p l) h))
      in
      let x : d e s ≡ pass = asked-only true places sources e (λ s. d e s ≡ pass) k (λ p l q. does p l ∙ ap not q) s t in
      let y : d e s ≡ swap = asked-only false places sources e (λ s. d e s ≡ swap) k (λ p l q. does p l ∙ q) s u in
      absurd (false≢true (sym x ∙ y))

  -- and routes that agree are those of the controls that they ask for
  free-straight :
      ((e : ℕ) → e < n → Free places sources k e)
      → (p : ℕ)
      → p < k
      → (e : ℕ)
      → e < n
      → straight e (entry places p) (entry sources p)
      ≡ not (unasked true places sources k e (crossed e (entry places p) (entry sources p)))
  unfolding asks
  free-straight free p l e h = go (straight e a b) refl
    where
      a : ℕ
      a = entry places p

      b : ℕ
      b = entry sources p

      s : ℕ
      s = crossed e a b

      swaps : (x : Bool) → unasked true places sources k e s ≡ x → unasked false places sources k e s ≡ false → false ≡ not x
      swaps true q r = refl
      swaps false q r = absurd (free e h s q r)

      go : (x : Bool) → straight e a b ≡ x → x ≡ not (unasked true places sources k e s)
      go true t = ap not (sym (asked-there true places sources e k p l t))
      go false t = swaps (unasked true places sources k e s) refl (asked-there false places sources e k p l (ap not t))

pub free-routed :
    (places sources : List ℕ) (n : ℕ)
    → Within (2 ^ n) places
    → Within (2 ^ n) sources
    → ((e : ℕ) → e < n → Free places sources (2 ^ n) e)
    → Routed places sources (2 ^ n) n (unasked true places sources (2 ^ n))
free-routed places sources n u v free p l =
    straight-brings (unasked true places sources (2 ^ n)) (entry places p) (entry sources p) n (u.small p l) (v.small p l)
    (free-straight places sources (2 ^ n) n free p l)
