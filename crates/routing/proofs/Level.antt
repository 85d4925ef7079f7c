-- One level by numbers: the outer stages and the two half permutations give the first controls.
-- Assumes nothing.
use mathlib.Core.Path.{◌≡◌, refl, sym, ap, ◌∙◌, subst, fun_ext}
use mathlib.Core.Bool.{Bool, true, false, not, cond}
use Prim.Native.Nat.{ℕ, suc, ◌+◌, ◌-◌, ◌%◌, ◌^◌, ◌<◌}
use native.Mathlib.Omega.{arith}
use native.Mathlib.Nat.{mod-lt, mod-eq_of_lt, add-mod_right}
use lib.Dec.{leb, ltb}
use lib.Pow.{pow_pos}
use borrow.Author.Tests.{lt-ltb, le-ltb, ltb-true, ltb-false}
use Rattle.routing.specs.Place.{Place, weight, num, place}
use Rattle.routing.specs.Loop.{Maps, IsPermutation, xor, flip, side, sent, first_stage, last_stage, between}
use Rattle.routing.specs.Net.{first_net, part}
use Rattle.routing.specs.Stages.{Butterfly, Inverse, StageControls, Agree}
use Rattle.routing.specs.FirstControls.{Permutes, on_places, first_controls}
use Rattle.routing.specs.Level.{other, first_swap, last_swap, half_to, half_from}
use Rattle.routing.proofs.Stage.{maps-path}
use Rattle.routing.proofs.PlaceNumbers.{num-lt, place-num, weight-top, weight-rest}
use Rattle.routing.proofs.Halves.{first-first, first-last, first-half, left-part, part-to, part-from}
use Rattle.routing.proofs.Through.{within}
use Rattle.routing.proofs.Leads.{ReadsNet, reads-join}
use Rattle.routing.proofs.FirstControls.{on-places, permutes-places, agree-reads, reads-agree}

-- a place's switch, its half and its partner, by its number
pub num-switch : (n : ℕ) (p : Place (suc n)) → num n p.1 ≡ num (suc n) p % 2 ^ n
unfolding num
num-switch n p = sym (weight-rest p.0 n (num n p.1) (num-lt n p.1))

pub num-half : (n : ℕ) (p : Place (suc n)) → p.0 ≡ leb (2 ^ n) (num (suc n) p)
unfolding num
num-half n p = sym (weight-top p.0 n (num n p.1) (num-lt n p.1))

other-weight : (n x : ℕ) (h : Bool) → x < 2 ^ n → other n (weight h n + x) ≡ weight (not h) n + x
unfolding weight
other-weight n x false l =
    ap (λ (b : Bool). cond b (0 + x + 2 ^ n) (0 + x - 2 ^ n)) (lt-ltb (0 + x) (2 ^ n) (omega arith)) ∙ omega arith
other-weight n x true l =
    ap (λ (b : Bool). cond b (2 ^ n + x + 2 ^ n) (2 ^ n + x - 2 ^ n)) (le-ltb (2 ^ n + x) (2 ^ n) (omega arith)) ∙ omega arith

pub other-small : (n y : ℕ) → y < 2 ^ suc n → other n y < 2 ^ suc n
other-small n y l = go (ltb y (2 ^ n)) refl
  where
    go : (b : Bool) → ltb y (2 ^ n) ≡ b → cond b (y + 2 ^ n) (y - 2 ^ n) < 2 ^ suc n
    go true e = omega (arith, ltb-true y (2 ^ n) e)
    go false e = omega arith

-- as the remainder of a sum
pub other-mod : (n y : ℕ) → y < 2 ^ suc n → other n y ≡ (y + 2 ^ n) % 2 ^ suc n
other-mod n y l = go (ltb y (2 ^ n)) refl
  where
    go : (b : Bool) → ltb y (2 ^ n) ≡ b → cond b (y + 2 ^ n) (y - 2 ^ n) ≡ (y + 2 ^ n) % 2 ^ suc n
    go true e = let h = ltb-true y (2 ^ n) e in sym (mod-eq_of_lt (omega arith))
    go false e =
        let h = ltb-false y (2 ^ n) e in
        let q : y + 2 ^ n ≡ y - 2 ^ n + 2 ^ suc n = omega arith in
        sym
        (ap (λ (x : ℕ). x % 2 ^ suc n) q
        ∙ add-mod_right (y - 2 ^ n) (2 ^ suc n)
        ∙ mod-eq_of_lt (omega arith))

pub num-flip : (n : ℕ) (p : Place (suc n)) → num (suc n) (flip p) ≡ other n (num (suc n) p)
unfolding num flip
num-flip n p = sym (other-weight n (num n p.1) p.0 (num-lt n p.1))

module _ (n : ℕ) (π ρ : ℕ → ℕ) (perm : Permutes (2 ^ suc n) π ρ) where
  abbrev m : Maps (Place (suc n))
  m = on_places (suc n) π ρ

  abbrev F : Place n → Bool
  F = first_stage (num n) (2 ^ n) m

  abbrev G : Place n → Bool
  G = last_stage m F

  half-part :
      (f g : ℕ → Bool)
      → ((q : Place n) → f (num n q) ≡ F q)
      → ((q : Place n) → g (num n q) ≡ G q)
      → (h : Bool)
      → part n (between m F G) h ≡ on_places n (half_to n π g h) (half_from n ρ f h)
  unfolding between sent side on_places num place
  half-part f g fs gs h =
      maps-path
      (fun_ext
      (λ q.
      part-to n (between m F G) h q
      ∙ ap (λ (b : Bool). place n (π (weight (xor b h) n + num n q) % 2 ^ n)) (sym (gs q))))
      (fun_ext
      (λ x.
      part-from n (between m F G) h x
      ∙ ap (λ (b : Bool). place n (ρ (weight (xor b h) n + num n x) % 2 ^ n)) (sym (fs x))))

  ok : IsPermutation m
  ok = on-places (suc n) π ρ perm

  module _
      (f g : ℕ → Bool)
      (fs : (s : ℕ) → s < 2 ^ n → f s ≡ first_swap n π ρ s)
      (gs : (s : ℕ) → s < 2 ^ n → g s ≡ last_swap n π ρ s)
    where
      first : (q : Place n) → f (num n q) ≡ F q
      unfolding first_swap
      first q = fs (num n q) (num-lt n q) ∙ ap F (place-num n q)

      last : (q : Place n) → g (num n q) ≡ G q
      unfolding last_swap
      last q = gs (num n q) (num-lt n q) ∙ ap G (place-num n q)

      -- the half permutations are permutations
      pub half-permutes : (h : Bool) → Permutes (2 ^ n) (half_to n π g h) (half_from n ρ f h)
      half-permutes h =
          permutes-places n (half_to n π g h) (half_from n ρ f h)
          (λ p l. mod-lt (π (weight (xor (g p) h) n + p)) (pow_pos n))
          (λ x l. mod-lt (ρ (weight (xor (f x) h) n + x)) (pow_pos n))
          (subst IsPermutation (half-part f g first last h) (left-part n m ok h))

      -- the two outer stages and the halves make the whole
      pub first_step :
          (C : StageControls)
          → ((s : ℕ) → s < 2 ^ n → C (Butterfly n) s ≡ f s)
          → ((s : ℕ) → s < 2 ^ n → C (Inverse n) s ≡ g s)
          → ((h : Bool) → Agree n (within n h C) (first_controls n (half_to n π g h) (half_from n ρ f h)))
          → Agree (suc n) C (first_controls (suc n) π ρ)
      unfolding first_controls
      first_step C cf cg halves =
          reads-agree (suc n) C (first_net (suc n) m)
          (reads-join n C (first_net (suc n) m)
          (λ q. cf (num n q) (num-lt n q) ∙ first q ∙ ap (λ (k : Place n → Bool). k q) (sym (first-first n m ok)))
          (λ q. cg (num n q) (num-lt n q) ∙ last q ∙ ap (λ (k : Place n → Bool). k q) (sym (first-last n m ok)))
          (λ h.
          subst (ReadsNet n (within n h C))
          (ap (first_net n) (sym (half-part f g first last h)) ∙ sym (first-half n m ok h))
          (agree-reads n (within n h C) (first_net n (on_places n (half_to n π g h) (half_from n ρ f h))) (halves h))))
