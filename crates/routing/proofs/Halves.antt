-- A net realises a permutation exactly if its halves realise what is left between its outer stages.
-- Assumes nothing.
use mathlib.Core.Path.{◌≡◌, refl, sym, ap, ap₂, ◌∙◌, subst}
use mathlib.Core.Bool.{Bool, true, false}
use Prim.Native.Nat.{ℕ, zero, suc, ◌^◌}
use Rattle.routing.specs.Place.{Place, num, at, tab}
use Rattle.routing.specs.Loop.{Maps, IsPermutation, xor, flip, side, sent, Valid, first_stage, last_stage, between}
use Rattle.routing.specs.Net.{half, butterfly_source, inverse_source, Net, net_source, NetRealises, part, join, first_net}
use Rattle.routing.proofs.Stage.{pair, xor_comm, xor-false, stage-stage, side-stage, stage-side}
use Rattle.routing.proofs.First.{first-valid}
use Rattle.routing.proofs.PlaceNumbers.{numbered, at-tab, at-tab-all}

-- each bit stays in its half
abbrev pub Keeps : {S : Type 0} → Maps (Bool × S) → Type 0
Keeps m = (p : _) → (m.to p).0 ≡ p.0

module _ {S : Type 0} (m : Maps (Bool × S)) (perm : IsPermutation m) where
  pub between-permutation : (f g : S → Bool) → IsPermutation (between m f g)
  unfolding between
  between-permutation f g =
      record {
        to-from = λ x.
            rw (stage-stage g (m.from (sent f x)), perm.to-from (sent f x)) (stage-stage f x);
        from-to = λ p.
            rw (stage-stage f (m.to (sent g p)), perm.from-to (sent g p)) (stage-stage g p);
      }

  keeps-from : Keeps m → (x : Bool × S) → (m.from x).0 ≡ x.0
  keeps-from keeps x = sym (keeps (m.from x)) ∙ ap (λ (y : Bool × S). y.0) (perm.to-from x)

  -- in a valid stage and its last stage, the two places of a last switch take both sides
  valid-sides :
      (f : S → Bool) → Valid m f → (p : Bool × S) → side f (m.to p) ≡ side (last_stage m f) p
  unfolding side last_stage flip
  valid-sides f valid p = go p.0 p.1
    where
      go : (h : Bool) (q : S) → side f (m.to (h, q)) ≡ xor (side f (m.to (false, q))) h
      go false q = sym (xor-false (side f (m.to (false, q))))
      go true q = valid (false, q) ∙ xor_comm true (side f (m.to (false, q)))

  -- stages whose sides match keep each bit between them in its half
  pub sides-keep :
      (f g : S → Bool) → ((p : Bool × S) → side f (m.to p) ≡ side g p) → Keeps (between m f g)
  unfolding between sent
  sides-keep f g sides p = sides (sent g p) ∙ side-stage g p

-- what the tables of a half hold
pub part-to : (n : ℕ) (m : Maps (Place (suc n))) (h : Bool) (q : Place n) → (part n m h).to q ≡ (m.to (h, q)).1
unfolding part
part-to n m h q = at-tab n (λ q. (m.to (h, q)).1) q

pub part-from : (n : ℕ) (m : Maps (Place (suc n))) (h : Bool) (x : Place n) → (part n m h).from x ≡ (m.from (h, x)).1
unfolding part
part-from n m h x = at-tab n (λ x. (m.from (h, x)).1) x

pub part-permutation :
    (n : ℕ) (m : Maps (Place (suc n))) → IsPermutation m → Keeps m → (h : Bool) → IsPermutation (part n m h)
part-permutation n m perm keeps h =
    record {
      to-from = λ x.
          let e : m.from (h, x) ≡ (h, (m.from (h, x)).1) = pair (keeps-from m perm keeps (h, x)) refl in
          ap (part n m h).to (part-from n m h x)
          ∙ part-to n m h (m.from (h, x)).1
          ∙ ap (λ (y : Place (suc n)). (m.to y).1) (sym e)
          ∙ ap (λ (y : Place (suc n)). y.1) (perm.to-from (h, x));
      from-to = λ q.
          let e : m.to (h, q) ≡ (h, (m.to (h, q)).1) = pair (keeps (h, q)) refl in
          ap (part n m h).from (part-to n m h q)
          ∙ part-from n m h (m.to (h, q)).1
          ∙ ap (λ (y : Place (suc n)). (m.from y).1) (sym e)
          ∙ ap (λ (y : Place (suc n)). y.1) (perm.from-to (h, q));
    }

-- the net of half h
abbrev pub half_net : (n : ℕ) → Net (suc n) → Bool → Net n
half_net n N h = record { butterfly = half n N.butterfly h; inverse = half n N.inverse h }

module _ (n : ℕ) (N : Net (suc n)) (m : Maps (Place (suc n))) where
  abbrev f : Place n → Bool
  f = at n N.butterfly.outer

  abbrev g : Place n → Bool
  g = at n N.inverse.outer

  -- the two nets between the outer stages
  abbrev inner : Place (suc n) → Place (suc n)
  inner p = (p.0, net_source n (half_net n N p.0) p.1)

  source-stages : (p : Place (suc n)) → net_source (suc n) N p ≡ sent f (inner (sent g p))
  unfolding butterfly_source inverse_source
  source-stages p = refl

  -- the outer stages of a net that realises m match
  pub realises-sides : NetRealises (suc n) N m → (p : Place (suc n)) → side f (m.to p) ≡ side g p
  realises-sides r p = ap (side f) (sym (r p) ∙ source-stages p) ∙ side-stage f (inner (sent g p)) ∙ stage-side g p

  between-inner : NetRealises (suc n) N m → (p : Place (suc n)) → (between m f g).to p ≡ inner p
  unfolding between
  between-inner r p =
      ap (sent f) (sym (r (sent g p)) ∙ source-stages (sent g p))
      ∙ stage-stage f (inner (sent g (sent g p)))
      ∙ ap inner (stage-stage g p)

  -- and its halves realise what is left
  pub realises-half : NetRealises (suc n) N m → (h : Bool) → NetRealises n (half_net n N h) (part n (between m f g) h)
  realises-half r h q =
      sym (part-to n (between m f g) h q ∙ ap (λ (y : Place (suc n)). y.1) (between-inner r (h, q)))

  realises-whole :
      Keeps (between m f g)
      → ((h : Bool) → NetRealises n (half_net n N h) (part n (between m f g) h))
      → NetRealises (suc n) N m
  unfolding between
  realises-whole keeps halves p =
      source-stages p
      ∙ ap (sent f) (is (sent g p))
      ∙ stage-stage f (m.to (sent g (sent g p)))
      ∙ ap m.to (stage-stage g p)
    where
      is : (p : Place (suc n)) → inner p ≡ (between m f g).to p
      is p = pair (sym (keeps p)) (halves p.0 p.1 ∙ part-to n (between m f g) p.0 p.1)

module _ (n : ℕ) (m : Maps (Place (suc n))) (perm : IsPermutation m) where
  -- the outer stages of the first net
  abbrev pub outer_first : Place n → Bool
  outer_first = first_stage (num n) (2 ^ n) m

  pub first-first : at n (first_net (suc n) m).butterfly.outer ≡ outer_first
  unfolding join first_net
  first-first = at-tab-all n outer_first

  pub first-last : at n (first_net (suc n) m).inverse.outer ≡ last_stage m outer_first
  unfolding join first_net
  first-last =
      at-tab-all n (last_stage m (at n (tab n outer_first))) ∙ ap (last_stage m) (at-tab-all n outer_first)

  abbrev pub left : Maps (Place (suc n))
  left = between m outer_first (last_stage m outer_first)

  first-between : between m (at n (first_net (suc n) m).butterfly.outer) (at n (first_net (suc n) m).inverse.outer) ≡ left
  first-between = ap₂ (between m) first-first first-last

  pub first-half : (h : Bool) → half_net n (first_net (suc n) m) h ≡ first_net n (part n left h)
  unfolding half join first_net
  first-half true = ap (λ (k : Maps (Place (suc n))). first_net n (part n k true)) first-between
  first-half false = ap (λ (k : Maps (Place (suc n))). first_net n (part n k false)) first-between

  left-keeps : Keeps left
  left-keeps = sides-keep m perm outer_first (last_stage m outer_first) (valid-sides m perm outer_first (first-valid (numbered n) m perm))

  pub left-part : (h : Bool) → IsPermutation (part n left h)
  left-part = part-permutation n left (between-permutation m perm outer_first (last_stage m outer_first)) left-keeps

  first-whole :
      ((h : Bool) → NetRealises n (first_net n (part n left h)) (part n left h)) → NetRealises (suc n) (first_net (suc n) m) m
  first-whole halves =
      realises-whole n (first_net (suc n) m) m
      (rw first-between left-keeps)
      (λ h.
      rw first-between
      (subst (λ (K : Net n). NetRealises n K (part n left h)) (sym (first-half h)) (halves h)))

pub first-realises : (n : ℕ) (m : Maps (Place n)) → IsPermutation m → NetRealises n (first_net n m) m
first-realises zero m perm = λ p. refl
first-realises (suc n) m perm =
    first-whole n m perm (λ h. first-realises n (part n (left n m perm) h) (left-part n m perm h))
