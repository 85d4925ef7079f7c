-- One network alone: the forced controls are the only ones that bring a permutation; a test of every number, and its law.
-- Assumes nothing.
use mathlib.Core.Path.{◌≡◌, refl, sym, ap, ap₂, ◌∙◌, subst, fun_ext}
use mathlib.Core.Bool.{Bool, true, false, ◌&&◌, false≢true}
use Prim.Native.Nat.{ℕ, zero, suc, ◌^◌, ◌<◌}
use native.Mathlib.Decide.{dec_lt}
use native.Mathlib.Omega.{arith}
use lib.Dec.{eqb}
use borrow.Author.Tests.{eqb-true, eq-eqb}
use Rattle.routing.specs.Place.{Place, num, place, at, tab}
use Rattle.routing.specs.Loop.{Maps, IsPermutation, pass, side, sent, between}
use Rattle.routing.specs.Net.{ControlTree, half, butterfly_source, inverse_source, Net, NetRealises, part}
use Rattle.routing.specs.Stages.{Same, butterfly, flat}
use Rattle.routing.specs.FirstControls.{Permutes, on_places}
use Rattle.routing.specs.Alone.{ButterflyBrings, InverseBrings, forced, butterfly_controls, inverse_controls, every_below}
use Rattle.routing.proofs.Stage.{pair, side-low}
use Rattle.routing.proofs.PlaceNumbers.{num-lt, place-num, at-tab-all}
use Rattle.routing.proofs.Halves.{Keeps, half_net, between-permutation, sides-keep, part-permutation, realises-sides, realises-half}
use Rattle.routing.proofs.Through.{within, butterfly-inverse}
use Rattle.routing.proofs.Flat.{ReadsTree, butterfly-source, reads-flat, tree_of, reads-tree, reads_same}
use Rattle.routing.proofs.FirstControls.{on-places}

-- an inverse that passes everywhere moves nothing
still : (n : ℕ) → ControlTree n
still zero = tt
still (suc n) = record { outer = tab n (λ q. pass); lower = still n; upper = still n }

still-half : (n : ℕ) (h : Bool) → half n (still (suc n)) h ≡ still n
unfolding still half
still-half n true = refl
still-half n false = refl

still-outer : (n : ℕ) → at n (still (suc n)).outer ≡ (λ q. pass)
unfolding still
still-outer n = at-tab-all n (λ q. pass)

side-still : (n : ℕ) (p : Place (suc n)) → side (at n (still (suc n)).outer) p ≡ p.0
unfolding side
side-still n p = ap (λ (k : Place n → Bool). side k p) (still-outer n)

inverse-still : (n : ℕ) (p : Place n) → inverse_source n (still n) p ≡ p
unfolding inverse_source sent
inverse-still zero p = refl
inverse-still (suc n) p =
    let same = side-still n p in
    pair same
    (ap (λ (h : Bool). inverse_source n (half n (still (suc n)) h) p.1) same
    ∙ ap (λ (G : ControlTree n). inverse_source n G p.1) (still-half n p.0)
    ∙ inverse-still n p.1)

-- the butterfly F followed by nothing
abbrev lone : (n : ℕ) → ControlTree n → Net n
lone n F = record { butterfly = F; inverse = still n }

lone-half : (n : ℕ) (F : ControlTree (suc n)) (h : Bool) → half_net n (lone (suc n) F) h ≡ lone n (half n F h)
lone-half n F h = ap (λ (G : ControlTree n). record { butterfly = half n F h; inverse = G }) (still-half n h)

module _
    (n : ℕ)
    (F : ControlTree (suc n))
    (m : Maps (Place (suc n)))
    (perm : IsPermutation m)
    (real : NetRealises (suc n) (lone (suc n) F) m)
  where
    abbrev f : Place n → Bool
    f = at n F.outer

    abbrev wanted : Place n → Bool
    wanted s = (m.from (false, s)).0

    forced-outer : f ≡ wanted
    forced-outer =
        fun_ext
        (λ s.
        sym (side-low f s)
        ∙ ap (side f) (sym (perm.to-from (false, s)))
        ∙ realises-sides n (lone (suc n) F) m real (m.from (false, s))
        ∙ side-still n (m.from (false, s)))

    abbrev rest : Maps (Place (suc n))
    rest = between m wanted (λ q. pass)

    rest-is : between m f (at n (still (suc n)).outer) ≡ rest
    rest-is = ap₂ (between m) forced-outer (still-outer n)

    rest_part : (h : Bool) → IsPermutation (part n rest h)
    rest_part =
        part-permutation n rest (between-permutation m perm wanted (λ q. pass))
        (subst Keeps rest-is
        (sides-keep m perm f (at n (still (suc n)).outer) (realises-sides n (lone (suc n) F) m real)))

    rest-half : (h : Bool) → NetRealises n (lone n (half n F h)) (part n rest h)
    rest-half h =
        subst (λ (N : Net n). NetRealises n N (part n rest h)) (lone-half n F h)
        (subst (λ (b : Maps (Place (suc n))). NetRealises n (half_net n (lone (suc n) F) h) (part n b h)) rest-is
        (realises-half n (lone (suc n) F) m real h))

module _ (n : ℕ) (m : Maps (Place (suc n))) where
  forced-first : at n (forced (suc n) m).outer ≡ (λ s. (m.from (false, s)).0)
  unfolding forced
  forced-first = at-tab-all n (λ s. (m.from (false, s)).0)

  forced-half :
      (h : Bool)
      → half n (forced (suc n) m) h ≡ forced n (part n (between m (λ s. (m.from (false, s)).0) (λ q. pass)) h)
  unfolding half forced
  forced-half true =
      ap
      (λ (k : Place n → Bool). forced n (part n (between m k (λ q. pass)) true))
      forced-first
  forced-half false =
      ap
      (λ (k : Place n → Bool). forced n (part n (between m k (λ q. pass)) false))
      forced-first

-- controls that realise m are those that m forces
reads-forced :
    (n : ℕ) (m : Maps (Place n))
    → IsPermutation m
    → (c : ℕ → ℕ → Bool) (F : ControlTree n)
    → ReadsTree n c F
    → NetRealises n (lone n F) m
    → ReadsTree n c (forced n m)
reads-forced zero m perm c F r real = tt
reads-forced (suc n) m perm c F r real =
    record {
      outer = λ q.
          r.outer q
          ∙ ap (λ (k : Place n → Bool). k q)
          (forced-outer n F m perm real ∙ sym (forced-first n m));
      halves = λ h.
          subst (ReadsTree n (within n h c)) (sym (forced-half n m h))
          (reads-forced n (part n (rest n F m perm real) h) (rest_part n F m perm real h) (within n h c)
          (half n F h) (r.halves h) (rest-half n F m perm real h));
    }

permutes-back : {w : ℕ} {π ρ : ℕ → ℕ} → Permutes w π ρ → Permutes w ρ π
permutes-back perm =
    record {
      to-small = perm.from-small;
      from-small = perm.to-small;
      to-from = perm.from-to;
      from-to = perm.to-from;
    }

-- controls that bring the permutation through the butterfly alone are the forced ones
pub butterfly-forced :
    (n : ℕ) (π ρ : ℕ → ℕ)
    → Permutes (2 ^ n) π ρ
    → (c : ℕ → ℕ → Bool)
    → ButterflyBrings n c π
    → Same n c (butterfly_controls n π ρ)
unfolding butterfly_controls on_places
butterfly-forced n π ρ perm c brings =
    reads_same n c (flat n G) G
    (reads-forced n (on_places n π ρ) (on-places n π ρ perm) c F (reads-tree n c) real)
    (reads-flat n G)
  where
    F : ControlTree n
    F = tree_of n c

    G : ControlTree n
    G = forced n (on_places n π ρ)

    real : NetRealises n (lone n F) (on_places n π ρ)
    real p =
        ap (butterfly_source n F) (inverse-still n p)
        ∙ sym (place-num n (butterfly_source n F p))
        ∙ ap (place n) (sym (butterfly-source n c F (reads-tree n c) p) ∙ brings (num n p) (num-lt n p))

-- what the inverse brings, the butterfly of the same controls brings back
pub inverse-forced :
    (n : ℕ) (π ρ : ℕ → ℕ) → Permutes (2 ^ n) π ρ → (c : ℕ → ℕ → Bool) → InverseBrings n c π → Same n c (inverse_controls n π ρ)
unfolding inverse_controls
inverse-forced n π ρ perm c brings =
    butterfly-forced n ρ π (permutes-back perm) c
    (λ x l.
    ap (butterfly n c) (sym (perm.to-from x l) ∙ sym (brings (ρ x) (perm.from-small x l))) ∙ butterfly-inverse n c (ρ x))

-- a test of every number below k against its law
pub tested-equal : (k : ℕ) (f g : ℕ → ℕ) → every_below k (λ p. eqb (f p) (g p)) ≡ true → (p : ℕ) → p < k → f p ≡ g p
unfolding every_below
tested-equal zero f g e p l = absurd (omega arith)
tested-equal (suc k) f g e p l =
    let b = both (eqb (f k) (g k)) (every_below k (λ p. eqb (f p) (g p))) e in
    go (dec_lt p k) (eqb-true (f k) (g k) b.0) (tested-equal k f g b.1 p)
  where
    both : (a b : Bool) → a && b ≡ true → (a ≡ true) × (b ≡ true)
    both true b e = (refl, e)
    both false b e = (e, absurd (false≢true e))

    go : Dec (p < k) → f k ≡ g k → (p < k → f p ≡ g p) → f p ≡ g p
    go (yes h) e ih = ih h
    go (no n) e ih = let q : p ≡ k = omega arith in ap f q ∙ e ∙ ap g (sym q)

pub equal-tested : (k : ℕ) (f g : ℕ → ℕ) → ((p : ℕ) → p < k → f p ≡ g p) → every_below k (λ p. eqb (f p) (g p)) ≡ true
unfolding every_below
equal-tested zero f g all = refl
equal-tested (suc k) f g all =
    ap (λ (b : Bool). b && every_below k (λ p. eqb (f p) (g p))) (eq-eqb (f k) (g k) (all k (omega arith)))
    ∙ equal-tested k f g (λ p l. all p (omega arith))
