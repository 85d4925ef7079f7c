-- Controls over the whole width and controls by halves: they say the same, and move bits alike.
-- Assumes nothing.
use mathlib.Core.Path.{◌≡◌, refl, sym, ap, ◌∙◌, subst}
use mathlib.Core.Bool.{Bool, true, false, cond}
use Prim.Native.Nat.{ℕ, zero, suc, ◌+◌, ◌^◌, ◌<◌}
use native.Mathlib.Decide.{dec_lt}
use native.Mathlib.Omega.{arith}
use borrow.Author.Tests.{eq-eqb, ne_eqb}
use Rattle.routing.specs.Place.{Place, weight, num, place, at, tab}
use Rattle.routing.specs.Loop.{sent}
use Rattle.routing.specs.Net.{ControlTree, half, butterfly_source, inverse_source}
use Rattle.routing.specs.Stages.{through, butterfly, inverse, InRange, Same, tree_control, flat}
use Rattle.routing.proofs.Stage.{stage-stage}
use Rattle.routing.proofs.PlaceNumbers.{num-lt, num-place, weight-le, place-weight, place-num, at-tab}
use Rattle.routing.proofs.Through.{within, butterfly-within, through-top, inverse-butterfly}

-- c, by exponents and switch numbers, has the controls of F
abbrev pub ReadsTree : (n : ℕ) → (ℕ → ℕ → Bool) → ControlTree n → Type 0
ReadsTree zero c F = Unit {0}
ReadsTree (suc n) c F =
    record {
      outer : (q : Place n) → c n (num n q) ≡ at n F.outer q;
      halves : (h : Bool) → ReadsTree n (within n h c) (half n F h);
    }

-- so they move bits alike
pub butterfly-source :
    (n : ℕ) (c : ℕ → ℕ → Bool) (F : ControlTree n)
    → ReadsTree n c F
    → (p : Place n)
    → butterfly n c (num n p) ≡ num n (butterfly_source n F p)
unfolding num butterfly butterfly_source
butterfly-source zero c F r p = refl
butterfly-source (suc n) c F r p =
    let h = p.0 in
    ap (through n (c n))
    (butterfly-within n h c (num n p.1)
    ∙ ap (λ (y : ℕ). weight h n + y)
    (butterfly-source n (within n h c) (half n F h) (r.halves h) p.1))
    ∙ through-top n (c n) (at n F.outer) r.outer (h, butterfly_source n (half n F h) p.1)

butterfly-inverse-place : (n : ℕ) (F : ControlTree n) (p : Place n) → butterfly_source n F (inverse_source n F p) ≡ p
unfolding butterfly_source inverse_source
butterfly-inverse-place zero F p = refl
butterfly-inverse-place (suc n) F p =
    let q = sent (at n F.outer) p in
    ap (λ (y : Place n). sent (at n F.outer) (q.0, y)) (butterfly-inverse-place n (half n F q.0) q.1)
    ∙ stage-stage (at n F.outer) p

pub inverse-source :
    (n : ℕ) (c : ℕ → ℕ → Bool) (F : ControlTree n) → ReadsTree n c F → (p : Place n) → inverse n c (num n p) ≡ num n (inverse_source n F p)
inverse-source n c F r p =
    let q = inverse_source n F p in
    ap (inverse n c) (ap (num n) (sym (butterfly-inverse-place n F p)) ∙ sym (butterfly-source n c F r q))
    ∙ inverse-butterfly n c (num n q)

pub within-range : (k : ℕ) (h : Bool) (e s : ℕ) → InRange (suc k) e s → InRange (suc (suc k)) e (weight h k + s)
within-range k h e s i = record { at_stage = omega (arith, i.at_stage); switch = omega (arith, i.switch, weight-le h k) }

agree-within :
    (n : ℕ) (h : Bool) (c d : ℕ → ℕ → Bool)
    → Same (suc n) c d
    → Same n (within n h c) (within n h d)
agree-within zero h c d agree e s i = absurd (omega (arith, i.at_stage))
agree-within (suc k) h c d agree e s i = agree e (weight h k + s) (within-range k h e s i)

pub reads-cong :
    (n : ℕ) (c d : ℕ → ℕ → Bool) (F : ControlTree n) → Same n c d → ReadsTree n d F → ReadsTree n c F
reads-cong zero c d F agree r = tt
reads-cong (suc n) c d F agree r =
    record {
      outer = λ q.
          agree n (num n q) (record { at_stage = omega arith; switch = omega (arith, num-lt n q) })
          ∙ r.outer q;
      halves = λ h.
          reads-cong n (within n h c) (within n h d) (half n F h) (agree-within n h c d agree) (r.halves h);
    }

control-outer : (n : ℕ) (F : ControlTree (suc n)) (q : Place n) → tree_control n F n q ≡ at n F.outer q
unfolding tree_control
control-outer zero F q = refl
control-outer (suc n) F q =
    ap
    (λ (b : Bool). cond b (at (suc n) F.outer q) (tree_control n (half (suc n) F q.0) (suc n) q.1))
    (eq-eqb (suc n) (suc n) refl)

control-inner :
    (k : ℕ) (F : ControlTree (suc (suc k))) (h : Bool) (e s : ℕ)
    → InRange (suc k) e s
    → tree_control (suc k) F e (place (suc k) (weight h k + s)) ≡ tree_control k (half (suc k) F h) e (place k s)
unfolding tree_control
control-inner k F h e s i =
    ap (tree_control (suc k) F e) (place-weight h k s (omega (arith, i.switch)))
    ∙ ap
    (λ (b : Bool). cond b (at (suc k) F.outer (h, place k s)) (tree_control k (half (suc k) F h) e (place k s)))
    (ne_eqb e (suc k) (λ q. absurd (omega (arith, i.at_stage))))

-- the stages of a network by halves, read over the whole width
pub reads-flat : (n : ℕ) (F : ControlTree n) → ReadsTree n (flat n F) F
unfolding flat
reads-flat zero F = tt
reads-flat (suc n) F =
    record {
      outer = λ q. ap (tree_control n F n) (place-num n q) ∙ control-outer n F q;
      halves = λ h.
          reads-cong n (within n h (flat (suc n) F)) (flat n (half n F h)) (half n F h) (inner n F h)
          (reads-flat n (half n F h));
    }
  where
    inner : (n : ℕ) (F : ControlTree (suc n)) (h : Bool) → Same n (within n h (flat (suc n) F)) (flat n (half n F h))
    inner zero F h e s i = absurd (omega (arith, i.at_stage))
    inner (suc k) F h e s i = control-inner k F h e s i

-- and the other way
pub tree_of : (n : ℕ) → (ℕ → ℕ → Bool) → ControlTree n
tree_of zero c = tt
tree_of (suc n) c =
    record {
      outer = tab n (λ q. c n (num n q));
      lower = tree_of n (within n false c);
      upper = tree_of n (within n true c);
    }

pub reads-tree : (n : ℕ) (c : ℕ → ℕ → Bool) → ReadsTree n c (tree_of n c)
unfolding tree_of half
reads-tree zero c = tt
reads-tree (suc n) c =
    record {
      outer = λ q. sym (at-tab n (λ q. c n (num n q)) q);
      halves = λ h. go h (reads-tree n (within n false c)) (reads-tree n (within n true c));
    }
  where
    go :
        (h : Bool)
        → ReadsTree n (within n false c) (tree_of n (within n false c))
        → ReadsTree n (within n true c) (tree_of n (within n true c))
        → ReadsTree n (within n h c) (cond h (tree_of n (within n true c)) (tree_of n (within n false c)))
    go false l u = l
    go true l u = u

-- stages that have the controls of one tree are the same
reads-inner :
    (n : ℕ) (c d : ℕ → ℕ → Bool)
    → ((h : Bool) → Same n (within n h c) (within n h d))
    → (e : ℕ)
    → e < n
    → (q : Place n)
    → c e (num n q) ≡ d e (num n q)
unfolding num
reads-inner zero c d halves e l q = absurd (omega arith)
reads-inner (suc k) c d halves e l q =
    halves q.0 e (num k q.1) (record { at_stage = l; switch = omega (arith, num-lt k q.1) })

pub reads_same : (n : ℕ) (c d : ℕ → ℕ → Bool) (F : ControlTree n) → ReadsTree n c F → ReadsTree n d F → Same n c d
reads_same zero c d F rc rd e s i = absurd (omega (arith, i.at_stage))
reads_same (suc n) c d F rc rd e s i =
    subst (λ (y : ℕ). c e y ≡ d e y) (num-place n s (omega (arith, i.switch)))
    (go (dec_lt e n) (λ h. reads_same n (within n h c) (within n h d) (half n F h) (rc.halves h) (rd.halves h)))
  where
    q : Place n
    q = place n s

    go :
        Dec (e < n)
        → ((h : Bool) → Same n (within n h c) (within n h d))
        → c e (num n q) ≡ d e (num n q)
    go (yes l) halves = reads-inner n c d halves e l q
    go (no g) halves =
        let x : n ≡ e = omega (arith, i.at_stage) in
        subst (λ (k : ℕ). c k (num n q) ≡ d k (num n q)) x (rc.outer q ∙ sym (rd.outer q))

-- controls that are the same move bits alike, through any network that moves them by what it reads
module _
    (n : ℕ)
    (move : (ℕ → ℕ → Bool) → ℕ → ℕ)
    (source : ControlTree n → Place n → Place n)
    (is : (c : ℕ → ℕ → Bool) (F : ControlTree n) → ReadsTree n c F → (p : Place n) → move c (num n p) ≡ num n (source F p))
  where
    move-cong : (c d : ℕ → ℕ → Bool) → Same n c d → (p : ℕ) → p < 2 ^ n → move c p ≡ move d p
    move-cong c d same p l =
        let F = tree_of n d in
        let r = reads-tree n d in
        let e = num-place n p l in
        ap (move c) (sym e)
        ∙ is c F (reads-cong n c d F same r) (place n p)
        ∙ sym (is d F r (place n p))
        ∙ ap (move d) e

pub butterfly-cong : (n : ℕ) (c d : ℕ → ℕ → Bool) → Same n c d → (p : ℕ) → p < 2 ^ n → butterfly n c p ≡ butterfly n d p
butterfly-cong n = move-cong n (butterfly n) (butterfly_source n) (butterfly-source n)

pub inverse-cong : (n : ℕ) (c d : ℕ → ℕ → Bool) → Same n c d → (p : ℕ) → p < 2 ^ n → inverse n c p ≡ inverse n d p
inverse-cong n = move-cong n (inverse n) (inverse_source n) (inverse-source n)
