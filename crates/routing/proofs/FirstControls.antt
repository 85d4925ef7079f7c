-- The first controls of a permutation of numbers: they bring every bit to its place, and all others come later.
-- Assumes nothing.
use mathlib.Core.Path.{◌≡◌, sym, ap, ◌∙◌, fun_ext}
use mathlib.Core.Logic.{◌⊎◌, inl, inr}
use Prim.Native.Nat.{ℕ, ◌^◌, ◌<◌}
use Rattle.routing.specs.Place.{Place, num, place}
use Rattle.routing.specs.Loop.{Maps, IsPermutation}
use Rattle.routing.specs.Net.{inverse_source, Net, net_source, NetRealises, first_net}
use Rattle.routing.specs.Stages.{Butterfly, Inverse, butterfly, StageControls, network, Agree, ComesLater, flat, net_controls}
use Rattle.routing.specs.FirstControls.{Permutes, Brings, IsFirst, on_places, first_controls}
use Rattle.routing.proofs.Stage.{maps-path}
use Rattle.routing.proofs.PlaceNumbers.{num-lt, place-num, num-place}
use Rattle.routing.proofs.Halves.{first-realises}
use Rattle.routing.proofs.Flat.{butterfly-source, inverse-source, reads-cong, reads-flat, tree_of, reads-tree, reads_same}
use Rattle.routing.proofs.Leads.{ReadsNet, leads}
use Rattle.routing.proofs.Later.{agree-or-later}

-- a net and its stages over the whole width move bits alike
network-source :
    (n : ℕ) (C : StageControls) (N : Net n)
    → ReadsNet n C N
    → (p : Place n)
    → network n C (num n p) ≡ num n (net_source n N p)
unfolding network
network-source n C N r p =
    ap (butterfly n (λ e. C (Butterfly e))) (inverse-source n (λ e. C (Inverse e)) N.inverse r.inverse p)
    ∙ butterfly-source n (λ e. C (Butterfly e)) N.butterfly r.butterfly (inverse_source n N.inverse p)

reads-controls : (n : ℕ) (N : Net n) → ReadsNet n (net_controls n N) N
reads-controls n N = record { butterfly = reads-flat n N.butterfly; inverse = reads-flat n N.inverse }

net_of : (n : ℕ) → StageControls → Net n
net_of n C = record { butterfly = tree_of n (λ e. C (Butterfly e)); inverse = tree_of n (λ e. C (Inverse e)) }

reads-net : (n : ℕ) (C : StageControls) → ReadsNet n C (net_of n C)
unfolding net_of
reads-net n C =
    record {
      butterfly = reads-tree n (λ e. C (Butterfly e));
      inverse = reads-tree n (λ e. C (Inverse e));
    }

-- only the values below 2^n count
pub first-controls-cong :
    (n : ℕ) (π ρ π' ρ' : ℕ → ℕ)
    → ((p : ℕ) → p < 2 ^ n → π p ≡ π' p)
    → ((x : ℕ) → x < 2 ^ n → ρ x ≡ ρ' x)
    → first_controls n π ρ ≡ first_controls n π' ρ'
unfolding first_controls on_places
first-controls-cong n π ρ π' ρ' to from =
    ap (λ (m : Maps (Place n)). net_controls n (first_net n m))
    (maps-path
    (fun_ext (λ p. ap (place n) (to (num n p) (num-lt n p))))
    (fun_ext (λ x. ap (place n) (from (num n x) (num-lt n x)))))

-- a permutation has one inverse
pub inverse-unique :
    (w : ℕ) (π ρ π' ρ' : ℕ → ℕ)
    → Permutes w π ρ
    → Permutes w π' ρ'
    → ((p : ℕ) → p < w → π p ≡ π' p)
    → (x : ℕ)
    → x < w
    → ρ x ≡ ρ' x
inverse-unique w π ρ π' ρ' a b same x l =
    let k = b.from-small x l in
    ap ρ (sym (b.to-from x l) ∙ sym (same (ρ' x) k)) ∙ a.from-to (ρ' x) k

-- a permutation of places is one of their numbers
pub permutes-places :
    (n : ℕ) (π ρ : ℕ → ℕ)
    → ((p : ℕ) → p < 2 ^ n → π p < 2 ^ n)
    → ((x : ℕ) → x < 2 ^ n → ρ x < 2 ^ n)
    → IsPermutation (on_places n π ρ)
    → Permutes (2 ^ n) π ρ
unfolding on_places
permutes-places n π ρ to from perm =
    record {
      to-small = to;
      from-small = from;
      to-from = λ x l. back π ρ to from perm.to-from x l;
      from-to = λ p l. back ρ π from to perm.from-to p l;
    }
  where
    back :
        (α β : ℕ → ℕ)
        → ((p : ℕ) → p < 2 ^ n → α p < 2 ^ n)
        → ((x : ℕ) → x < 2 ^ n → β x < 2 ^ n)
        → ((x : Place n) → place n (α (num n (place n (β (num n x))))) ≡ x)
        → (x : ℕ)
        → x < 2 ^ n
        → α (β x) ≡ x
    back α β sa sb e x l =
        let k = num-place n x l in
        sym (num-place n (α (β x)) (sa (β x) (sb x l)))
        ∙ ap (λ (y : ℕ). num n (place n (α y))) (sym (num-place n (β x) (sb x l)))
        ∙ ap (λ (y : ℕ). num n (place n (α (num n (place n (β y)))))) (sym k)
        ∙ ap (num n) (e (place n x))
        ∙ k

module _ (n : ℕ) (π ρ : ℕ → ℕ) (perm : Permutes (2 ^ n) π ρ) where
  pub on-places : IsPermutation (on_places n π ρ)
  unfolding on_places
  on-places =
      record {
        to-from = λ x.
            let l = num-lt n x in
            ap (λ (y : ℕ). place n (π y)) (num-place n (ρ (num n x)) (perm.from-small (num n x) l))
            ∙ ap (place n) (perm.to-from (num n x) l)
            ∙ place-num n x;
        from-to = λ p.
            let l = num-lt n p in
            ap (λ (y : ℕ). place n (ρ y)) (num-place n (π (num n p)) (perm.to-small (num n p) l))
            ∙ ap (place n) (perm.from-to (num n p) l)
            ∙ place-num n p;
      }

  -- what a net realises on places, its stages bring on numbers, and back
  realises-brings :
      (C : StageControls) (N : Net n) → ReadsNet n C N → NetRealises n N (on_places n π ρ) → Brings n C π
  unfolding on_places
  realises-brings C N r real p l =
      let e = num-place n p l in
      ap (network n C) (sym e)
      ∙ network-source n C N r (place n p)
      ∙ ap (num n) (real (place n p))
      ∙ ap (λ (y : ℕ). num n (place n (π y))) e
      ∙ num-place n (π p) (perm.to-small p l)

  brings-realises :
      (C : StageControls) (N : Net n) → ReadsNet n C N → Brings n C π → NetRealises n N (on_places n π ρ)
  unfolding on_places
  brings-realises C N r brings p =
      sym (place-num n (net_source n N p))
      ∙ ap (place n) (sym (network-source n C N r p) ∙ brings (num n p) (num-lt n p))

  pub first-controls : IsFirst n (first_controls n π ρ) π
  unfolding first_controls
  first-controls =
      let m = on_places n π ρ in
      let C = net_controls n (first_net n m) in
      let r = reads-controls n (first_net n m) in
      record {
        brings = realises-brings C (first_net n m) r (first-realises n m on-places);
        others = λ D brings.
            agree-or-later n C D
            (leads n m on-places C D (net_of n D) r (reads-net n D)
            (brings-realises D (net_of n D) (reads-net n D) brings));
      }

-- controls that agree have the same net
reads-net-cong :
    (n : ℕ) (C D : StageControls) (N : Net n) → Agree n C D → ReadsNet n D N → ReadsNet n C N
reads-net-cong n C D N agree r =
    record {
      butterfly =
          reads-cong n (λ e. C (Butterfly e)) (λ e. D (Butterfly e)) N.butterfly (λ e. agree (Butterfly e))
          r.butterfly;
      inverse =
          reads-cong n (λ e. C (Inverse e)) (λ e. D (Inverse e)) N.inverse (λ e. agree (Inverse e))
          r.inverse;
    }

-- so stages have the controls of a net exactly if they agree with its own
pub agree-reads : (n : ℕ) (C : StageControls) (N : Net n) → Agree n C (net_controls n N) → ReadsNet n C N
agree-reads n C N agree = reads-net-cong n C (net_controls n N) N agree (reads-controls n N)

pub reads-agree : (n : ℕ) (C : StageControls) (N : Net n) → ReadsNet n C N → Agree n C (net_controls n N)
reads-agree n C N r (Butterfly e) =
    reads_same n (λ e. C (Butterfly e)) (flat n N.butterfly) N.butterfly r.butterfly (reads-flat n N.butterfly) e
reads-agree n C N r (Inverse e) =
    reads_same n (λ e. C (Inverse e)) (flat n N.inverse) N.inverse r.inverse (reads-flat n N.inverse) e

-- controls that agree bring the same bits
network-cong :
    (n : ℕ) (C D : StageControls) → Agree n C D → (p : ℕ) → p < 2 ^ n → network n C p ≡ network n D p
network-cong n C D agree p l =
    let e = num-place n p l in
    let r = reads-net n D in
    let q = reads-net-cong n C D (net_of n D) agree r in
    ap (network n C) (sym e)
    ∙ network-source n C (net_of n D) q (place n p)
    ∙ sym (network-source n D (net_of n D) r (place n p))
    ∙ ap (network n D) e

-- so controls that agree with the first are the first
pub first_cong : (n : ℕ) (π : ℕ → ℕ) (C D : StageControls) → Agree n C D → IsFirst n C π → IsFirst n D π
first_cong n π C D agree c =
    record {
      brings = λ p l. sym (network-cong n C D agree p l) ∙ c.brings p l;
      others = λ E brings. go E (c.others E brings);
    }
  where
    go : (E : StageControls) → Agree n C E ⊎ ComesLater n C E → Agree n D E ⊎ ComesLater n D E
    go E (inl a) = inl (λ c s i. sym (agree c s i) ∙ a c s i)
    go E (inr l) =
        inr
        (record {
          at_stage = l.at_stage;
          switch = l.switch;
          inside = l.inside;
          before = λ d t i b. sym (agree d t i) ∙ l.before d t i b;
          passes = sym (agree l.at_stage l.switch l.inside) ∙ l.passes;
          swaps = l.swaps;
        })
