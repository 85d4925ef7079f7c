-- One level: loops close, no loop meets both bits of a switch, a valid stage sends a loop to one side, and a loop has one least switch.
-- Assumes nothing.
use mathlib.Core.Path.{◌≡◌, refl, sym, ap, ◌∙◌}
use mathlib.Core.Logic.{◌⊎◌, inl, inr}
use mathlib.Core.Bool.{Bool}
use Prim.Native.Nat.{ℕ, zero, suc, ◌+◌, ◌-◌, ◌≤◌, ◌<◌}
use native.Mathlib.Nat.{suc-add, zero-add, add_comm}
use native.Mathlib.Decide.{dec_lt}
use native.Mathlib.Omega.{arith}
use Rattle.routing.specs.Loop.{Maps, IsPermutation, flip, side, Valid, loop_turn, loop_turns}
use Rattle.routing.proofs.Finite.{pigeonhole}
use Rattle.routing.proofs.Stage.{not-not, flip-flip, flip-ne, same_switch, side-flip}

-- a finite set of switches, each with a number of its own
pub record Numbered (S : Type 0) : Type 0 where
  pub index : S → ℕ
  pub count : ℕ
  pub small : (s : S) → index s < count
  pub injective : (s t : S) → index s ≡ index t → s ≡ t

pub record Reach {S : Type 0} (m : Maps (Bool × S)) (x y : Bool × S) : Type 0 where
  pub steps : ℕ
  pub ends : loop_turns m steps x ≡ y

module _ {S : Type 0} (m : Maps (Bool × S)) (perm : IsPermutation m) where
  pub turn-back : (x : Bool × S) → loop_turn m (flip (loop_turn m x)) ≡ flip x
  unfolding loop_turn
  turn-back x =
      rw (flip-flip (m.to (flip (m.from x))), perm.from-to (flip (m.from x)), flip-flip (m.from x), perm.to-from x)

  turn-injective : (x y : Bool × S) → loop_turn m x ≡ loop_turn m y → x ≡ y
  turn-injective x y e = cc (turn-back x, turn-back y, flip-flip x, flip-flip y)

  pub turns-suc : (k : ℕ) (x : Bool × S) → loop_turns m (suc k) x ≡ loop_turn m (loop_turns m k x)
  unfolding loop_turns
  turns-suc zero x = refl
  turns-suc (suc k) x = turns-suc k (loop_turn m x)

  turns-add : (j k : ℕ) (x : Bool × S) → loop_turns m (j + k) x ≡ loop_turns m k (loop_turns m j x)
  unfolding loop_turns
  turns-add zero k x = rw zero-add
  turns-add (suc j) k x = rw suc-add (turns-add j k (loop_turn m x))

  turns-injective : (k : ℕ) (x y : Bool × S) → loop_turns m k x ≡ loop_turns m k y → x ≡ y
  unfolding loop_turns
  turns-injective zero x y e = e
  turns-injective (suc k) x y e = turn-injective x y (turns-injective k (loop_turn m x) (loop_turn m y) e)

  turn-ne-flip : (x : Bool × S) → loop_turn m x ≡ flip x → ⊥
  unfolding loop_turn
  turn-ne-flip x e =
      flip-ne (m.from x)
      (cc (perm.from-to (flip (m.from x)), flip-flip x, flip-flip (m.to (flip (m.from x))), e))

  -- no loop meets both bits of a switch
  no-flip : (k : ℕ) (x : Bool × S) → loop_turns m k x ≡ flip x → ⊥
  unfolding loop_turns
  no-flip zero x e = flip-ne x (sym e)
  no-flip (suc zero) x e = turn-ne-flip x e
  no-flip (suc (suc k)) x e =
      no-flip k (loop_turn m x)
      (turn-injective (loop_turns m k (loop_turn m x)) (flip (loop_turn m x))
      (sym (turns-suc k (loop_turn m x)) ∙ e ∙ sym (turn-back x)))

  -- so bits of one loop at one switch are equal
  pub same-on-loop : (k : ℕ) (x : Bool × S) → (loop_turns m k x).1 ≡ x.1 → loop_turns m k x ≡ x
  same-on-loop k x e = go (same_switch (loop_turns m k x) x e)
    where
      go : (loop_turns m k x ≡ x) ⊎ (loop_turns m k x ≡ flip x) → loop_turns m k x ≡ x
      go (inl p) = p
      go (inr p) = absurd (no-flip k x p)

  -- a loop that comes back to a switch closes
  pub repeats : (i d : ℕ) (x : Bool × S) → (loop_turns m (i + d) x).1 ≡ (loop_turns m i x).1 → loop_turns m d x ≡ x
  repeats i d x e =
      turns-injective i (loop_turns m d x) x
      (sym (turns-add d i x)
      ∙ ap (λ (k : ℕ). loop_turns m k x) (add_comm d i)
      ∙ turns-add i d x
      ∙ same-on-loop d (loop_turns m i x) (ap (λ (y : Bool × S). y.1) (sym (turns-add i d x)) ∙ e))

  -- the loop of the other bits runs the other way
  turns-back : (k : ℕ) (x : Bool × S) → loop_turns m k (flip (loop_turns m k x)) ≡ flip x
  unfolding loop_turns
  turns-back zero x = refl
  turns-back (suc k) x =
      turns-suc k (flip (loop_turns m k (loop_turn m x))) ∙ ap (loop_turn m) (turns-back k (loop_turn m x)) ∙ turn-back x

  -- a valid stage sends a loop to one side
  side-turn : (f : S → Bool) → Valid m f → (x : Bool × S) → side f (loop_turn m x) ≡ side f x
  unfolding loop_turn
  side-turn f valid x =
      cc
      (side-flip f (m.to (flip (m.from x))), valid (m.from x), perm.to-from x, not-not (side f (m.to (m.from x))))

  pub side-turns :
      (f : S → Bool) → Valid m f → (k : ℕ) (x : Bool × S) → side f (loop_turns m k x) ≡ side f x
  unfolding loop_turns
  side-turns f valid zero x = refl
  side-turns f valid (suc k) x = side-turns f valid k (loop_turn m x) ∙ side-turn f valid x

module _ {S : Type 0} (K : Numbered S) (m : Maps (Bool × S)) (perm : IsPermutation m) where
  -- a loop closes in at most as many turns as there are switches
  pub record Period (x : Bool × S) : Type 0 where
    pub rest : ℕ
    pub short : rest < K.count
    pub closes : loop_turns m (suc rest) x ≡ x

  pub period : (x : Bool × S) → Period x
  period x =
      let c =
      pigeonhole K.count (λ i. K.index (loop_turns m i x).1) (λ i h. K.small (loop_turns m i x).1) in
      let d = c.high - suc c.low in
      let e : c.high ≡ c.low + suc d = omega (arith, c.ordered) in
      record {
        rest = d;
        short = omega (arith, c.ordered, c.within);
        closes =
            repeats m perm c.low (suc d) x
            (ap (λ (k : ℕ). (loop_turns m k x).1) (sym e)
            ∙ sym (K.injective (loop_turns m c.low x).1 (loop_turns m c.high x).1 c.same));
      }

  pub reach_step : {x y z : Bool × S} → Reach m x y → Reach m y z → Reach m x z
  reach_step {x} {y} {z} a b =
      record {
        steps = a.steps + b.steps;
        ends =
            turns-add m perm a.steps b.steps x ∙ ap (loop_turns m b.steps) a.ends ∙ b.ends;
      }

  pub return : (k : ℕ) (x : Bool × S) → Reach m (loop_turns m k x) x
  unfolding loop_turns
  return zero x = record { steps = 0; ends = refl }
  return (suc k) x =
      let p = period x in
      reach_step (return k (loop_turn m x)) (record { steps = p.rest; ends = p.closes })

  pub reach-sym : {x y : Bool × S} → Reach m x y → Reach m y x
  reach-sym {x} {y} a =
      let r = return a.steps x in
      record { steps = r.steps; ends = ap (loop_turns m r.steps) (sym a.ends) ∙ r.ends }

  pub reach-flip : {x y : Bool × S} → Reach m x y → Reach m (flip x) (flip y)
  reach-flip {x} {y} a =
      let b = reach-sym a in
      record {
        steps = b.steps;
        ends =
            ap (λ (z : Bool × S). loop_turns m b.steps (flip z)) (sym b.ends)
            ∙ turns-back m perm b.steps y;
      }

  pub stay : (x : Bool × S) → Reach m x x
  unfolding loop_turns
  stay x = record { steps = 0; ends = refl }

  pub reach-turn : (x : Bool × S) → Reach m x (loop_turn m x)
  unfolding loop_turns
  reach-turn x = record { steps = 1; ends = refl }

  -- y is the bit of the least switch on the loop of x
  pub record IsLeast (x y : Bool × S) : Type 0 where
    pub on : Reach m x y
    pub least-of : (z : Bool × S) → Reach m x z → K.index y.1 ≤ K.index z.1

  pub least-unique : (x y z : Bool × S) → IsLeast x y → IsLeast x z → y ≡ z
  least-unique x y z a b =
      let e : K.index y.1 ≡ K.index z.1 =
      omega (arith, a.least-of z b.on, b.least-of y a.on) in
      let r = reach_step (reach-sym b.on) a.on in
      sym r.ends
      ∙ same-on-loop m perm r.steps z
      (ap (λ (u : Bool × S). u.1) r.ends ∙ K.injective y.1 z.1 e)

  -- a loop is met within its period
  pub within-period : (x : Bool × S) (p : Period x) (i : ℕ) → (j : ℕ) × (j ≤ p.rest) × (loop_turns m i x ≡ loop_turns m j x)
  unfolding loop_turns
  within-period x p zero = (0, omega arith, refl)
  within-period x p (suc i) = go (within-period x p i)
    where
      go : (j : ℕ) × (j ≤ p.rest) × (loop_turns m i x ≡ loop_turns m j x) → (j : ℕ) × (j ≤ p.rest) × (loop_turns m (suc i) x ≡ loop_turns m j x)
      go r = at r.0 r.1 (turns-suc m perm i x ∙ ap (loop_turn m) r.2 ∙ sym (turns-suc m perm r.0 x)) (dec_lt r.0 p.rest)
        where
          at : (j : ℕ) → j ≤ p.rest → loop_turns m (suc i) x ≡ loop_turns m (suc j) x → Dec (j < p.rest) → (j : ℕ) × (j ≤ p.rest) × (loop_turns m (suc i) x ≡ loop_turns m j x)
          at j h e (yes l) = (suc j, l, e)
          at j h e (no g) = let q : j ≡ p.rest = omega arith in (0, omega arith, e ∙ ap (λ (k : ℕ). loop_turns m (suc k) x) q ∙ p.closes)
