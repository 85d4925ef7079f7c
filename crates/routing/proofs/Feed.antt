-- The last stage, set along the same walk: at each bit that it stands at, the last switch of that bit.
-- Assumes nothing.
use mathlib.Core.Path.{◌≡◌, refl, sym, ap, ◌∙◌}
use mathlib.Core.Logic.{◌⊎◌, inl, inr}
use mathlib.Core.Bool.{Bool, true, false, not}
use Prim.Native.Nat.{ℕ, zero, suc, ◌≤◌, ◌<◌}
use native.Mathlib.Decide.{dec_lt}
use native.Mathlib.Omega.{arith}
use Rattle.routing.specs.Loop.{Maps, IsPermutation, flip, side, Valid, loop_turn, loop_turns, last_stage}
use Rattle.routing.specs.Marks.{Marks, set, Given, SetTo}
use Rattle.routing.specs.Walk.{stand, LoopsSet, LoopsFed, Walk, WalkFed}
use Rattle.routing.proofs.Stage.{flip-flip, flip-switch, same_switch}
use Rattle.routing.proofs.Loop.{Numbered, turns-suc, same-on-loop}
use Rattle.routing.proofs.First.{first_of, first-valid}
use Rattle.routing.proofs.Walk.{walk-side, given-along, given-here, given-still, right-still}

module _ {S : Type 0} (K : Numbered S) (m : Maps (Bool × S)) (perm : IsPermutation m) where
  from_back : (x : Bool × S) → (m.from (flip (loop_turn m x))).1 ≡ (m.from x).1
  unfolding loop_turn
  from_back x =
      rw (flip-flip (m.to (flip (m.from x))), perm.from-to (flip (m.from x))) (flip-switch (m.from x))

  -- a last switch swaps exactly if its low place takes a bit of the upper side
  last-value :
      (f : S → Bool)
      → Valid m f
      → (x : Bool × S)
      → side f x ≡ true
      → last_stage m f (m.from x).1 ≡ not (m.from x).0
  unfolding last_stage flip
  last-value f valid x up = go (m.from x).0 (m.from x).1 refl
    where
      go : (h : Bool) (q : S) → m.from x ≡ (h, q) → side f (m.to (false, q)) ≡ not h
      go false q e = cc (perm.to-from x)
      go true q e = cc (perm.to-from x, valid (true, q))

  abbrev last_of : S → Bool
  last_of q = last_stage m (first_of K m perm) q

  pub feed-start : {M₀ G : Marks S} (s : S) → LoopsFed K.index K.count m M₀ G → WalkFed K.index K.count m M₀ s 0 G
  feed-start s d = record { right = d.right; old = d.fed; behind = λ i h. absurd (omega arith) }

  module _ {M₀ M : Marks S} {s : S} {j : ℕ} (w : Walk K.index K.count m M₀ s j M) where
    pub feed-step :
        {G G' : Marks S}
        → WalkFed K.index K.count m M₀ s j G
        → SetTo G (m.from (stand m s j)).1 (not (m.from (stand m s j)).0) G'
        → WalkFed K.index K.count m M₀ s (suc j) G'
    feed-step {G} {G'} p d =
        record {
          right =
              right-still K m perm d last_of p.right
              (last-value (first_of K m perm) (first-valid K m perm) (stand m s j)
              (walk-side K m perm w j));
          old = λ x g. given-still K m perm d (m.from x).1 (p.old x g);
          behind = λ i h. at i h (dec_lt i j);
        }
      where
        at : (i : ℕ) → i < suc j → Dec (i < j) → Given G' (m.from (stand m s i)).1
        at i h (yes l) = given-still K m perm d (m.from (stand m s i)).1 (p.behind i l)
        at i h (no n) = let e : j ≡ i = omega arith in rw e at (given-here K m perm d)

    pub feed-end :
        {G : Marks S} → WalkFed K.index K.count m M₀ s (suc j) G → (stand m s (suc j)).1 ≡ s → LoopsFed K.index K.count m M G
    unfolding loop_turns
    feed-end {G} p back = record { right = p.right; fed = λ x g. reach x (w.only x.1 g) }
      where
        round : (true, s) ≡ loop_turn m (stand m s j)
        round = sym (same-on-loop m perm (suc j) (true, s) back) ∙ turns-suc m perm j (true, s)

        other : (i : ℕ) → i ≤ j → Given G (m.from (flip (stand m s i))).1
        other zero h =
            given-along
            (ap (λ (y : Bool × S). (m.from (flip y)).1) round ∙ from_back (stand m s j))
            (p.behind j (omega arith))
        other (suc i) h =
            given-along
            (ap (λ (y : Bool × S). (m.from (flip y)).1) (turns-suc m perm i (true, s))
            ∙ from_back (stand m s i))
            (p.behind i (omega arith))

        reach :
            (x : Bool × S)
            → Given M₀ x.1 ⊎ ((i : ℕ) × (i ≤ j) × ((stand m s i).1 ≡ x.1))
            → Given G (m.from x).1
        reach x (inl g) = p.old x g
        reach x (inr (i, h, e)) = pick (same_switch x (stand m s i) (sym e))
          where
            pick : (x ≡ stand m s i) ⊎ (x ≡ flip (stand m s i)) → Given G (m.from x).1
            pick (inl q) = rw q (p.behind i (omega arith))
            pick (inr q) = rw q (other i h)

  -- in the end the stage is the last stage of the first stage
  pub fed-end : {M G : Marks S} → LoopsSet K.index K.count m K.count M → LoopsFed K.index K.count m M G → (q : S) → G q ≡ set (last_of q)
  fed-end {M} {G} st d q =
      let x = m.to (false, q) in
      let e = perm.from-to (false, q) in
      let g : Given G q =
      given-along (ap (λ (y : Bool × S). y.1) (sym e)) (d.fed x (st.below x.1 (K.small x.1))) in
      g.is ∙ ap set (sym (d.right q g.value g.is))
