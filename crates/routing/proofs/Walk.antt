-- Laws of the loop that sets a first stage: from each unset switch in order, walk round its loop and set what it meets.
-- Assumes nothing.
use mathlib.Core.Path.{◌≡◌, refl, sym, ap, ◌∙◌}
use mathlib.Core.Logic.{◌⊎◌, inl, inr, ◌≢◌}
use mathlib.Core.Bool.{Bool, true, false, not}
use Prim.Native.Nat.{ℕ, zero, suc, ◌+◌, ◌-◌, ◌≤◌, ◌<◌}
use native.Mathlib.Decide.{dec_lt, ℕ_discrete}
use native.Mathlib.Omega.{arith}
use Rattle.routing.specs.Loop.{Maps, IsPermutation, xor, pass, flip, side, loop_turn, loop_turns}
use Rattle.routing.specs.Marks.{Mark, unset, set, Marks, Given, Right, SetTo}
use Rattle.routing.specs.Walk.{stand, LoopsSet, Walk}
use Rattle.routing.proofs.Stage.{flip-switch, same_switch}
use Rattle.routing.proofs.Loop.{Numbered, turn-back, turns-suc, side-turns, same-on-loop, reach-sym, return, repeats}
use Rattle.routing.proofs.First.{least_of, least-is, first_of, first-valid, passes-if-least}

given-or-unset : {S : Type 0} (M : Marks S) (s : S) → Given M s ⊎ (M s ≡ unset)
given-or-unset M s = go (M s) refl
  where
    go : (v : Mark) → M s ≡ v → Given M s ⊎ (M s ≡ unset)
    go unset e = inr e
    go (set v) e = inl (record { value = v; is = e })

pub given-not-unset : {S : Type 0} (M : Marks S) (s : S) → Given M s → M s ≡ unset → ⊥
given-not-unset M s g e = let z : ◌≡◌ {A = ℕ} 0 1 = cc (g.is, e) in omega arith

pub given-along : {S : Type 0} {M : Marks S} {s t : S} → s ≡ t → Given M t → Given M s
given-along e g = rw e g

xor-true : (a b : Bool) → xor a b ≡ true → a ≡ not b
xor-true false true e = refl
xor-true false false e = e
xor-true true true e = sym e
xor-true true false e = refl

module _ {S : Type 0} (K : Numbered S) (m : Maps (Bool × S)) (perm : IsPermutation m) where
  decide : (s t : S) → Dec (s ≡ t)
  decide s t = go (ℕ_discrete (K.index s) (K.index t))
    where
      go : Dec (K.index s ≡ K.index t) → Dec (s ≡ t)
      go (yes e) = yes (K.injective s t e)
      go (no ne) = no (λ e. ne (ap K.index e))

  turn-back-switch : (x : Bool × S) → (loop_turn m (flip (loop_turn m x))).1 ≡ x.1
  turn-back-switch x = ap (λ (y : Bool × S). y.1) (turn-back m perm x) ∙ flip-switch x

  pub settled-start : (M : Marks S) → ((s : S) → M s ≡ unset) → LoopsSet K.index K.count m 0 M
  settled-start M none =
      record {
        right = λ s v e. absurd (given-not-unset M s (record { value = v; is = e }) (none s));
        below = λ s h. absurd (omega arith);
        closed = λ x g. absurd (given-not-unset M x.1 g (none x.1));
      }

  extend : {k : ℕ} {M : Marks S} → LoopsSet K.index K.count m k M → (s : S) → K.index s ≡ k → Given M s → (t : S) → K.index t < suc k → Given M t
  extend {k} {M} st s e g t h = go (dec_lt (K.index t) k)
    where
      go : Dec (K.index t < k) → Given M t
      go (yes l) = st.below t l
      go (no n) = let q : K.index s ≡ K.index t = omega arith in rw (K.injective s t q) at g

  -- a start that is set already is passed over
  pub settled-skip : {M : Marks S} (s : S) → LoopsSet K.index K.count m (K.index s) M → Given M s → LoopsSet K.index K.count m (suc (K.index s)) M
  settled-skip {M} s st g =
      record { right = st.right; below = extend st s refl g; closed = st.closed }

  -- in the end the stage is the first stage
  pub settled-end : {M : Marks S} → LoopsSet K.index K.count m K.count M → (s : S) → M s ≡ set (first_of K m perm s)
  settled-end {M} st s =
      let g = st.below s (K.small s) in
      g.is ∙ ap set (sym (st.right s g.value g.is))

  closed-turns : {k : ℕ} {M : Marks S} → LoopsSet K.index K.count m k M → (j : ℕ) (x : Bool × S) → Given M x.1 → Given M (loop_turns m j x).1
  unfolding loop_turns
  closed-turns st zero x g = g
  closed-turns st (suc j) x g = closed-turns st j (loop_turn m x) (st.closed x g)

  -- an unset switch with all below it set is the least of its loop
  fresh-passes : {M : Marks S} (s : S) → LoopsSet K.index K.count m (K.index s) M → M s ≡ unset → first_of K m perm s ≡ pass
  fresh-passes {M} s st none =
      passes-if-least K m perm s
      (λ l.
      let r = reach-sym K m perm (least-is K m perm (false, s)).on in
      let g =
      closed-turns st r.steps (least_of K m perm (false, s))
      (st.below (least_of K m perm (false, s)).1 l) in
      given-not-unset M s (rw r.ends at g) none)

  -- what a store does to the facts of a walk
  module _ {M M' : Marks S} {s : S} {v : Bool} (d : SetTo M s v M') where
    pub given-here : Given M' s
    given-here = record { value = v; is = d.here }

    pub given-still : (t : S) → Given M t → Given M' t
    given-still t g = go (decide t s)
      where
        go : Dec (t ≡ s) → Given M' t
        go (yes e) = rw e given-here
        go (no ne) = record { value = g.value; is = d.elsewhere t ne ∙ g.is }

    given-only : (t : S) → Given M' t → Given M t ⊎ (s ≡ t)
    given-only t g = go (decide t s)
      where
        go : Dec (t ≡ s) → Given M t ⊎ (s ≡ t)
        go (yes e) = inr (sym e)
        go (no ne) = inl (record { value = g.value; is = sym (d.elsewhere t ne) ∙ g.is })

    pub right-still : (f : S → Bool) → Right f M → f s ≡ v → Right f M'
    right-still f r e t u h = go (decide t s)
      where
        go : Dec (t ≡ s) → f t ≡ u
        go (yes q) = cc d.here
        go (no ne) = r t u (sym (d.elsewhere t ne) ∙ h)

  pub walk_start :
      {M M' : Marks S} (s : S)
      → LoopsSet K.index K.count m (K.index s) M
      → M s ≡ unset
      → SetTo M s pass M'
      → Walk K.index K.count m M s 0 M'
  unfolding loop_turns
  walk_start {M} {M'} s st none d =
      record {
        before = st;
        fresh = none;
        right = right-still d (first_of K m perm) st.right (fresh-passes s st none);
        kept = given-still d;
        walked = λ i h. at i h;
        only = λ t g. whence t (given-only d t g);
        unclosed = λ i h. absurd (omega arith);
      }
    where
      at : (i : ℕ) → i ≤ 0 → Given M' (stand m s i).1
      at zero h = given-here d
      at (suc i) h = absurd (omega arith)

      whence : (t : S) → Given M t ⊎ (s ≡ t) → Given M t ⊎ ((i : ℕ) × (i ≤ 0) × ((stand m s i).1 ≡ t))
      whence t (inl g) = inl g
      whence t (inr e) = inr (0, omega arith, e)

  module _ {M₀ M : Marks S} {s : S} {j : ℕ} (w : Walk K.index K.count m M₀ s j M) where
    -- the bits of the walk go to the upper side
    pub walk-side : (i : ℕ) → side (first_of K m perm) (stand m s i) ≡ true
    unfolding side
    walk-side i =
        side-turns m perm (first_of K m perm) (first-valid K m perm) i (true, s)
        ∙ ap (λ (b : Bool). xor b true) (fresh-passes s w.before w.fresh)

    -- so a first switch swaps exactly if the walk meets its low bit
    walk-value : (i : ℕ) → first_of K m perm (stand m s i).1 ≡ not (stand m s i).0
    unfolding side
    walk-value i = xor-true (first_of K m perm (stand m s i).1) (stand m s i).0 (walk-side i)

    -- the next switch is the start, or is unset
    pub walk-next : (stand m s (suc j)).1 ≢ s → M (stand m s (suc j)).1 ≡ unset
    unfolding loop_turns
    walk-next ne = go (given-or-unset M (stand m s (suc j)).1)
      where
        go : Given M (stand m s (suc j)).1 ⊎ (M (stand m s (suc j)).1 ≡ unset) → M (stand m s (suc j)).1 ≡ unset
        go (inr e) = e
        go (inl g) = absurd (from (w.only (stand m s (suc j)).1 g))
          where
            from :
                Given M₀ (stand m s (suc j)).1 ⊎ ((i : ℕ) × (i ≤ j) × ((stand m s i).1 ≡ (stand m s (suc j)).1))
                → ⊥
            from (inl g₀) =
                let r = return K m perm (suc j) (true, s) in
                let g₁ = closed-turns w.before r.steps (stand m s (suc j)) g₀ in
                given-not-unset M₀ s (rw r.ends at g₁) w.fresh
            from (inr (zero, h, e)) = ne (sym e)
            from (inr (suc i, h, e)) =
                let q : suc j ≡ suc i + suc (j - suc i) = omega arith in
                w.unclosed (j - suc i) (omega arith)
                (repeats m perm (suc i) (suc (j - suc i)) (true, s)
                (ap (λ (k : ℕ). (stand m s k).1) (sym q) ∙ sym e))

    pub walk_step :
        {M' : Marks S}
        → (stand m s (suc j)).1 ≢ s
        → SetTo M (stand m s (suc j)).1 (not (stand m s (suc j)).0) M'
        → Walk K.index K.count m M₀ s (suc j) M'
    walk_step {M'} ne d =
        record {
          before = w.before;
          fresh = w.fresh;
          right = right-still d (first_of K m perm) w.right (walk-value (suc j));
          kept = λ t g. given-still d t (w.kept t g);
          walked = λ i h. at i h (dec_lt j i);
          only = λ t g. whence t (given-only d t g);
          unclosed = λ i h. apart i h (dec_lt i j);
        }
      where
        at : (i : ℕ) → i ≤ suc j → Dec (j < i) → Given M' (stand m s i).1
        at i h (yes l) = let e : suc j ≡ i = omega arith in rw e at (given-here d)
        at i h (no n) = given-still d (stand m s i).1 (w.walked i (omega arith))

        further :
            (t : S)
            → Given M₀ t ⊎ ((i : ℕ) × (i ≤ j) × ((stand m s i).1 ≡ t))
            → Given M₀ t ⊎ ((i : ℕ) × (i ≤ suc j) × ((stand m s i).1 ≡ t))
        further t (inl g) = inl g
        further t (inr (i, h, e)) = inr (i, omega arith, e)

        whence :
            (t : S)
            → Given M t ⊎ ((stand m s (suc j)).1 ≡ t)
            → Given M₀ t ⊎ ((i : ℕ) × (i ≤ suc j) × ((stand m s i).1 ≡ t))
        whence t (inl g) = further t (w.only t g)
        whence t (inr e) = inr (suc j, omega arith, e)

        apart : (i : ℕ) → i < suc j → Dec (i < j) → stand m s (suc i) ≢ (true, s)
        apart i h (yes l) = w.unclosed i l
        apart i h (no n) = λ e. let q : i ≡ j = omega arith in ne (rw (← q) (ap (λ (y : Bool × S). y.1) e))

    pub walk_end : (stand m s (suc j)).1 ≡ s → LoopsSet K.index K.count m (suc (K.index s)) M
    unfolding loop_turns
    walk_end back =
        record {
          right = w.right;
          below = λ t h. under t (dec_lt (K.index t) (K.index s)) h;
          closed = λ x g. onward x (w.only x.1 g);
        }
      where
        round : loop_turn m (stand m s j) ≡ (true, s)
        round = sym (turns-suc m perm j (true, s)) ∙ same-on-loop m perm (suc j) (true, s) back

        under : (t : S) → Dec (K.index t < K.index s) → K.index t < suc (K.index s) → Given M t
        under t (yes l) h = w.kept t (w.before.below t l)
        under t (no n) h =
            let q : K.index s ≡ K.index t = omega arith in
            rw (K.injective s t q) at (w.walked 0 (omega arith))

        -- from a bit of the walk on, and from the other bit of its switch back
        ahead : (i : ℕ) → i ≤ j → Dec (i < j) → Given M (loop_turn m (stand m s i)).1
        ahead i h (yes l) = rw (turns-suc m perm i (true, s)) at (w.walked (suc i) l)
        ahead i h (no n) =
            let q : i ≡ j = omega arith in
            rw (q, round) (w.walked 0 (omega arith))

        behind : (i : ℕ) → i ≤ j → Given M (loop_turn m (flip (stand m s i))).1
        behind zero h =
            given-along
            (ap (λ (y : Bool × S). (loop_turn m (flip y)).1) (sym round) ∙ turn-back-switch (stand m s j))
            (w.walked j (omega arith))
        behind (suc i) h =
            given-along
            (ap (λ (y : Bool × S). (loop_turn m (flip y)).1) (turns-suc m perm i (true, s))
            ∙ turn-back-switch (stand m s i))
            (w.walked i (omega arith))

        onward :
            (x : Bool × S)
            → Given M₀ x.1 ⊎ ((i : ℕ) × (i ≤ j) × ((stand m s i).1 ≡ x.1))
            → Given M (loop_turn m x).1
        onward x (inl g) = w.kept (loop_turn m x).1 (w.before.closed x g)
        onward x (inr (i, h, e)) = pick (same_switch x (stand m s i) (sym e))
          where
            pick : (x ≡ stand m s i) ⊎ (x ≡ flip (stand m s i)) → Given M (loop_turn m x).1
            pick (inl p) = rw p (ahead i h (dec_lt i j))
            pick (inr p) = rw p (behind i h)
