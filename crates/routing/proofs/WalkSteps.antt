-- The walk by numbers, step for step as code does it: h = 2^n, permutation π and its inverse ρ on 2h places,
-- M the marks of the first stage, G those of the last.
-- Assumes nothing.
use mathlib.Core.Path.{◌≡◌, sym, ap, ◌∙◌, subst}
use mathlib.Core.Logic.{◌≢◌}
use mathlib.Core.Bool.{Bool, true, false, not}
use Prim.Native.Nat.{ℕ, suc, ◌+◌, ◌%◌, ◌^◌, ◌<◌}
use lib.Dec.{leb}
use Rattle.routing.specs.Place.{Place, weight, num, place}
use Rattle.routing.specs.Loop.{Maps, IsPermutation, pass, flip, loop_turn, loop_turns}
use Rattle.routing.specs.Marks.{Mark, unset, set, Marks, SetTo}
use Rattle.routing.specs.FirstControls.{Permutes, on_places}
use Rattle.routing.specs.Walk.{stand, LoopsDone, OnWalk}
use Rattle.routing.specs.Level.{other, first_swap, last_swap, Sets}
use Rattle.routing.proofs.Stage.{not-not, flip-switch}
use Rattle.routing.proofs.Loop.{Numbered, turns-suc}
use Rattle.routing.proofs.Walk.{settled-start, settled-skip, settled-end, walk_start, walk_step, walk_end, walk-next, given-not-unset}
use Rattle.routing.proofs.Feed.{feed-start, feed-step, feed-end, fed-end}
use Rattle.routing.proofs.PlaceNumbers.{num-lt, num-place, place-num, numbered}
use Rattle.routing.proofs.FirstControls.{on-places}
use Rattle.routing.proofs.Level.{num-switch, num-half, num-flip}

abbrev marks : (n : ℕ) → (ℕ → Mark) → Marks (Place n)
marks n M = λ q. M (num n q)

marked :
    (n : ℕ) (M M' : ℕ → Mark) (v : Bool) (s : ℕ) (q : Place n)
    → num n q ≡ s
    → Sets n M s v M'
    → SetTo (marks n M) q v (marks n M')
marked n M M' v s q e d =
    record {
      here = ap M' e ∙ d.here;
      elsewhere = λ t ne.
          d.elsewhere (num n t) (num-lt n t)
          (λ z. ne (sym (place-num n t) ∙ ap (place n) (z ∙ sym e) ∙ place-num n q));
    }

module _ (n : ℕ) (π ρ : ℕ → ℕ) (perm : Permutes (2 ^ suc n) π ρ) where
  abbrev m : Maps (Place (suc n))
  m = on_places (suc n) π ρ

  abbrev ok : IsPermutation m
  ok = on-places (suc n) π ρ perm

  abbrev K : Numbered (Place n)
  K = numbered n

  num-to : (p : Place (suc n)) → num (suc n) (m.to p) ≡ π (num (suc n) p)
  unfolding on_places
  num-to p = num-place (suc n) (π (num (suc n) p)) (perm.to-small (num (suc n) p) (num-lt (suc n) p))

  num-from : (x : Place (suc n)) → num (suc n) (m.from x) ≡ ρ (num (suc n) x)
  unfolding on_places
  num-from x = num-place (suc n) (ρ (num (suc n) x)) (perm.from-small (num (suc n) x) (num-lt (suc n) x))

  pub done-start :
      (M G : ℕ → Mark)
      → ((s : ℕ) → s < 2 ^ n → M s ≡ unset)
      → ((s : ℕ) → s < 2 ^ n → G s ≡ unset)
      → LoopsDone n π ρ 0 M G
  done-start M G ms gs =
      record {
        settled = settled-start K m ok (marks n M) (λ q. ms (num n q) (num-lt n q));
        fed =
            record {
              right = λ q v e.
                  absurd
                  (given-not-unset (marks n G) q (record { value = v; is = e }) (gs (num n q) (num-lt n q)));
              fed = λ x g. absurd (given-not-unset (marks n M) x.1 g (ms (num n x.1) (num-lt n x.1)));
            };
      }

  pub done-skip : (s : ℕ) (v : Bool) (M G : ℕ → Mark) → s < 2 ^ n → LoopsDone n π ρ s M G → M s ≡ set v → LoopsDone n π ρ (suc s) M G
  done-skip s v M G l d e =
      let q = num-place n s l in
      record {
        settled =
            rw q at
            (settled-skip K m ok (place n s) (rw (← q) at d.settled) (record { value = v; is = ap M q ∙ e }));
        fed = d.fed;
      }

  pub record Set (M G : ℕ → Mark) (s : ℕ) : Type 0 where
    pub first : M s ≡ set (first_swap n π ρ s)
    pub last : G s ≡ set (last_swap n π ρ s)

  pub done_end : (M G : ℕ → Mark) → LoopsDone n π ρ (2 ^ n) M G → (s : ℕ) → s < 2 ^ n → Set M G s
  unfolding first_swap last_swap
  done_end M G d s l =
      let q = num-place n s l in
      record {
        first = ap M (sym q) ∙ settled-end K m ok d.settled (place n s);
        last = ap G (sym q) ∙ fed-end K m ok d.settled d.fed (place n s);
      }

  -- an unset start passes, and the walk stands at its high bit
  pub at-start :
      (s : ℕ) (M G M' : ℕ → Mark)
      → s < 2 ^ n
      → LoopsDone n π ρ s M G
      → M s ≡ unset
      → Sets n M s pass M'
      → OnWalk n π ρ false s (2 ^ n + s) M' G
  unfolding num weight loop_turns
  at-start s M G M' l d e sets =
      let q = num-place n s l in
      record {
        start = l;
        old = marks n M;
        done = 0;
        walk =
            walk_start K m ok (place n s) (rw (← q) at d.settled) (ap M q ∙ e)
            (marked n M M' pass s (place n s) q sets);
        feed = feed-start K m ok (place n s) d.fed;
        stands = ap (λ (x : ℕ). 2 ^ n + x) q;
      }

  pub at_small : (s y : ℕ) (M G : ℕ → Mark) → OnWalk n π ρ false s y M G → y < 2 ^ suc n
  at_small s y M G a = rw a.stands at (num-lt (suc n) (stand m (place n s) a.done))

  -- the last step, at bit y: its place p = ρ y takes the upper side
  pub at_last :
      (s y : ℕ) (M G G' : ℕ → Mark)
      → OnWalk n π ρ false s y M G
      → Sets n G (ρ y % 2 ^ n) (not (leb (2 ^ n) (ρ y))) G'
      → OnWalk n π ρ true s y M G'
  at_last s y M G G' a sets =
      let x = stand m (place n s) a.done in
      let p : num (suc n) (m.from x) ≡ ρ y = num-from x ∙ ap ρ a.stands in
      let h : not (leb (2 ^ n) (ρ y)) ≡ not (m.from x).0 =
      ap not (sym (num-half n (m.from x) ∙ ap (leb (2 ^ n)) p)) in
      record {
        start = a.start;
        old = a.old;
        done = a.done;
        walk = a.walk;
        feed =
            feed-step K m ok a.walk a.feed
            (subst (λ (v : Bool). SetTo (marks n G) (m.from x).1 v (marks n G')) h
            (marked n G G' (not (leb (2 ^ n) (ρ y))) (ρ y % 2 ^ n) (m.from x).1
            (num-switch n (m.from x) ∙ ap (λ (z : ℕ). z % 2 ^ n) p) sets));
        stands = a.stands;
      }

  module _ (s y : ℕ) (M G : ℕ → Mark) (a : OnWalk n π ρ true s y M G) where
    -- the bit x that takes the other place of that last switch
    abbrev next : ℕ
    next = π (other n (ρ y))

    abbrev here : Place (suc n)
    here = stand m (place n s) a.done

    abbrev meets : Place (suc n)
    meets = m.to (flip (m.from here))

    abbrev ahead : Place (suc n)
    ahead = stand m (place n s) (suc a.done)

    meets-is : num (suc n) meets ≡ next
    meets-is =
        num-to (flip (m.from here))
        ∙ ap π (num-flip n (m.from here) ∙ ap (other n) (num-from here ∙ ap ρ a.stands))

    next-is : ahead ≡ flip meets
    unfolding loop_turn
    next-is = turns-suc m ok a.done (true, place n s)

    next-switch : num n ahead.1 ≡ next % 2 ^ n
    next-switch =
        ap (λ (x : Place (suc n)). num n x.1) next-is
        ∙ ap (num n) (flip-switch meets)
        ∙ num-switch n meets
        ∙ ap (λ (x : ℕ). x % 2 ^ n) meets-is

    next-half : leb (2 ^ n) next ≡ not ahead.0
    unfolding flip
    next-half =
        sym (num-half n meets ∙ ap (leb (2 ^ n)) meets-is)
        ∙ sym (ap (λ (x : Place (suc n)). not x.0) next-is ∙ not-not meets.0)

    next_start : next % 2 ^ n ≡ s → ahead.1 ≡ place n s
    next_start e = sym (place-num n ahead.1) ∙ ap (place n) (next-switch ∙ e)

    next-other : next % 2 ^ n ≢ s → ahead.1 ≢ place n s
    next-other ne e = ne (sym next-switch ∙ ap (num n) e ∙ num-place n s a.start)

    -- the loop is closed where x stands at the start's switch
    pub after-end : next % 2 ^ n ≡ s → LoopsDone n π ρ (suc s) M G
    after-end e =
        record {
          settled = rw (num-place n s a.start) at (walk_end K m ok a.walk (next_start e));
          fed = feed-end K m ok a.walk a.feed (next_start e);
        }

    -- else its switch is unset
    pub after-unset : next % 2 ^ n ≢ s → M (next % 2 ^ n) ≡ unset
    after-unset ne = ap M (sym next-switch) ∙ walk-next K m ok a.walk (next-other ne)

    -- the first step: x goes to the lower side, and the walk stands at its partner
    pub after_next :
        (M' : ℕ → Mark)
        → next % 2 ^ n ≢ s
        → Sets n M (next % 2 ^ n) (leb (2 ^ n) next) M'
        → OnWalk n π ρ false s (other n next) M' G
    after_next M' ne sets =
        record {
          start = a.start;
          old = a.old;
          done = suc a.done;
          walk =
              walk_step K m ok a.walk (next-other ne)
              (subst (λ (v : Bool). SetTo (marks n M) ahead.1 v (marks n M')) next-half
              (marked n M M' (leb (2 ^ n) next) (next % 2 ^ n) ahead.1 next-switch sets));
          feed = a.feed;
          stands = ap (num (suc n)) next-is ∙ num-flip n meets ∙ ap (other n) meets-is;
        }
