-- One step of the walk on the marks: what the first and the last step leave.
-- Assumes nothing.
use mathlib.Core.Path.{◌≡◌, refl, sym, ap, ◌∙◌, subst, fun_ext}
use mathlib.Core.Logic.{◌≢◌}
use mathlib.Core.Bool.{Bool, true, false, not}
use mathlib.Core.List.{List}
use Prim.Native.Nat.{ℕ, suc, ◌+◌, ◌*◌, ◌%◌, ◌^◌, ◌<◌}
use native.Mathlib.Nat.{mod-lt, mod-eq_of_lt}
use native.Mathlib.Omega.{arith}
use lib.Dec.{leb}
use lib.Pow.{pow_pos}
use lib.ListN.{get_or}
use borrow.Author.Tests.{lt-leb}
use Rattle.routing.specs.Place.{Place, num}
use Rattle.routing.specs.Marks.{Mark as Known, unset, Marks, count_unset}
use Rattle.routing.specs.Stages.{Stage, Butterfly, Inverse, exponent}
use Rattle.routing.specs.Level.{other, Sets}
use Rattle.routing.specs.Walk.{OnWalk}
use Rattle.routing.proofs.PlaceNumbers.{num-lt}
use Rattle.routing.proofs.Level.{other-small}
use Rattle.routing.proofs.UnsetSwitches.{count_same, count-falls}
use Rattle.routing.proofs.WalkSteps.{done-start, done-skip, at-start, at_small, at_last, after-end, after-unset, after_next}
use Rattle.first.specs.declared.Mark.{Mark}
use Rattle.first.specs.declared.Mark.TheVariants.{Swaps, Unset}
use Rattle.first.specs.Marks.{mark_swaps, mark_of, row, marks_at, BlockFits, InOuter, Kept, MarksSet}
use Rattle.first.specs.Blocks.{place_in, Settled, AtLast, AtFirst, Stepped, Routable}
use Rattle.first.proofs.Storing.{mark_set}

-- only the marks of switches below 2^n count
on-places : (n : ℕ) (M M' : ℕ → Known) → ((s : ℕ) → s < 2 ^ n → M' s ≡ M s) → ◌≡◌ {A = Marks (Place n)} (λ q. M (num n q)) (λ q. M' (num n q))
on-places n M M' same = fun_ext (λ q. sym (same (num n q) (num-lt n q)))

on-walk-cong :
    (n : ℕ) (π ρ : ℕ → ℕ) (fed : Bool) (s y : ℕ) (M M' G G' : ℕ → Known)
    → ((s : ℕ) → s < 2 ^ n → M' s ≡ M s)
    → ((s : ℕ) → s < 2 ^ n → G' s ≡ G s)
    → OnWalk n π ρ fed s y M G
    → OnWalk n π ρ fed s y M' G'
on-walk-cong n π ρ fed s y M M' G G' first last a =
    record {
      start = a.start;
      old = a.old;
      done = a.done;
      walk = rw (on-places n M M' first) at a.walk;
      feed = rw (on-places n G G' last) at a.feed;
      stands = a.stands;
    }

-- the unset switches of a block's first stage
unfoldable pub unset_in : ℕ → ℕ → List Mark → ℕ
unset_in e b marks = count_unset (marks_at (Butterfly e) b marks) (2 ^ e)

-- a block's switch among those of its stage
at_row : (c : Stage) (b s : ℕ) (marks : List Mark) → get_or marks (row c + b + s) Swaps ≡ get_or marks (row c + (b + s)) Swaps
at_row c b s marks = let q : row c + b + s ≡ row c + (b + s) = omega arith in ap (λ (i : ℕ). get_or marks i Swaps) q

pub kept_at :
    (In : Stage → ℕ → Type 0) (c : Stage) (b s : ℕ) (marks marks' : List Mark)
    → Kept In marks marks'
    → exponent c < 6
    → b + s < 32
    → ¬ In c (b + s)
    → get_or marks' (row c + b + s) Swaps ≡ get_or marks (row c + b + s) Swaps
kept_at In c b s marks marks' kept he hs out =
    at_row c b s marks' ∙ kept c (b + s) he hs out ∙ sym (at_row c b s marks)

pub kept_trans :
    (In : Stage → ℕ → Type 0) (marks marks' marks'' : List Mark)
    → Kept In marks marks'
    → Kept In marks' marks''
    → Kept In marks marks''
kept_trans In marks marks' marks'' k l c i he hi out = l c i he hi out ∙ k c i he hi out

module _ (e b : ℕ) (f : BlockFits e b) where
  -- a mark of one outer stage leaves the other as it is
  marked-beside :
      (c d : Stage) (s : ℕ) (v : Bool) (marks marks' : List Mark)
      → exponent d ≡ e
      → ¬ (d ≡ c)
      → MarksSet e b c s v marks marks'
      → (t : ℕ)
      → t < 2 ^ e
      → marks_at d b marks' t ≡ marks_at d b marks t
  marked-beside c d s v marks marks' de ne m t l =
      ap mark_of
      (kept_at (λ d i. (d ≡ c) × (i ≡ b + s)) d b t marks marks' m.kept (omega (arith, f.stage)) (omega (arith, f.room))
      (λ z. ne z.0))

  -- and all but the outer stages
  marked-kept :
      (c : Stage) (s : ℕ) (v : Bool) (marks marks' : List Mark)
      → exponent c ≡ e
      → s < 2 ^ e
      → MarksSet e b c s v marks marks'
      → Kept (InOuter e b) marks marks'
  marked-kept c s v marks marks' ce l m d i he hi out =
      m.kept d i he hi
      (λ z. out (record { outer = ap exponent z.0 ∙ ce; low = omega (arith, z.1); high = omega (arith, z.1) }))

apart : {e d : ℕ} → ¬ (Butterfly e ≡ Inverse d)
apart q = let z : ◌≡◌ {A = ℕ} 0 1 = cc in omega arith

module _ (e b : ℕ) (to from : List ℕ) where
  abbrev π : ℕ → ℕ
  π = place_in to b

  abbrev ρ : ℕ → ℕ
  ρ = place_in from b

  -- the last switch of bit y, in the place p that takes it
  module _ (s y : ℕ) (marks : List Mark) (at : AtLast e b to from s y marks) where
    pub last_bit : y < 2 ^ suc e
    last_bit = at_small e π ρ at.perm s y (marks_at (Butterfly e) b marks) (marks_at (Inverse e) b marks) at.walk

    pub last-place : ρ y < 2 ^ suc e
    last-place = at.perm.from-small y last_bit

    -- p is that place, o the other one of its switch, x the bit there, and w the first switch of x
    module _
        (marks' : List Mark)
        {p o x w : ℕ}
        (pq : p ≡ ρ y)
        (stored : MarksSet e b (Inverse e) (p % 2 ^ e) (not (leb (2 ^ e) p)) marks marks')
        (oq : o ≡ other e p)
        (xq : x ≡ π o)
        (wq : w ≡ x % 2 ^ e)
      where
        m : MarksSet e b (Inverse e) (ρ y % 2 ^ e) (not (leb (2 ^ e) (ρ y))) marks marks'
        m = subst (λ (p : ℕ). MarksSet e b (Inverse e) (p % 2 ^ e) (not (leb (2 ^ e) p)) marks marks') pq stored

        next : x ≡ π (other e (ρ y))
        next = xq ∙ ap π (oq ∙ ap (other e) pq)

        beside : (t : ℕ) → t < 2 ^ e → marks_at (Butterfly e) b marks' t ≡ marks_at (Butterfly e) b marks t
        beside =
            marked-beside e b at.fits (Inverse e) (Butterfly e) (ρ y % 2 ^ e) (not (leb (2 ^ e) (ρ y))) marks marks'
            refl apart m

        after : OnWalk e π ρ true s y (marks_at (Butterfly e) b marks') (marks_at (Inverse e) b marks')
        after =
            on-walk-cong e π ρ true s y (marks_at (Butterfly e) b marks) (marks_at (Butterfly e) b marks')
            (marks_at (Inverse e) b marks') (marks_at (Inverse e) b marks') beside (λ t l. refl)
            (at_last e π ρ at.perm s y (marks_at (Butterfly e) b marks) (marks_at (Inverse e) b marks)
            (marks_at (Inverse e) b marks') at.walk m.sets)

        pub last-kept : Kept (InOuter e b) marks marks'
        last-kept =
            marked-kept e b at.fits (Inverse e) (ρ y % 2 ^ e) (not (leb (2 ^ e) (ρ y))) marks marks' refl
            (mod-lt (ρ y) (pow_pos e)) m

        -- the loop is closed
        pub last-closed : w ≡ s → Stepped e b to from (suc s) marks marks'
        last-closed q =
            record {
              settled =
                  record {
                    long = m.long ∙ at.long;
                    perm = at.perm;
                    done =
                        after-end e π ρ at.perm s y (marks_at (Butterfly e) b marks') (marks_at (Inverse e) b marks') after
                        (ap (λ (x : ℕ). x % 2 ^ e) (sym next) ∙ sym wq ∙ q);
                  };
              kept = last-kept;
            }

        -- or it goes on
        pub last-first : w ≢ s → AtFirst e b to from s x marks'
        last-first ne =
            record {
              long = m.long ∙ at.long;
              fits = at.fits;
              perm = at.perm;
              last = y;
              walk = after;
              next = next;
              away = λ q. ne (wq ∙ q);
              small = omega (arith, next, at.perm.to-small (other e (ρ y)) (other-small e (ρ y) last-place));
            }

        pub last-count : unset_in e b marks' ≡ unset_in e b marks
        unfolding unset_in
        last-count = count_same (2 ^ e) (marks_at (Butterfly e) b marks) (marks_at (Butterfly e) b marks') beside

  -- the first switch of bit x
  module _
      (s x : ℕ)
      (marks marks' : List Mark)
      (at : AtFirst e b to from s x marks)
      (m : MarksSet e b (Butterfly e) (x % 2 ^ e) (leb (2 ^ e) x) marks marks')
    where
      pub first-kept : Kept (InOuter e b) marks marks'
      first-kept =
          marked-kept e b at.fits (Butterfly e) (x % 2 ^ e) (leb (2 ^ e) x) marks marks' refl (mod-lt x (pow_pos e)) m

      sets : Sets e (marks_at (Butterfly e) b marks) (π (other e (ρ at.last)) % 2 ^ e) (leb (2 ^ e) (π (other e (ρ at.last)))) (marks_at (Butterfly e) b marks')
      sets =
          subst
          (λ (x : ℕ). Sets e (marks_at (Butterfly e) b marks) (x % 2 ^ e) (leb (2 ^ e) x) (marks_at (Butterfly e) b marks'))
          at.next m.sets

      ne : π (other e (ρ at.last)) % 2 ^ e ≢ s
      ne = subst (λ (x : ℕ). x % 2 ^ e ≢ s) at.next at.away

      pub first-last : {o : ℕ} → o ≡ other e x → AtLast e b to from s o marks'
      first-last {o} oq =
          record {
            long = m.long ∙ at.long;
            fits = at.fits;
            perm = at.perm;
            walk =
                subst
                (λ (o : ℕ). OnWalk e π ρ false s o (marks_at (Butterfly e) b marks') (marks_at (Inverse e) b marks'))
                (sym (oq ∙ ap (other e) at.next))
                (on-walk-cong e π ρ false s (other e (π (other e (ρ at.last)))) (marks_at (Butterfly e) b marks')
                (marks_at (Butterfly e) b marks') (marks_at (Inverse e) b marks) (marks_at (Inverse e) b marks') (λ t l. refl)
                (marked-beside e b at.fits (Butterfly e) (Inverse e) (x % 2 ^ e) (leb (2 ^ e) x) marks marks' refl
                (λ q. apart (sym q)) m)
                (after_next e π ρ at.perm s at.last (marks_at (Butterfly e) b marks) (marks_at (Inverse e) b marks)
                at.walk (marks_at (Butterfly e) b marks') ne sets));
          }

      -- one less unset
      pub first-falls : suc (unset_in e b marks') ≡ unset_in e b marks
      unfolding unset_in
      first-falls =
          let y = π (other e (ρ at.last)) in
          count-falls e (y % 2 ^ e) (leb (2 ^ e) y) (marks_at (Butterfly e) b marks) (marks_at (Butterfly e) b marks')
          (mod-lt y (pow_pos e)) sets
          (after-unset e π ρ at.perm s at.last (marks_at (Butterfly e) b marks) (marks_at (Inverse e) b marks)
          at.walk ne)

  -- a switch that is settled already, and one that passes
  module _ (s : ℕ) (marks : List Mark) (f : BlockFits e b) (l : s < 2 ^ e) (settled : Settled e b to from s marks) where
    pub visit-skip : get_or marks (32 * e + b + s) Swaps ≢ Unset → Stepped e b to from (suc s) marks marks
    visit-skip ne =
        record {
          settled =
              record {
                long = settled.long;
                perm = settled.perm;
                done =
                    done-skip e π ρ settled.perm s (mark_swaps (get_or marks (32 * e + b + s) Swaps))
                    (marks_at (Butterfly e) b marks) (marks_at (Inverse e) b marks) l settled.done
                    (mark_set (get_or marks (32 * e + b + s) Swaps) ne);
              };
          kept = λ c i he hi out. refl;
        }

    module _ (marks' : List Mark) (m : MarksSet e b (Butterfly e) (s % 2 ^ e) (leb (2 ^ e) s) marks marks') where
      pub visit-last : {h : ℕ} → get_or marks (32 * e + b + s) Swaps ≡ Unset → h ≡ 2 ^ e → AtLast e b to from s (h + s) marks'
      visit-last {h} q hq =
          record {
            long = m.long ∙ settled.long;
            fits = f;
            perm = settled.perm;
            walk =
                subst
                (λ (h : ℕ).
                OnWalk e π ρ false s (h + s) (marks_at (Butterfly e) b marks') (marks_at (Inverse e) b marks'))
                (sym hq)
                (on-walk-cong e π ρ false s (2 ^ e + s) (marks_at (Butterfly e) b marks')
                (marks_at (Butterfly e) b marks') (marks_at (Inverse e) b marks) (marks_at (Inverse e) b marks') (λ t l. refl)
                (marked-beside e b f (Butterfly e) (Inverse e) (s % 2 ^ e) (leb (2 ^ e) s) marks marks' refl
                (λ q. apart (sym q)) m)
                (at-start e π ρ settled.perm s (marks_at (Butterfly e) b marks) (marks_at (Inverse e) b marks)
                (marks_at (Butterfly e) b marks') l settled.done (ap mark_of q)
                (rw (mod-eq_of_lt l, lt-leb (2 ^ e) s l) at m.sets)));
          }

  -- no loop is settled yet
  pub settle-start : (marks : List Mark) → Routable e b to from marks → Settled e b to from 0 marks
  settle-start marks r =
      record {
        long = r.long;
        perm = r.perm;
        done =
            done-start e π ρ r.perm (marks_at (Butterfly e) b marks) (marks_at (Inverse e) b marks)
            (λ s l. fresh (Butterfly e) s refl l)
            (λ s l. fresh (Inverse e) s refl l);
      }
    where
      fresh : (c : Stage) (s : ℕ) → exponent c ≡ e → s < 2 ^ e → marks_at c b marks s ≡ unset
      fresh c s ce l =
          ap mark_of (at_row c b s marks)
          ∙ r.fresh c (b + s) (record { inner = omega arith; low = omega arith; high = omega arith })

  pub stepped-after :
      (k : ℕ) (marks marks' marks'' : List Mark)
      → Kept (InOuter e b) marks marks'
      → Stepped e b to from k marks' marks''
      → Stepped e b to from k marks marks''
  stepped-after k marks marks' marks'' kept s =
      record { settled = s.settled; kept = kept_trans (InOuter e b) marks marks' marks'' kept s.kept }
