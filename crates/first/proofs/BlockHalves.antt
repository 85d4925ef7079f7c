-- A block and its halves: what the recursion asks, and what it gives.
-- Assumes nothing.
use mathlib.Core.Path.{◌≡◌, refl, sym, ap, ◌∙◌, subst}
use mathlib.Core.Bool.{Bool, true, false}
use mathlib.Core.List.{List}
use Prim.Native.Nat.{ℕ, suc, ◌+◌, ◌*◌, ◌^◌, ◌≤◌, ◌<◌}
use native.Mathlib.Omega.{arith}
use lib.ListN.{get_or}
use Rattle.routing.specs.Place.{weight}
use Rattle.routing.specs.Stages.{Stage, Butterfly, Inverse, exponent, StageControls, Agree}
use Rattle.routing.specs.FirstControls.{Permutes, first_controls}
use Rattle.routing.specs.Level.{first_swap, last_swap, half_to, half_from}
use Rattle.routing.proofs.Through.{within}
use Rattle.routing.proofs.WalkSteps.{Set, done_end}
use Rattle.routing.proofs.FirstControls.{first-controls-cong}
use Rattle.routing.proofs.Level.{half-permutes, first_step}
use Rattle.first.specs.declared.Mark.{Mark}
use Rattle.first.specs.declared.Mark.TheVariants.{Swaps}
use Rattle.first.specs.Marks.{mark_swaps, mark_of, row, marks_at, swaps_from, controls_in, InOuter, InBlock, Kept}
use Rattle.first.specs.Blocks.{place_in, BlockPermutes, PlacesKept, Peeled, Routable, BlockRouted}
use Rattle.first.proofs.Storing.{mark-swaps}
use Rattle.first.proofs.Walking.{kept_at}

pub permutes-cong :
    (w : ℕ) (π ρ π' ρ' : ℕ → ℕ)
    → Permutes w π ρ
    → ((p : ℕ) → p < w → π' p ≡ π p)
    → ((x : ℕ) → x < w → ρ' x ≡ ρ x)
    → Permutes w π' ρ'
permutes-cong w π ρ π' ρ' perm to from =
    record {
      to-small = λ p l. omega (arith, to p l, perm.to-small p l);
      from-small = λ x l. omega (arith, from x l, perm.from-small x l);
      to-from = λ x l. ap π' (from x l) ∙ to (ρ x) (perm.from-small x l) ∙ perm.to-from x l;
      from-to = λ p l. ap ρ' (to p l) ∙ from (π p) (perm.to-small p l) ∙ perm.from-to p l;
    }

-- what is kept in less is kept in more
kept-wider :
    (In In' : Stage → ℕ → Type 0) (marks marks' : List Mark)
    → ((c : Stage) (i : ℕ) → In c i → In' c i)
    → Kept In marks marks'
    → Kept In' marks marks'
kept-wider In In' marks marks' more kept c i he hi out = kept c i he hi (λ z. out (more c i z))

module _
    (e b : ℕ)
    (to from : List ℕ)
    (marks : List Mark)
    (to₁ from₁ : List ℕ)
    (marks₁ : List Mark)
    (r : Routable e b to from marks)
    (p : Peeled e b to from marks to₁ from₁ marks₁)
  where
    abbrev π : ℕ → ℕ
    π = place_in to b

    abbrev ρ : ℕ → ℕ
    ρ = place_in from b

    abbrev f : ℕ → Bool
    f = swaps_from marks₁ (32 * e + b)

    abbrev g : ℕ → Bool
    g = swaps_from marks₁ (192 + 32 * e + b)

    outer-set :
        (s : ℕ) → s < 2 ^ e → Set e π ρ p.stepped.settled.perm (marks_at (Butterfly e) b marks₁) (marks_at (Inverse e) b marks₁) s
    outer-set s l =
        done_end e π ρ p.stepped.settled.perm (marks_at (Butterfly e) b marks₁) (marks_at (Inverse e) b marks₁)
        p.stepped.settled.done s l

    is-first : (s : ℕ) → s < 2 ^ e → f s ≡ first_swap e π ρ s
    is-first s l = mark-swaps (get_or marks₁ (32 * e + b + s) Swaps) (first_swap e π ρ s) (outer-set s l).first

    is_last : (s : ℕ) → s < 2 ^ e → g s ≡ last_swap e π ρ s
    is_last s l = mark-swaps (get_or marks₁ (192 + 32 * e + b + s) Swaps) (last_swap e π ρ s) (outer-set s l).last

    outer-kept : Kept (InBlock e b) marks marks₁
    outer-kept =
        kept-wider (InOuter e b) (InBlock e b) marks marks₁
        (λ c i z. record { inner = omega (arith, z.outer); low = z.low; high = z.high }) p.stepped.kept

    -- a half block with these entries has half of the permutation
    half-block :
        (h : Bool) (k b' : ℕ) (to' from' : List ℕ)
        → e ≡ suc k
        → ((q : ℕ) → q < 2 ^ e → place_in to' b' q ≡ place_in to₁ b (weight h e + q))
        → ((q : ℕ) → q < 2 ^ e → place_in from' b' q ≡ place_in from₁ b (weight h e + q))
        → BlockPermutes k b' to' from'
    half-block h k b' to' from' ek ts fs =
        permutes-cong (2 ^ suc k) (half_to e π g h) (half_from e ρ f h) (place_in to' b') (place_in from' b')
        (subst (λ (j : ℕ). Permutes (2 ^ j) (half_to e π g h) (half_from e ρ f h)) ek
        (half-permutes e π ρ r.perm f g is-first is_last h))
        (λ q l. ts q (rw ek l) ∙ p.to-halved.halves h q (rw ek l))
        (λ q l. fs q (rw ek l) ∙ p.from-halved.halves h q (rw ek l))

    -- one stage: nothing is left between the outer ones
    pub route-last : e ≡ 0 → BlockRouted e b to from marks to₁ from₁ marks₁
    route-last z =
        record {
          long = p.stepped.settled.long;
          to-long = p.to-halved.long ∙ r.to-long;
          from-long = p.from-halved.long ∙ r.from-long;
          first =
              first_step e π ρ r.perm f g is-first is_last (controls_in b marks₁) (λ s l. refl) (λ s l. refl)
              (λ h c s i. absurd (omega (arith, i.at_stage)));
          kept = outer-kept;
          to-kept = p.to-halved.kept;
          from-kept = p.from-halved.kept;
        }

    module _ (k : ℕ) (ek : e ≡ suc k) where
      two : 2 ^ e ≡ 2 ^ k + 2 ^ k
      two = let z = ap (λ (j : ℕ). 2 ^ j) ek in omega arith

      low-place : (l : List ℕ) (q : ℕ) → place_in l b q ≡ place_in l b (0 + q)
      low-place l q = let z : 2 * b + q ≡ 2 * b + (0 + q) = omega arith in ap (λ (i : ℕ). get_or l i 0) z

      -- the lower half is to be routed
      pub lower-routable : Routable k b to₁ from₁ marks₁
      unfolding weight
      lower-routable =
          record {
            long = p.stepped.settled.long;
            to-long = p.to-halved.long ∙ r.to-long;
            from-long = p.from-halved.long ∙ r.from-long;
            fits = record { stage = omega (arith, r.fits.stage); room = omega (arith, r.fits.room, two) };
            perm = half-block false k b to₁ from₁ ek (λ q l. low-place to₁ q) (λ q l. low-place from₁ q);
            fresh = λ c i z.
                ap mark_of
                (p.stepped.kept c i (omega (arith, r.fits.stage, z.inner)) (omega (arith, r.fits.room, two, z.high))
                (λ o. absurd (omega (arith, o.outer, z.inner))))
                ∙ r.fresh c i
                (record { inner = omega (arith, z.inner); low = z.low; high = omega (arith, z.high, two) });
          }

      -- a routed half has the first controls of its part of the permutation
      half-first :
          (h : Bool) (b' : ℕ) (to' from' : List ℕ) (marks' marks'' : List Mark)
          → ((q : ℕ) → q < 2 ^ e → place_in to' b' q ≡ place_in to₁ b (weight h e + q))
          → ((q : ℕ) → q < 2 ^ e → place_in from' b' q ≡ place_in from₁ b (weight h e + q))
          → ((c : Stage) (s : ℕ)
          → exponent c ≤ k
          → s < 2 ^ k
          → get_or marks'' (row c + b + (weight h k + s)) Swaps ≡ get_or marks' (row c + b' + s) Swaps)
          → Agree (suc k) (controls_in b' marks') (first_controls (suc k) (place_in to' b') (place_in from' b'))
          → Agree e (within e h (controls_in b marks'')) (first_controls e (half_to e π g h) (half_from e ρ f h))
      half-first h b' to' from' marks' marks'' ts fs same first c s i =
          let C = controls_in b marks'' in
          let here =
          subst (λ (j : ℕ). Agree j (controls_in b' marks') (first_controls j (place_in to' b') (place_in from' b'))) (sym ek) first in
          subst (λ (j : ℕ). within j h C c s ≡ C c (weight h k + s)) (sym ek) refl
          ∙ ap mark_swaps (same c s (omega (arith, i.at_stage)) (omega (arith, i.switch, two)))
          ∙ here c s i
          ∙ ap (λ (D : StageControls). D c s)
          (first-controls-cong e (place_in to' b') (place_in from' b') (half_to e π g h) (half_from e ρ f h)
          (λ q l. ts q l ∙ p.to-halved.halves h q l)
          (λ q l. fs q l ∙ p.from-halved.halves h q l))

      module _
          (b' : ℕ)
          (bq : b' ≡ b + 2 ^ k)
          (to₂ from₂ : List ℕ)
          (marks₂ : List Mark)
          (lower : BlockRouted k b to₁ from₁ marks₁ to₂ from₂ marks₂)
        where
          high :
              (l l' : List ℕ)
              → PlacesKept k b l l'
              → (q : ℕ)
              → place_in l' b' q ≡ place_in l b (2 ^ e + q)
          high l l' kept q =
              let z : 2 * b' + q ≡ 2 * b + (2 ^ e + q) = omega (arith, two) in
              ap (λ (i : ℕ). get_or l' i 0) z ∙ kept (2 * b + (2 ^ e + q)) (λ o. absurd (omega (arith, o.1, two)))

          -- and then the upper half
          pub upper-routable : Routable k b' to₂ from₂ marks₂
          unfolding weight
          upper-routable =
              record {
                long = lower.long;
                to-long = lower.to-long;
                from-long = lower.from-long;
                fits = record { stage = omega (arith, r.fits.stage); room = omega (arith, r.fits.room, two) };
                perm =
                    half-block true k b' to₂ from₂ ek
                    (λ q l. high to₁ to₂ lower.to-kept q)
                    (λ q l. high from₁ from₂ lower.from-kept q);
                fresh = λ c i z.
                    let he : exponent c < 6 = omega (arith, r.fits.stage, z.inner) in
                    let hi : i < 32 = omega (arith, r.fits.room, two, z.high) in
                    ap mark_of
                    (lower.kept c i he hi (λ o. absurd (omega (arith, o.high, z.low)))
                    ∙ p.stepped.kept c i he hi (λ o. absurd (omega (arith, o.outer, z.inner))))
                    ∙ r.fresh c i
                    (record {
                      inner = omega (arith, z.inner);
                      low = omega (arith, z.low);
                      high = omega (arith, z.high, two);
                    });
              }

          module _ (to₃ from₃ : List ℕ) (marks₃ : List Mark) (upper : BlockRouted k b' to₂ from₂ marks₂ to₃ from₃ marks₃) where
            outer_same :
                (c : Stage) (s : ℕ) → exponent c ≡ e → s < 2 ^ e → controls_in b marks₃ c s ≡ controls_in b marks₁ c s
            outer_same c s ce l =
                let he : exponent c < 6 = omega (arith, r.fits.stage) in
                let hs : b + s < 32 = omega (arith, r.fits.room) in
                ap mark_swaps
                (kept_at (InBlock k b') c b s marks₂ marks₃ upper.kept he hs (λ o. absurd (omega (arith, o.inner)))
                ∙ kept_at (InBlock k b) c b s marks₁ marks₂ lower.kept he hs (λ o. absurd (omega (arith, o.inner))))

            halves : (h : Bool) → Agree e (within e h (controls_in b marks₃)) (first_controls e (half_to e π g h) (half_from e ρ f h))
            unfolding weight
            halves false =
                half-first false b to₁ from₁ marks₂ marks₃ (λ q l. low-place to₁ q) (λ q l. low-place from₁ q)
                (λ c s he l.
                let i : row c + b + (0 + s) ≡ row c + b + s = omega arith in
                ap (λ (i : ℕ). get_or marks₃ i Swaps) i
                ∙ kept_at (InBlock k b') c b s marks₂ marks₃ upper.kept (omega (arith, r.fits.stage))
                (omega (arith, r.fits.room, two)) (λ o. absurd (omega (arith, o.low))))
                lower.first
            halves true =
                half-first true b' to₂ from₂ marks₃ marks₃
                (λ q l. high to₁ to₂ lower.to-kept q)
                (λ q l. high from₁ from₂ lower.from-kept q)
                (λ c s he l.
                let i : row c + b + (2 ^ k + s) ≡ row c + b' + s = omega arith in
                ap (λ (i : ℕ). get_or marks₃ i Swaps) i)
                upper.first

            inside : (l l' l'' l''' : List ℕ) → PlacesKept e b l l' → PlacesKept k b l' l'' → PlacesKept k b' l'' l''' → PlacesKept e b l l'''
            inside l l' l'' l''' x y z i out =
                z i (λ o. out (omega (arith, o.0), omega (arith, o.1, two)))
                ∙ y i (λ o. out (o.0, omega (arith, o.1, two)))
                ∙ x i out

            -- both halves routed, the block is
            pub route-halves : BlockRouted e b to from marks to₃ from₃ marks₃
            route-halves =
                record {
                  long = upper.long;
                  to-long = upper.to-long;
                  from-long = upper.from-long;
                  first =
                      first_step e π ρ r.perm f g is-first is_last (controls_in b marks₃)
                      (λ s l. outer_same (Butterfly e) s refl l)
                      (λ s l. outer_same (Inverse e) s refl l)
                      halves;
                  kept = λ c i he hi out.
                      upper.kept c i he hi
                      (λ o.
                      out
                      (record { inner = omega (arith, o.inner); low = omega (arith, o.low); high = omega (arith, o.high, two) }))
                      ∙ lower.kept c i he hi
                      (λ o. out (record { inner = omega (arith, o.inner); low = o.low; high = omega (arith, o.high, two) }))
                      ∙ outer-kept c i he hi out;
                  to-kept = inside to to₁ to₂ to₃ p.to-halved.kept lower.to-kept upper.to-kept;
                  from-kept = inside from from₁ from₂ from₃ p.from-halved.kept lower.from-kept upper.from-kept;
                }
