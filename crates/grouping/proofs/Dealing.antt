-- Entries dealt to two halves in one pass: those at marked places to the lower half, the others to the upper half, each in order. Over whatever is read at a
-- place, of an array or of a word. Assumes nothing.
use mathlib.Core.Path.{◌≡◌, sym, ◌∙◌, ap}
use mathlib.Core.Logic.{◌⊎◌, inl, inr}
use mathlib.Core.Bool.{Bool, cond}
use mathlib.Core.List.{[], ◌∷◌}
use Prim.Native.Nat.{ℕ, suc, ◌+◌, ◌-◌, ◌/◌, ◌<◌, ◌≤◌}
use native.Mathlib.Omega.{arith}
use native.Mathlib.Decide.{dec_lt}
use native.Mathlib.Nat.{not-suc-le-zero}
use lib.Dec.{eqb}
use lib.ListN.{length, get_or, length-append}
use borrow.Author.Tests.{eq-eqb, ne_eqb}
use Rattle.bits.specs.Bit.{bit, places, marked, unmarked}
use Rattle.bits.proofs.Word.{bit-cases}
use Rattle.bits.proofs.Places.{snoc-at, places-in, places-out, places-grow, places-before, places-all}
use Rattle.grouping.specs.Destinations.{Half}
use Rattle.grouping.proofs.Regrouping.{from_place, lower-from, upper-from}

-- From `base` on f has what g reads at the places below p where m has the bit v.
abbrev Part : ℕ → (g : ℕ → ℕ) (v base p : ℕ) (f : ℕ → ℕ) → Type 0
Part m g v base p f = (j : ℕ) → j < length (places v m p) → f (base + j) ≡ g (get_or (places v m p) j 0)

module _ (m : ℕ) (g : ℕ → ℕ) (v base p : ℕ) (f f' : ℕ → ℕ) (part : Part m g v base p f) (at : ℕ) (other : (q : ℕ) → (q ≡ at → ⊥) → f' q ≡ f q) where
  -- the next place has it: one more
  part-more : bit m p ≡ v → at ≡ base + length (places v m p) → f' at ≡ g p → Part m g v base (suc p) f'
  part-more b e same =
      rw (places-in v m p b)
      (snoc-at (λ j x. f' (base + j) ≡ g x) (places v m p) p (λ j h. other (base + j) (λ z. omega arith) ∙ part j h) (ap f' (sym e) ∙ same))

  -- it has not, and what is stored lies elsewhere
  part-kept : (bit m p ≡ v → ⊥) → ((j : ℕ) → j < length (places v m p) → base + j ≡ at → ⊥) → Part m g v base (suc p) f'
  part-kept n away = rw (places-out v m p n) (λ j h. other (base + j) (away j h) ∙ part j h)

module _ (w m : ℕ) where
  -- of the places below p
  pub record Dealt (g : ℕ → ℕ) (p : ℕ) (f : ℕ → ℕ) : Type 0 where
    pub lower : Part m g 1 0 p f
    pub upper : Part m g 0 (w / 2) p f

  -- f is zero where nothing is dealt yet
  pub Empty : ℕ → (ℕ → ℕ) → Type 0
  Empty p f = (q : ℕ) → (q < w / 2 → length (marked m p) ≤ q) → (w / 2 ≤ q → w / 2 + length (unmarked m p) ≤ q) → f q ≡ 0

  pub deal-start : (g f : ℕ → ℕ) → Dealt g 0 f
  unfolding places
  deal-start g f = record { lower = λ j h. absurd (not-suc-le-zero h); upper = λ j h. absurd (not-suc-le-zero h) }

  pub empty-start : (f : ℕ → ℕ) → ((q : ℕ) → f q ≡ 0) → Empty 0 f
  unfolding Empty
  empty-start f z q a b = z q

  -- where the next one goes
  abbrev pub goes : ℕ → ℕ → ℕ
  goes p low = cond (eqb (bit m p) 1) low (w / 2 + (p - low))

  module _ (half : Half w m) (p low : ℕ) (h : p < w) (cursor : low ≡ length (marked m p)) where
    goes-marked : bit m p ≡ 1 → goes p low ≡ 0 + length (marked m p)
    goes-marked b = ap (λ (t : Bool). cond t low (w / 2 + (p - low))) (eq-eqb (bit m p) 1 b) ∙ omega (arith, cursor)

    goes-unmarked : bit m p ≡ 0 → goes p low ≡ w / 2 + length (unmarked m p)
    goes-unmarked b =
        ap (λ (t : Bool). cond t low (w / 2 + (p - low))) (ne_eqb (bit m p) 1 (λ q. omega arith))
        ∙ omega (arith, cursor, places-all m p)

    -- the marked places fill the lower half, and the others the upper one

    marked-room : bit m p ≡ 1 → length (marked m p) < w / 2
    marked-room b = omega (arith, half, places-before 1 m p w h b)

    marked-half : length (marked m p) ≤ w / 2
    marked-half = omega (arith, half, places-grow 1 m p w (omega arith))

    unmarked-room : bit m p ≡ 0 → w / 2 + length (unmarked m p) < w
    unmarked-room b = omega (arith, half, places-all m w, places-before 0 m p w h b)

    pub goes-below : goes p low < w
    goes-below = by_cases (bit-cases m p)
      where
        by_cases : (bit m p ≡ 0) ⊎ (bit m p ≡ 1) → goes p low < w
        by_cases (inl b) = omega (arith, goes-unmarked b, unmarked-room b)
        by_cases (inr b) = omega (arith, goes-marked b, marked-room b)

    -- one more, and nothing else changed
    module _ (f f' : ℕ → ℕ) (other : (q : ℕ) → (q ≡ goes p low → ⊥) → f' q ≡ f q) where
      pub deal-next : (g : ℕ → ℕ) → Dealt g p f → f' (goes p low) ≡ g p → Dealt g (suc p) f'
      deal-next g d same = by_cases (bit-cases m p)
        where
          by_cases : (bit m p ≡ 0) ⊎ (bit m p ≡ 1) → Dealt g (suc p) f'
          by_cases (inl b) =
              record {
                lower = part-kept m g 1 0 p f f' d.lower (goes p low) other (λ z. omega arith) (λ j l z. omega (arith, goes-unmarked b, marked-half));
                upper = part-more m g 0 (w / 2) p f f' d.upper (goes p low) other b (goes-unmarked b) same;
              }
          by_cases (inr b) =
              record {
                lower = part-more m g 1 0 p f f' d.lower (goes p low) other b (goes-marked b) same;
                upper = part-kept m g 0 (w / 2) p f f' d.upper (goes p low) other (λ z. omega arith) (λ j l z. omega (arith, goes-marked b, marked-room b));
              }

      pub empty-next : Empty p f → Empty (suc p) f'
      unfolding Empty
      empty-next e q a b =
          other q (λ z. by_cases z (bit-cases m p))
          ∙ e q (λ l. omega (arith, a l, places-grow 1 m p (suc p) (omega arith))) (λ l. omega (arith, b l, places-grow 0 m p (suc p) (omega arith)))
        where
          by_cases : q ≡ goes p low → (bit m p ≡ 0) ⊎ (bit m p ≡ 1) → ⊥
          by_cases z (inl c) =
              let g = goes-unmarked c in
              omega (arith, z, g, b (omega (arith, z, g)), ap length (places-in 0 m p c), length-append (unmarked m p) (p ∷ []))
          by_cases z (inr c) =
              let g = goes-marked c in
              omega (arith, z, g, a (omega (arith, z, g, marked-room c)), ap length (places-in 1 m p c), length-append (marked m p) (p ∷ []))

    pub empty-goes : (f : ℕ → ℕ) → Empty p f → f (goes p low) ≡ 0
    unfolding Empty
    empty-goes f e = by_cases (bit-cases m p)
      where
        by_cases : (bit m p ≡ 0) ⊎ (bit m p ≡ 1) → f (goes p low) ≡ 0
        by_cases (inl b) = e (goes p low) (λ l. absurd (omega (arith, l, goes-unmarked b))) (λ l. omega (arith, goes-unmarked b))
        by_cases (inr b) = e (goes p low) (λ l. omega (arith, goes-marked b)) (λ l. absurd (omega (arith, l, goes-marked b, marked-room b)))

  pub empty-all : Half w m → (f : ℕ → ℕ) → Empty w f → (q : ℕ) → w ≤ q → f q ≡ 0
  unfolding Empty
  empty-all half f e q h = e q (λ l. absurd (omega arith)) (λ l. omega (arith, half, places-all m w))

  -- all dealt
  pub deal-end : Half w m → (g f : ℕ → ℕ) → Dealt g w f → (j : ℕ) → j < w → f j ≡ g (from_place w m j)
  deal-end half g f d j h = by_cases (dec_lt j (length (marked m w)))
    where
      by_cases : Dec (j < length (marked m w)) → f j ≡ g (from_place w m j)
      by_cases (yes a) =
          let n : j ≡ 0 + j = omega arith in
          ap f n ∙ d.lower j a ∙ ap g (sym (lower-from w m j a))
      by_cases (no a) =
          let k = length (marked m w) in
          let n : j ≡ w / 2 + (j - k) = omega (arith, half) in
          ap f n ∙ d.upper (j - k) (omega (arith, places-all m w)) ∙ ap g (sym (upper-from w m j (omega arith)))
