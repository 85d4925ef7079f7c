-- The code's pass over the destinations: what it leaves in the other array, and the mask of that. Assumes nothing.
use mathlib.Core.Path.{◌≡◌, refl, sym, ◌∙◌, ap, subst}
use mathlib.Core.Bool.{cond}
use mathlib.Core.List.{List}
use Prim.Native.Nat.{ℕ, zero, suc, ◌+◌, ◌-◌, ◌*◌, ◌/◌, ◌%◌, ◌^◌, ◌<◌, ◌≤◌}
use native.Mathlib.Omega.{arith}
use native.Mathlib.Numerals.{add-one}
use lib.Bits.{bit_or}
use lib.Dec.{eqb}
use mir.Val.{bool_byte}
use lib.ListN.{length, get_or, set, take, length-set}
use lib.Seq.{get_or-set_same, get_or-set_other, get_or-take, length-take-le, ext_get_or}
use Rattle.bits.specs.Bit.{bit, rank, marked}
use Rattle.bits.proofs.Word.{bit-lt, bit-of-zero, fits_bits, ext}
use Rattle.bits.proofs.Places.{places-all, length_marked}
use Rattle.routing.specs.Lists.{entry}
use Rattle.grouping.specs.Groups.{regrouped}
use Rattle.grouping.specs.Destinations.{pass_mask, Half}
use Rattle.grouping.proofs.Regrouping.{length-regrouped, regrouped-at}
use Rattle.grouping.proofs.Sorting.{mask-bit, mask_lt}
use Rattle.grouping.proofs.StoredBits.{bit-here, bit-there}
use Rattle.grouping.proofs.Dealing.{Dealt, Empty, deal-start, empty-start, goes, goes-below, deal-next, empty-next, empty-goes, empty-all, deal-end}

one-marked : (m p : ℕ) → bool_byte (eqb (bit m p) 1) ≡ bit m p
one-marked m p = by (bit m p) (bit-lt m p)
  where
    by : (b : ℕ) → b < 2 → bool_byte (eqb b 1) ≡ b
    by zero h = refl
    by (suc zero) h = refl
    by (suc (suc b)) h = absurd (omega arith)

pub at-most-one : (m p : ℕ) → bool_byte (eqb (bit m p) 1) < 2
at-most-one m p = omega (arith, one-marked m p, bit-lt m p)

-- the destinations ds, of as many places
module _ (m i : ℕ) (ds : List ℕ) where
  abbrev w : ℕ
  w = length ds

  -- what the next mask has for a place
  abbrev zero_at : ℕ → ℕ
  zero_at p = 1 - bit (entry ds p) i

  -- the first p places are passed
  pub record Passed (p low next : ℕ) (into : List ℕ) : Type 0 where
    pub long : length into ≡ 64
    pub cursor : low ≡ length (marked m p)
    pub dealt : Dealt w m (entry ds) p (λ q. get_or into q 0)
    pub bits : Dealt w m zero_at p (bit next)
    pub empty : Empty w m p (bit next)

  pub pass-start : (into : List ℕ) → length into ≡ 64 → Passed 0 0 0 into
  pass-start into l =
      record {
        long = l;
        cursor = nothing-marked;
        dealt = deal-start w m (entry ds) (λ q. get_or into q 0);
        bits = deal-start w m zero_at (bit 0);
        empty = empty-start w m (bit 0) bit-of-zero;
      }
    where
      nothing-marked : 0 ≡ length (marked m 0)
      nothing-marked = omega (arith, places-all m 0)

  pub cursor-le : {p low next : ℕ} {into : List ℕ} → Passed p low next into → low ≤ p
  cursor-le {p} passed = omega (arith, passed.cursor, places-all m p)

  -- the code's values: a destination, whether it is marked, and where it goes
  module _ (small : w ≤ 64) (half : Half w m) (p low next : ℕ) (into : List ℕ) (h : p < w) (passed : Passed p low next into)
      {d at : ℕ} (q : d ≡ get_or ds p 0) (f : at ≡ cond (eqb (bit m p) 1) low (w / 2 + (p - low)))
    where
      goes-is : at ≡ goes w m p low
      goes-is = f

      pub at-below : at < 64
      at-below = omega (arith, goes-is, goes-below w m half p low h passed.cursor)

      -- one place more
      pub pass-next : {b : ℕ} → b ≡ 1 - bit d i → Passed (p + 1) (low + bool_byte (eqb (bit m p) 1)) (bit_or next (b * 2 ^ at % 2 ^ 64)) (set into at d)
      unfolding rank
      pass-next {b} z =
          let to = goes w m p low in
          let c = passed.cursor in
          let room : to < 64 = omega (arith, goes-below w m half p low h c) in
          let same : d ≡ entry ds p = q in
          let digit : b < 2 = omega (arith, z) in
          let empty = empty-goes w m half p low h c (bit next) passed.empty in
          let there = bit-there next to digit room in
          rw (add-one p, goes-is)
          (record {
            long = length-set into to d ∙ passed.long;
            cursor = omega (arith, c, length_marked m p, length_marked m (suc p), one-marked m p);
            dealt = deal-next w m half p low h c (λ x. get_or into x 0) (λ x. get_or (set into to d) x 0) (λ x n. get_or-set_other into to x d 0 n) (entry ds) passed.dealt
                (get_or-set_same into to d 0 (omega (arith, passed.long)) ∙ same);
            bits = deal-next w m half p low h c (bit next) (bit (bit_or next (b * 2 ^ to % 2 ^ 64))) there zero_at passed.bits
                (bit-here next to digit room empty ∙ z ∙ ap (λ (x : ℕ). 1 - bit x i) same);
            empty = empty-next w m half p low h c (bit next) (bit (bit_or next (b * 2 ^ to % 2 ^ 64))) there passed.empty;
          })

  -- all places passed
  pub pass-end : w ≤ 64 → Half w m → (p low next : ℕ) (into : List ℕ) → p ≡ w → Passed p low next into
      → (take w into ≡ regrouped w m ds) × (next ≡ pass_mask w i (regrouped w m ds))
  pass-end small half p low next into e passed =
      let z = subst (λ (k : ℕ). Passed k low next into) e passed in
      let n = length-take-le w into (omega (arith, z.long)) in
      let grouped = regrouped w m ds in (
        ext_get_or 0 (take w into) grouped (n ∙ sym (length-regrouped w m ds))
            (λ j h.
            let l : j < w = omega (arith, n) in
            get_or-take w into j 0 l ∙ deal-end w m half (entry ds) (λ q. get_or into q 0) z.dealt j l ∙ sym (regrouped-at w m ds j l)),
        ext w ((fits_bits w next).1 (λ q l. rest z q l)) (mask_lt w i grouped)
            (λ j l.
            deal-end w m half zero_at (bit next) z.bits j l
            ∙ sym (mask-bit w i grouped j l ∙ ap (λ (x : ℕ). 1 - bit x i) (regrouped-at w m ds j l))),
      )
    where
      rest : Passed w low next into → (q : ℕ) → w ≤ q → bit next q ≡ 0
      rest z q l = empty-all w m half (bit next) z.empty q l
