-- Lists grouped by a mask: in which order its places come, and that permutations stay permutations. Assumes nothing.
use mathlib.Core.Path.{◌≡◌, sym, ◌∙◌, ap}
use mathlib.Core.Logic.{◌⊎◌, inl, inr}
use mathlib.Core.List.{List, ◌++◌, map}
use Prim.Native.Nat.{ℕ, ◌+◌, ◌-◌, ◌<◌, ◌≤◌}
use native.Mathlib.Omega.{arith}
use native.Mathlib.Decide.{dec_lt}
use lib.ListN.{length, get_or, length-map, get_or-append}
use lib.Seq.{get_or-append-add, ext_get_or}
use Rattle.bits.specs.Bit.{bit, marked, unmarked, pick}
use Rattle.bits.proofs.Word.{ext}
use Rattle.bits.proofs.Places.{Rise, places-rise, places-all, length-all, bit-pick, pick-lt}
use Rattle.bits.proofs.UpTo.{map_at}
use Rattle.gather.specs.Gather.{group_of}
use Rattle.routing.specs.Lists.{entry, ListPermutes}
use Rattle.grouping.specs.Groups.{regrouped}

module _ (w m : ℕ) where
  abbrev k : ℕ
  k = length (marked m w)

  -- the place whose content group brings to place p
  abbrev pub from_place : ℕ → ℕ
  from_place p = get_or (marked m w ++ unmarked m w) p 0

  pub lower-from : (p : ℕ) → p < k → from_place p ≡ get_or (marked m w) p 0
  lower-from p h = get_or-append (marked m w) (unmarked m w) 0 p h

  pub upper-from : (p : ℕ) → k ≤ p → from_place p ≡ get_or (unmarked m w) (p - k) 0
  upper-from p h =
      let e : k + (p - k) ≡ p = omega arith in
      ap from_place (sym e) ∙ get_or-append-add (marked m w) (unmarked m w) (p - k) 0

  beyond : (p : ℕ) → p < w → k ≤ p → p - k < length (unmarked m w)
  beyond p h l = omega (arith, places-all m w)

  pub from-below : (p : ℕ) → p < w → from_place p < w
  from-below p h = by_cases (dec_lt p k)
    where
      by_cases : Dec (p < k) → from_place p < w
      by_cases (yes l) = rw (lower-from p l) ((places-rise 1 m w).below p l)
      by_cases (no n) = rw (upper-from p (omega arith)) ((places-rise 0 m w).below (p - k) (beyond p h (omega arith)))

  -- of two places, the earlier takes the content of the lower of two that are marked alike, or that of a marked one where the later takes an unmarked one's
  pub from-order : (p q : ℕ) → p < q → q < w
      → ((bit m (from_place p) ≡ bit m (from_place q)) × (from_place p < from_place q)) ⊎ ((bit m (from_place p) ≡ 1) × (bit m (from_place q) ≡ 0))
  from-order p q l h = by_cases (dec_lt p k) (dec_lt q k)
    where
      one : Rise 1 m w (marked m w)
      one = places-rise 1 m w

      none : Rise 0 m w (unmarked m w)
      none = places-rise 0 m w

      by_cases : Dec (p < k) → Dec (q < k)
          → ((bit m (from_place p) ≡ bit m (from_place q)) × (from_place p < from_place q)) ⊎ ((bit m (from_place p) ≡ 1) × (bit m (from_place q) ≡ 0))
      by_cases (yes a) (yes b) = rw (lower-from p a, lower-from q b) (inl (one.has p a ∙ sym (one.has q b), one.rise p q l b))
      by_cases (yes a) (no b) = rw (lower-from p a, upper-from q (omega arith)) (inr (one.has p a, none.has (q - k) (beyond q h (omega arith))))
      by_cases (no a) (yes b) = absurd (omega arith)
      by_cases (no a) (no b) =
          let c = beyond p (omega arith) (omega arith) in
          let d = beyond q h (omega arith) in
          rw (upper-from p (omega arith), upper-from q (omega arith))
          (inl (none.has (p - k) c ∙ sym (none.has (q - k) d), none.rise (p - k) (q - k) (omega arith) d))

  from-apart : (p q : ℕ) → p < q → q < w → from_place p ≡ from_place q → ⊥
  from-apart p q l h e = by_cases (from-order p q l h)
    where
      by_cases : ((bit m (from_place p) ≡ bit m (from_place q)) × (from_place p < from_place q)) ⊎ ((bit m (from_place p) ≡ 1) × (bit m (from_place q) ≡ 0)) → ⊥
      by_cases (inl r) = omega (arith, r.1, e)
      by_cases (inr r) = omega (arith, r.0, r.1, ap (bit m) e)

  from-once : (p q : ℕ) → p < w → q < w → from_place p ≡ from_place q → p ≡ q
  from-once p q h l e = by_cases (dec_lt p q) (dec_lt q p)
    where
      by_cases : Dec (p < q) → Dec (q < p) → p ≡ q
      by_cases (yes a) b = absurd (from-apart p q a l e)
      by_cases (no a) (yes b) = absurd (from-apart q p b h (sym e))
      by_cases (no a) (no b) = omega arith

  -- a list, grouped

  module _ (cs : List ℕ) where
    pub length-regrouped : length (regrouped w m cs) ≡ w
    unfolding regrouped
    length-regrouped = length-map (marked m w ++ unmarked m w) (entry cs) ∙ length-all m w

    pub regrouped-at : (p : ℕ) → p < w → entry (regrouped w m cs) p ≡ entry cs (from_place p)
    unfolding regrouped
    regrouped-at p h = map_at (entry cs) (marked m w ++ unmarked m w) p (omega (arith, length-all m w))

    pub regrouped-permutes : ListPermutes w cs → ListPermutes w (regrouped w m cs)
    regrouped-permutes is =
        record {
          long = length-regrouped;
          small = λ p h. rw (regrouped-at p h) (is.small (from_place p) (from-below p h));
          once = λ p q h l e.
              from-once p q h l
              (is.once (from_place p) (from_place q) (from-below p h) (from-below q l) (sym (regrouped-at p h) ∙ e ∙ regrouped-at q l));
        }

  module _ (cs : List ℕ) (long : length cs ≡ w) where
    -- whatever is read off its entries
    pub map-regrouped : (f : ℕ → ℕ) → map f (regrouped w m cs) ≡ regrouped w m (map f cs)
    map-regrouped f =
        ext_get_or 0 (map f (regrouped w m cs)) (regrouped w m (map f cs))
        (length-map (regrouped w m cs) f ∙ length-regrouped cs ∙ sym (length-regrouped (map f cs)))
        (λ p h.
        let l : p < w = omega (arith, length-map (regrouped w m cs) f, length-regrouped cs) in
        map_at f (regrouped w m cs) p (omega (arith, length-regrouped cs))
        ∙ ap f (regrouped-at cs p l)
        ∙ sym (map_at f cs (from_place p) (omega (arith, from-below p l)))
        ∙ sym (regrouped-at (map f cs) p l))

    -- and the word whose bits it picks
    pub pick-regrouped : (x : ℕ) → group_of w m (pick cs x) ≡ pick (regrouped w m cs) x
    unfolding group_of
    pick-regrouped x =
        let group = marked m w ++ unmarked m w in
        ext w (rw (length-all m w) at (pick-lt (pick cs x) group)) (rw (length-regrouped cs) at (pick-lt x (regrouped w m cs)))
        (λ p h.
        bit-pick (pick cs x) group p (omega (arith, length-all m w))
        ∙ bit-pick x cs (from_place p) (omega (arith, from-below p h))
        ∙ sym (bit-pick x (regrouped w m cs) p (omega (arith, length-regrouped cs)) ∙ ap (bit x) (regrouped-at cs p h)))
