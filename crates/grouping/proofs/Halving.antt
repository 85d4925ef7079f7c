-- Of a permutation of 2^L places half of the entries have bit i zero, for each i below L: so each mask marks half of the places. Assumes nothing.
use mathlib.Core.Path.{◌≡◌, sym, ◌∙◌, ap}
use mathlib.Core.List.{List}
use Prim.Native.Nat.{ℕ, suc, ◌+◌, ◌-◌, ◌*◌, ◌/◌, ◌%◌, ◌^◌, ◌<◌, ◌≤◌}
use native.Mathlib.Omega.{arith}
use native.Mathlib.Decide.{dec_lt}
use native.Mathlib.Nat.{mod-lt, div-add-mod', pow-suc}
use lib.Arith.{digits_div, digits_mod, digits_lt}
use lib.ListN.{length, get_or}
use lib.Pow.{pow_pos, pow-add}
use Rattle.bits.specs.Bit.{bit, places}
use Rattle.bits.proofs.Word.{bit-lt}
use Rattle.bits.proofs.Places.{places-rise, places-all}
use Rattle.network.specs.Stage.{switch_of}
use Rattle.network.proofs.Index.{on-places, place_at, block-lt, switch-at}
use Rattle.routing.specs.Lists.{entry, ListPermutes}
use Rattle.routing.proofs.Finite.{pigeonhole}
use Rattle.grouping.specs.Destinations.{pass_mask, Half}
use Rattle.grouping.proofs.Sorting.{mask-bit}

-- two places of one switch and one half are one place
switch-once : (d p q : ℕ) → 0 < d → p / d % 2 ≡ q / d % 2 → switch_of d p ≡ switch_of d q → p ≡ q
unfolding switch_of
switch-once d p q pos s e =
    let a = digits_div (p / d / 2) (mod-lt p pos) in
    let b = digits_div (q / d / 2) (mod-lt q pos) in
    let h : p / d / 2 ≡ q / d / 2 = sym a ∙ ap (λ (n : ℕ). n / d) e ∙ b in
    let t : p % d ≡ q % d = sym (digits_mod (p / d / 2) (mod-lt p pos)) ∙ ap (λ (n : ℕ). n % d) e ∙ digits_mod (q / d / 2) (mod-lt q pos) in
    let r : p / d ≡ q / d = omega (arith, h, s) in
    sym (div-add-mod' p d) ∙ (λ i. r i * d + t i) ∙ div-add-mod' q d

-- k blocks have k * d switches of distance d
switch-below : (d k p : ℕ) → 0 < d → p < k * (2 * d) → switch_of d p < k * d
switch-below d k p pos = on-places pos (λ p. p < k * (2 * d) → switch_of d p < k * d) at p
  where
    at : (J e t : ℕ) → e < 2 → t < d → place_at d J e t < k * (2 * d) → switch_of d (place_at d J e t) < k * d
    at J e t he ht h = rw (switch-at d J e t he ht) (digits_lt (block-lt d J e t k h) ht)

module _ (i k w : ℕ) (ds : List ℕ) (blocks : w ≡ k * (2 * 2 ^ i)) (is : ListPermutes w ds) where
  abbrev m : ℕ
  m = pass_mask w i ds

  -- the places marked alike, by the switches of their entries: no two have one
  module _ (v : ℕ) where
    abbrev place : ℕ → ℕ
    place j = get_or (places v m w) j 0

    abbrev switch : ℕ → ℕ
    switch j = switch_of (2 ^ i) (entry ds (place j))

    entry-bit : (j : ℕ) → j < length (places v m w) → bit (entry ds (place j)) i ≡ 1 - v
    entry-bit j h =
        let r = places-rise v m w in
        omega (arith, mask-bit w i ds (place j) (r.below j h), r.has j h, bit-lt (entry ds (place j)) i)

    apart : (j l : ℕ) → j < l → l < length (places v m w) → switch j ≡ switch l → ⊥
    unfolding bit
    apart j l o h e =
        let r = places-rise v m w in
        let n : j < length (places v m w) = omega arith in
        let same = switch-once (2 ^ i) (entry ds (place j)) (entry ds (place l)) (pow_pos i) (entry-bit j n ∙ sym (entry-bit l h)) e in
        omega (arith, r.rise j l o h, is.once (place j) (place l) (r.below j n) (r.below l h) same)

    few : length (places v m w) ≤ k * 2 ^ i
    few = by_cases (dec_lt (k * 2 ^ i) (length (places v m w)))
      where
        small : k * 2 ^ i < length (places v m w) → (j : ℕ) → j ≤ k * 2 ^ i → switch j < k * 2 ^ i
        small l j h =
            switch-below (2 ^ i) k (entry ds (place j)) (pow_pos i)
            (omega (arith, blocks, is.small (place j) ((places-rise v m w).below j (omega arith))))

        by_cases : Dec (k * 2 ^ i < length (places v m w)) → length (places v m w) ≤ k * 2 ^ i
        by_cases (yes l) =
            let c = pigeonhole (k * 2 ^ i) switch (small l) in
            absurd (apart c.low c.high c.ordered (omega (arith, c.within)) c.same)
        by_cases (no n) = omega arith

  half-marked : Half w (pass_mask w i ds)
  half-marked = omega (arith, blocks, few 1, few 0, places-all m w)

pub pass-halves : (L i : ℕ) (ds : List ℕ) → i < L → ListPermutes (2 ^ L) ds → Half (2 ^ L) (pass_mask (2 ^ L) i ds)
pass-halves L i ds h is =
    let e : L ≡ (L - suc i) + suc i = omega arith in
    half-marked i (2 ^ (L - suc i)) (2 ^ L) ds
    (ap (λ (n : ℕ). 2 ^ n) e ∙ pow-add 2 (L - suc i) (suc i) ∙ ap (λ (n : ℕ). 2 ^ (L - suc i) * n) (omega (arith, pow-suc 2 i))) is
