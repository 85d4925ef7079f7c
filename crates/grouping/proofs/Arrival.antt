-- The masks of a permutation from the destinations of its contents, and where its steps bring them. Assumes nothing.
use mathlib.Core.Path.{◌≡◌, refl, sym, ◌∙◌, ap, ap₂, subst}
use mathlib.Core.List.{List, [], ◌∷◌, map}
use Prim.Native.Nat.{ℕ, zero, suc, ◌-◌, ◌^◌, ◌<◌, ◌≤◌}
use native.Mathlib.Omega.{arith}
use lib.ListN.{length, take, length-map}
use lib.Seq.{ext_get_or, get_or-take, length-take-le}
use Rattle.bits.specs.Bit.{bit, up_to, pick}
use Rattle.bits.proofs.Word.{of_bits-same, ext}
use Rattle.bits.proofs.UpTo.{length-up_to, get_or-up_to, map_at}
use Rattle.bits.proofs.Places.{bit-pick, pick-lt}
use Rattle.routing.specs.FirstControls.{Permutes}
use Rattle.routing.specs.Lists.{find, entry, ListPermutes}
use Rattle.routing.proofs.ListControls.{list-permutes}
use Rattle.grouping.specs.Groups.{regrouped, step_mask, masks_from, group_masks, group_in_turn}
use Rattle.grouping.specs.Destinations.{pass_mask, pass_masks}
use Rattle.grouping.proofs.Regrouping.{length-regrouped, map-regrouped, pick-regrouped}
use Rattle.grouping.proofs.Sorting.{Sorted, sorted-is, through_masks, through-permutes, steps-sort}

-- through masks, whatever they are

module _ (w : ℕ) where
  through-map : (f : ℕ → ℕ) (ms cs : List ℕ) → length cs ≡ w → map f (through_masks w ms cs) ≡ through_masks w ms (map f cs)
  unfolding through_masks
  through-map f [] cs e = refl
  through-map f (m ∷ ms) cs e =
      through-map f ms (regrouped w m cs) (length-regrouped w m cs) ∙ ap (through_masks w ms) (map-regrouped w m cs e f)

  -- a word grouped in turn has the bits that the contents name
  through-words : (x : ℕ) (ms cs : List ℕ) → length cs ≡ w → group_in_turn w ms (pick cs x) ≡ pick (through_masks w ms cs) x
  unfolding through_masks
  through-words x [] cs e = refl
  through-words x (m ∷ ms) cs e =
      ap (group_in_turn w ms) (pick-regrouped w m cs e x) ∙ through-words x ms (regrouped w m cs) (length-regrouped w m cs)

  -- the places of a word name its bits
  pick-whole : (x : ℕ) → x < 2 ^ w → pick (up_to w (λ p. p)) x ≡ x
  pick-whole x h =
      let n = length-up_to (λ p. p) w in
      ext w (rw n at (pick-lt x (up_to w (λ p. p)))) h
      (λ p l. bit-pick x (up_to w (λ p. p)) p (omega arith) ∙ ap (bit x) (get_or-up_to (λ p. p) w p l))

module _ (w : ℕ) (entries : List ℕ) where
  abbrev to : ℕ → ℕ
  to x = find x entries

  step-by-pass : (i : ℕ) (cs : List ℕ) → length cs ≡ w → step_mask w entries i cs ≡ pass_mask w i (map to cs)
  unfolding step_mask pass_mask
  step-by-pass i cs e =
      of_bits-same w (λ p. 1 - bit (to (entry cs p)) i) (λ p. 1 - bit (entry (map to cs) p) i)
      (λ p h. ap (λ (d : ℕ). 1 - bit d i) (sym (map_at to cs p (omega arith))))

  pub masks-by-passes : (n i : ℕ) (cs : List ℕ) → length cs ≡ w → masks_from w entries n i cs ≡ pass_masks w n i (map to cs)
  unfolding masks_from pass_masks
  masks-by-passes zero i cs e = refl
  masks-by-passes (suc n) i cs e =
      let m = step_mask w entries i cs in
      let q = step-by-pass i cs e in
      ap₂ (λ (x : ℕ) (xs : List ℕ). x ∷ xs) q
      (masks-by-passes n (suc i) (regrouped w m cs) (length-regrouped w m cs)
      ∙ ap (pass_masks w n (suc i)) (map-regrouped w m cs e to ∙ ap (λ (k : ℕ). regrouped w k (map to cs)) q))

-- the steps of a permutation

module _ (L : ℕ) (entries : List ℕ) (is : ListPermutes (2 ^ L) entries) where
  abbrev w : ℕ
  w = 2 ^ L

  -- the contents at first, and their destinations
  abbrev start : List ℕ
  start = up_to (2 ^ L) (λ p. p)

  abbrev pub destinations : List ℕ
  destinations = map (λ x. find x entries) (up_to (2 ^ L) (λ p. p))

  π : Permutes (2 ^ L) (entry entries) (λ x. find x entries)
  π = list-permutes (2 ^ L) entries is

  length-start : length (up_to (2 ^ L) (λ p. p)) ≡ 2 ^ L
  length-start = length-up_to (λ p. p) (2 ^ L)

  pub destination-of : (p : ℕ) → p < 2 ^ L → entry destinations p ≡ find p entries
  destination-of p h = map_at (to w entries) start p (omega (arith, length-start)) ∙ ap (to w entries) (get_or-up_to (λ p. p) w p h)

  start-permutes : ListPermutes (2 ^ L) (up_to (2 ^ L) (λ p. p))
  start-permutes =
      let at = get_or-up_to (λ p. p) w in
      record { long = length-start; small = λ p h. omega (arith, at p h); once = λ p q h l e. sym (at p h) ∙ e ∙ at q l }

  pub destinations-permute : ListPermutes (2 ^ L) destinations
  destinations-permute =
      record {
        long = length-map start (to w entries) ∙ length-start;
        small = λ p h. rw (destination-of p h) (π.from-small p h);
        once = λ p q h l e.
            let f : find p entries ≡ find q entries = sym (destination-of p h) ∙ e ∙ destination-of q l in
            sym (π.to-from p h) ∙ ap (entry entries) f ∙ π.to-from q l;
      }

  -- laid down in an array of at least as many
  pub destinations-laid : (from : List ℕ) → 2 ^ L ≤ length from → ((x : ℕ) → x < 2 ^ L → entry from x ≡ find x entries) → take (2 ^ L) from ≡ destinations
  destinations-laid from room laid =
      let n = length-take-le w from room in
      ext_get_or 0 (take w from) destinations (n ∙ sym destinations-permute.long)
      (λ x h. let l : x < w = omega (arith, n) in get_or-take w from x 0 l ∙ laid x l ∙ sym (destination-of x l))

  pub masks-are : group_masks L entries ≡ pass_masks (2 ^ L) L 0 destinations
  unfolding group_masks
  masks-are = masks-by-passes w entries L 0 start length-start

  -- the contents at the end

  abbrev last : List ℕ
  last = through_masks (2 ^ L) (group_masks L entries) (up_to (2 ^ L) (λ p. p))

  last-permutes : ListPermutes (2 ^ L) last
  last-permutes = through-permutes w (group_masks L entries) start start-permutes

  last-destinations : through_masks (2 ^ L) (pass_masks (2 ^ L) L 0 destinations) destinations ≡ map (λ x. find x entries) last
  last-destinations =
      ap (λ (ms : List ℕ). through_masks w ms destinations) (sym masks-are)
      ∙ sym (through-map w (to w entries) (group_masks L entries) start length-start)

  -- each is at its destination
  arrived : (p : ℕ) → p < 2 ^ L → find (entry last p) entries ≡ p
  arrived p h =
      let is = subst (ListPermutes w) last-destinations (through-permutes w (pass_masks w L 0 destinations) destinations destinations-permute) in
      sym (map_at (to w entries) last p (omega (arith, last-permutes.long))) ∙ sorted-is L (map (to w entries) last) is (subst (Sorted w L) last-destinations (steps-sort w L destinations)) p h

  ends : last ≡ entries
  ends =
      ext_get_or 0 last entries (last-permutes.long ∙ sym is.long)
      (λ p h.
      let l : p < w = omega (arith, last-permutes.long) in
      sym (π.to-from (entry last p) (last-permutes.small p l)) ∙ ap (entry entries) (arrived p l))

  pub groups-permute : (x : ℕ) → x < 2 ^ 2 ^ L → group_in_turn (2 ^ L) (group_masks L entries) x ≡ pick entries x
  groups-permute x h =
      ap (group_in_turn w (group_masks L entries)) (sym (pick-whole w x h))
      ∙ through-words w x (group_masks L entries) start length-start
      ∙ ap (λ (cs : List ℕ). pick cs x) ends
