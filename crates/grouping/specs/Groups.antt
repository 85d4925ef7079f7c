-- Permutations by groups (paper 02, Req 08; its orders are permutations, its lines bits). Assumes nothing.
use Rattle.std.specs.Prelude.{List, [], ◌∷◌, ◌++◌, map, ℕ, zero, suc, ◌-◌, ◌^◌}
use Rattle.bits.specs.Bit.{bit, of_bits, up_to, marked, unmarked}
use Rattle.gather.specs.Gather.{group_of}
use Rattle.routing.specs.Lists.{find, entry}

-- Contents: entry p is the bit of the word that stands at place p. Grouped by the mask m as `group_of` groups a word.
unfoldable pub regrouped : ℕ → ℕ → List ℕ → List ℕ
regrouped w m contents = map (entry contents) (marked m w ++ unmarked m w)

-- "the mask of step i (from 0) marks each line whose present content must end at a place with bit i zero". A bit must end at the place whose entry
-- names it.
unfoldable pub step_mask : ℕ → List ℕ → ℕ → List ℕ → ℕ
step_mask w entries i contents = of_bits w (λ p. 1 - bit (find (entry contents p) entries) i)

-- the masks of n steps, from step i on
unfoldable pub masks_from : ℕ → List ℕ → (n i : ℕ) → List ℕ → List ℕ
masks_from w entries zero i contents = []
masks_from w entries (suc n) i contents =
    let m = step_mask w entries i contents in m ∷ masks_from w entries n (suc i) (regrouped w m contents)

-- "Turn an order into L masks": at first, bit p stands at place p
unfoldable pub group_masks : ℕ → List ℕ → List ℕ
group_masks L entries = masks_from (2 ^ L) entries L 0 (up_to (2 ^ L) (λ p. p))

-- "Grouping by these masks in turn"
abbrev pub group_in_turn : ℕ → List ℕ → ℕ → ℕ
group_in_turn w [] x = x
group_in_turn w (m ∷ ms) x = group_in_turn w ms (group_of w m x)
