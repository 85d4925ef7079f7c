-- The masks from the destinations of the contents, as the code keeps them. Internal: no answer of a call cites it; `masks-by-passes` says that they are those
-- of the contents. Assumes nothing.
use Rattle.std.specs.Prelude.{◌≡◌, List, [], ◌∷◌, ℕ, zero, suc, ◌+◌, ◌-◌, length}
use Rattle.bits.specs.Bit.{bit, of_bits, marked}
use Rattle.routing.specs.Lists.{entry}
use Rattle.grouping.specs.Groups.{regrouped}

-- one where a destination has bit i zero
unfoldable pub pass_mask : ℕ → ℕ → List ℕ → ℕ
pass_mask w i ds = of_bits w (λ p. 1 - bit (entry ds p) i)

unfoldable pub pass_masks : ℕ → (n i : ℕ) → List ℕ → List ℕ
pass_masks w zero i ds = []
pass_masks w (suc n) i ds = let m = pass_mask w i ds in m ∷ pass_masks w n (suc i) (regrouped w m ds)

-- m marks half of w places
abbrev pub Half : ℕ → ℕ → Type 0
Half w m = length (marked m w) + length (marked m w) ≡ w
