-- One network alone: the controls that a permutation forces on it, and whether they realise the permutation.
-- Assumes nothing.
use Rattle.std.specs.Prelude.{◌≡◌, Bool, true, false, ◌&&◌, ℕ, zero, suc, ◌^◌, ◌<◌, eqb}
use Rattle.routing.specs.Place.{Place, at, tab}
use Rattle.routing.specs.Loop.{Maps, pass, between}
use Rattle.routing.specs.Net.{ControlTree, part}
use Rattle.routing.specs.Stages.{butterfly, inverse, flat}
use Rattle.routing.specs.FirstControls.{on_places}

-- c brings bit π p to place p through the butterfly alone, through the inverse alone
abbrev pub ButterflyBrings : ℕ → (ℕ → ℕ → Bool) → (ℕ → ℕ) → Type 0
ButterflyBrings n c π = (p : ℕ) → p < 2 ^ n → butterfly n c p ≡ π p

abbrev pub InverseBrings : ℕ → (ℕ → ℕ → Bool) → (ℕ → ℕ) → Type 0
InverseBrings n c π = (p : ℕ) → p < 2 ^ n → inverse n c p ≡ π p

-- The butterfly's first stage must bring each bit into the half of its place: a switch swaps exactly if its low bit
-- goes to the upper half. What is left stays in the halves.
unfoldable pub forced : (n : ℕ) → Maps (Place n) → ControlTree n
forced zero m = tt
forced (suc n) m =
    let f = tab n (λ s. (m.from (false, s)).0) in
    let b = between m (at n f) (λ q. pass) in
    record { outer = f; lower = forced n (part n b false); upper = forced n (part n b true) }

-- The inverse undoes the butterfly of the same controls, so it gets those that the inverse permutation forces.
unfoldable pub butterfly_controls : ℕ → (ℕ → ℕ) → (ℕ → ℕ) → ℕ → ℕ → Bool
butterfly_controls n π ρ = flat n (forced n (on_places n π ρ))

unfoldable pub inverse_controls : ℕ → (ℕ → ℕ) → (ℕ → ℕ) → ℕ → ℕ → Bool
inverse_controls n π ρ = butterfly_controls n ρ π

unfoldable pub every_below : ℕ → (ℕ → Bool) → Bool
every_below zero t = true
every_below (suc k) t = t k && every_below k t

-- does the network alone realise the permutation?
unfoldable pub butterfly_test : ℕ → (ℕ → ℕ) → (ℕ → ℕ) → Bool
butterfly_test n π ρ = every_below (2 ^ n) (λ p. eqb (butterfly n (butterfly_controls n π ρ) p) (π p))

unfoldable pub inverse_test : ℕ → (ℕ → ℕ) → (ℕ → ℕ) → Bool
inverse_test n π ρ = every_below (2 ^ n) (λ p. eqb (inverse n (inverse_controls n π ρ) p) (π p))
