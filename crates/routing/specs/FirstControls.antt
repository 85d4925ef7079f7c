-- The first controls, for butterfly and inverse together, that bring every bit to its place.
-- Assumes nothing.
use Rattle.std.specs.Prelude.{◌≡◌, ◌⊎◌, ℕ, ◌^◌, ◌<◌}
use Rattle.routing.specs.Place.{Place, num, place}
use Rattle.routing.specs.Loop.{Maps}
use Rattle.routing.specs.Net.{first_net}
use Rattle.routing.specs.Stages.{StageControls, network, Agree, ComesLater, net_controls}

-- π names every number below w once; ρ is its inverse
pub record Permutes (w : ℕ) (π ρ : ℕ → ℕ) : Type 0 where
  pub to-small : (p : ℕ) → p < w → π p < w
  pub from-small : (x : ℕ) → x < w → ρ x < w
  pub to-from : (x : ℕ) → x < w → π (ρ x) ≡ x
  pub from-to : (p : ℕ) → p < w → ρ (π p) ≡ p

-- the controls bring bit π p to place p
abbrev pub Brings : ℕ → StageControls → (ℕ → ℕ) → Type 0
Brings n C π = (p : ℕ) → p < 2 ^ n → network n C p ≡ π p

-- and any other controls that do so come later
pub record IsFirst (n : ℕ) (C : StageControls) (π : ℕ → ℕ) : Type 0 where
  pub brings : Brings n C π
  pub others : (D : StageControls) → Brings n D π → Agree n C D ⊎ ComesLater n C D

unfoldable pub on_places : (n : ℕ) → (ℕ → ℕ) → (ℕ → ℕ) → Maps (Place n)
on_places n π ρ = record { to = λ p. place n (π (num n p)); from = λ x. place n (ρ (num n x)) }

unfoldable pub first_controls : ℕ → (ℕ → ℕ) → (ℕ → ℕ) → StageControls
first_controls n π ρ = net_controls n (first_net n (on_places n π ρ))
