-- One level by numbers, as code has it: with h = 2^n, bits and places below 2h, switches below h.
-- Assumes nothing.
use Rattle.std.specs.Prelude.{◌≡◌, ◌≢◌, Bool, cond, ℕ, suc, ◌+◌, ◌-◌, ◌%◌, ◌^◌, ◌<◌, ltb}
use Rattle.routing.specs.Place.{weight, num, place}
use Rattle.routing.specs.Loop.{xor, first_stage, last_stage}
use Rattle.routing.specs.Marks.{Mark, set}
use Rattle.routing.specs.FirstControls.{on_places}

-- the other bit of a switch
abbrev pub other : ℕ → ℕ → ℕ
other n y = cond (ltb y (2 ^ n)) (y + 2 ^ n) (y - 2 ^ n)

-- the outer stages of the first controls
unfoldable pub first_swap : ℕ → (ℕ → ℕ) → (ℕ → ℕ) → ℕ → Bool
first_swap n π ρ s = first_stage (num n) (2 ^ n) (on_places (suc n) π ρ) (place n s)

unfoldable pub last_swap : ℕ → (ℕ → ℕ) → (ℕ → ℕ) → ℕ → Bool
last_swap n π ρ q =
    last_stage (on_places (suc n) π ρ) (first_stage (num n) (2 ^ n) (on_places (suc n) π ρ)) (place n q)

-- the permutation of half h behind a first stage f and before a last stage g, and its inverse
abbrev pub half_to : ℕ → (ℕ → ℕ) → (ℕ → Bool) → Bool → ℕ → ℕ
half_to n π g h q = π (weight (xor (g q) h) n + q) % 2 ^ n

abbrev pub half_from : ℕ → (ℕ → ℕ) → (ℕ → Bool) → Bool → ℕ → ℕ
half_from n ρ f h x = ρ (weight (xor (f x) h) n + x) % 2 ^ n

-- the marks by switch number: M' is M with switch s set to v
pub record Sets (n : ℕ) (M : ℕ → Mark) (s : ℕ) (v : Bool) (M' : ℕ → Mark) : Type 0 where
  pub here : M' s ≡ set v
  pub elsewhere : (t : ℕ) → t < 2 ^ n → t ≢ s → M' t ≡ M t
