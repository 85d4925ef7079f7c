-- The order on controls, and the first controls for a permutation (demand 3; paper 01, 'Finder'). Assumes nothing.
use Rattle.std.specs.Prelude.{◌≡◌, ◌⊎◌, List, ◌++◌, ℕ, ◌+◌, ◌/◌, ◌^◌, ◌<◌, get_or}
use Rattle.bits.specs.Bit.{bit}
use Rattle.routing.specs.Lists.{Words}
use Rattle.network.specs.Calls.{Uses}
use Rattle.permute.specs.Permutation.{Realises}

-- "going through columns 1 to L of the butterfly, then columns 1 to L of the inverse, each from switch 0 up"
abbrev pub travelled : Words → List ℕ
travelled k = k.butterfly ++ k.inverse

-- switch s of stage number i, in the direction of travel: one passes, zero swaps
abbrev pub control : Words → ℕ → ℕ → ℕ
control k i s = bit (get_or (travelled k) i 0) s

-- controls of both networks
abbrev pub UsesBoth : ℕ → Words → Type 0
UsesBoth L k = Uses L k.butterfly × Uses L k.inverse

-- (stage i, switch s) comes before (stage j, switch t)
abbrev pub Before : ℕ → ℕ → ℕ → ℕ → Type 0
Before i s j t = (i < j) ⊎ ((i ≡ j) × (s < t))

-- "Two sets are compared at the first switch where they differ, .. : the set that passes there is the earlier one, the other comes later": l comes later than k
pub record Later (L : ℕ) (k l : Words) : Type 0 where
  pub stage : ℕ
  pub switch : ℕ
  pub in_stages : stage < L + L
  pub in_switches : switch < 2 ^ L / 2
  pub before : (i s : ℕ) → i < L + L → s < 2 ^ L / 2 → Before i s stage switch → control k i s ≡ control l i s
  pub passes : control k stage switch ≡ 1
  pub swaps : control l stage switch ≡ 0

-- "it gets settings for butterfly then inverse that bring every line of every word to its place, and any other settings that do so come later"
pub record First (L : ℕ) (k : Words) (entries : List ℕ) : Type 0 where
  pub controls : UsesBoth L k
  pub realises : Realises L k entries
  pub others : (l : Words) → UsesBoth L l → Realises L l entries → (l ≡ k) ⊎ Later L k l
