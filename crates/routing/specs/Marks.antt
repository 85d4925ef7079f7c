-- A stage that is being set, switch by switch.
-- Assumes nothing.
use Rattle.std.specs.Prelude.{◌≡◌, ◌≢◌, Bool, ℕ, zero, suc, ◌+◌}

pub data Mark : Type 0 where
  unset : Mark
  set : Bool → Mark

abbrev pub Marks : Type 0 → Type 0
Marks S = S → Mark

-- switch s is set
pub record Given {S : Type 0} (M : Marks S) (s : S) : Type 0 where
  pub value : Bool
  pub is : M s ≡ set value

-- what is set is as the stage f has it
abbrev pub Right : {S : Type 0} → (S → Bool) → Marks S → Type 0
Right f M = (s : _) (v : Bool) → M s ≡ set v → f s ≡ v

-- M' is M with switch s set to v
pub record SetTo {S : Type 0} (M : Marks S) (s : S) (v : Bool) (M' : Marks S) : Type 0 where
  pub here : M' s ≡ set v
  pub elsewhere : (t : S) → t ≢ s → M' t ≡ M t

-- how many of the switches below k are unset
abbrev pub is_unset : Mark → ℕ
is_unset unset = 1
is_unset (set v) = 0

unfoldable pub count_unset : (ℕ → Mark) → ℕ → ℕ
count_unset M zero = 0
count_unset M (suc k) = count_unset M k + is_unset (M k)
