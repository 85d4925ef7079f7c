-- The 384 marks: one for each switch of both networks.
-- Assumes nothing.
use Rattle.std.specs.Prelude.{◌≡◌, Bool, true, false, List, ℕ, ◌+◌, ◌*◌, ◌^◌, ◌≤◌, ◌<◌, length, get_or}
use Rattle.routing.specs.Marks.{Mark as Known, unset, set}
use Rattle.routing.specs.Level.{Sets}
use Rattle.routing.specs.Stages.{Stage, Butterfly, Inverse, exponent, StageControls}
use Rattle.first.specs.declared.Mark.{Mark}
use Rattle.first.specs.declared.Mark.TheVariants.{Unset, Swaps, Passes}

-- the control bit of a switch: one that is not settled yet passes
abbrev pub mark_swaps : Mark → Bool
mark_swaps Unset = false
mark_swaps Swaps = true
mark_swaps Passes = false

abbrev pub mark_of : Mark → Known
mark_of Unset = unset
mark_of Swaps = set true
mark_of Passes = set false

-- where the marks of a stage begin, 32 for each
abbrev pub row : Stage → ℕ
row (Butterfly e) = 32 * e
row (Inverse e) = 192 + 32 * e

-- a stage's switches from number b on, as they are set, and as controls; beyond the last mark `Swaps` is read
abbrev pub marks_at : Stage → ℕ → List Mark → ℕ → Known
marks_at c b marks s = mark_of (get_or marks (row c + b + s) Swaps)

abbrev pub swaps_from : List Mark → ℕ → ℕ → Bool
swaps_from marks at s = mark_swaps (get_or marks (at + s) Swaps)

abbrev pub controls_in : ℕ → List Mark → StageControls
controls_in b marks c s = mark_swaps (get_or marks (row c + b + s) Swaps)

-- A block of the network: its outer stages have exponent e, and their switches are number b to b + 2^e - 1.
pub record BlockFits (e b : ℕ) : Type 0 where
  pub stage : e < 6
  pub room : b + 2 ^ e ≤ 32

-- switch i of stage c is in the outer stages of the block, or in any of its stages
pub record InOuter (e b : ℕ) (c : Stage) (i : ℕ) : Type 0 where
  pub outer : exponent c ≡ e
  pub low : b ≤ i
  pub high : i < b + 2 ^ e

pub record InBlock (e b : ℕ) (c : Stage) (i : ℕ) : Type 0 where
  pub inner : exponent c ≤ e
  pub low : b ≤ i
  pub high : i < b + 2 ^ e

-- the marks outside are as before
abbrev pub Kept : (Stage → ℕ → Type 0) → List Mark → List Mark → Type 0
Kept In marks marks' =
    (c : Stage) (i : ℕ) → exponent c < 6 → i < 32 → ¬ In c i → get_or marks' (row c + i) Swaps ≡ get_or marks (row c + i) Swaps

-- switch s of the block's part of stage c is set, and no other
pub record MarksSet (e b : ℕ) (c : Stage) (s : ℕ) (v : Bool) (marks marks' : List Mark) : Type 0 where
  pub sets : Sets e (marks_at c b marks) s v (marks_at c b marks')
  pub kept : Kept (λ d i. (d ≡ c) × (i ≡ b + s)) marks marks'
  pub long : length marks' ≡ length marks

-- no switch of the block is settled
abbrev pub Fresh : ℕ → ℕ → List Mark → Type 0
Fresh e b marks = (c : Stage) (i : ℕ) → InBlock e b c i → mark_of (get_or marks (row c + i) Swaps) ≡ unset
