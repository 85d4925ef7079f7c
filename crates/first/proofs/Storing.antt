-- Marks: what one says, and what a store of one changes.
-- Assumes nothing.
use mathlib.Core.Path.{◌≡◌, refl}
use mathlib.Core.Logic.{◌≢◌}
use mathlib.Core.Bool.{Bool}
use Prim.Native.Nat.{ℕ, ◌+◌, ◌<◌}
use native.Mathlib.Omega.{arith}
use Rattle.routing.specs.Marks.{set}
use Rattle.routing.specs.Stages.{Stage, Butterfly, Inverse, exponent}
use Rattle.first.specs.declared.Mark.{Mark}
use Rattle.first.specs.declared.Mark.TheVariants.{Unset, Swaps, Passes}
use Rattle.first.specs.Marks.{mark_swaps, mark_of, row}

pub mark_set : (x : Mark) → x ≢ Unset → mark_of x ≡ set (mark_swaps x)
mark_set Unset ne = absurd (ne refl)
mark_set Swaps ne = refl
mark_set Passes ne = refl

-- a settled mark has its control
pub mark-swaps : (x : Mark) (v : Bool) → mark_of x ≡ set v → mark_swaps x ≡ v
mark-swaps Unset v e = cc
mark-swaps Swaps v e = cc
mark-swaps Passes v e = cc

pub slot_small : (c : Stage) (i : ℕ) → exponent c < 6 → i < 32 → row c + i < 384
slot_small (Butterfly e) i he hi = omega arith
slot_small (Inverse e) i he hi = omega arith
