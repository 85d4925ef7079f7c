-- Req 11, with Req 10: frames one after the other. Assumes nothing.
use Rattle.std.specs.Prelude.{◌≡◌, ℕ, ◌≤◌, cond, List, [], ◌∷◌, map, get_or}
use Rattle.unit.specs.declared.Bank.{Bank}
use Rattle.unit.specs.Bank.{waits}
use Rattle.frame.specs.Frame.{Brought, brought_by, frame_refusal, frame_of}
use Rattle.histories.specs.Continued.{remainder_of}

-- Frames after a first one: their guarantees by channel, and their cycles. A waiting channel brings its remainder, another the empty list.
pub record NextFrame : Type 0 where
  pub guarantees : List ℕ
  pub cycles : ℕ

abbrev pub next_list : Bank → List ℕ
next_list k = cond (waits k.registers) (remainder_of k) []

-- what they bring to the next
abbrev pub next_brought : List Bank → NextFrame → List Brought
next_brought ks f = brought_by ks (map next_list ks) f.guarantees

-- the banks after them
unfoldable pub frames_of : List Bank → List NextFrame → List Bank
frames_of ks [] = ks
frames_of ks (f ∷ fs) = frames_of (frame_of (next_brought ks f) f.cycles).1 fs

-- each of them is carried out, and guarantees channel n three cycles or more, in which any operation fits
abbrev pub AtLeastThreeFor : ℕ → List Bank → List NextFrame → Type 0
AtLeastThreeFor n ks [] = Unit
AtLeastThreeFor n ks (f ∷ fs) =
    (frame_refusal (next_brought ks f) f.cycles ≡ 0) × (3 ≤ get_or f.guarantees n 0) × AtLeastThreeFor n (frame_of (next_brought ks f) f.cycles).1 fs
