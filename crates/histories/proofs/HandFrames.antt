-- Req 11: frames worked by hand, computed from the definition. Assumes nothing.
use mathlib.Core.Path.{◌≡◌, refl}
use mathlib.Core.List.{List, [], ◌∷◌, ◌++◌}
use Prim.Native.Nat.{ℕ}
use lib.ListN.{take, replicate}
use Rattle.bits.specs.Bit.{bit, of_bits}
use Rattle.unit.specs.declared.Bank.{Bank}
use Rattle.unit.specs.Bank.{fresh_bank}
use Rattle.unit.specs.Operation.{cycles_of, effect_of, load_of}
use Rattle.runs.specs.StatusByte.{with_bit}
use Rattle.runs.specs.Run.{operations_of, any_kind, any_register, ran_of, sum_of, steps_of, same}
use Rattle.frame.specs.declared.Channel.{Channel}
use Rattle.frame.specs.declared.Frame.{Frame}
use Rattle.frame.specs.Frame.{brought_by, rest_of, offered_of, guaranteed, frame_refusal, frame_of}

-- operations of one, two and three cycles: b3 = r2, its decoding, a group
abbrev one : List ℕ
one = 5 ∷ 2 ∷ 2 ∷ 0 ∷ []

abbrev two : List ℕ
two = 8 ∷ 0 ∷ 0 ∷ 3 ∷ []

abbrev three : List ℕ
three = 10 ∷ 1 ∷ 2 ∷ 3 ∷ []

-- Guarantees 5, 1, 3, 1. Channel 0 is done with 2 left, channel 1 starts nothing and leaves 1, channels 2 and 3 leave none. The rest, 3: channel 1 runs one of its
-- two operations, channel 2 its last, with what channel 1 leaves, and for channel 3 there is none.
abbrev frame1 : Frame × List Bank
frame1 = frame_of (brought_by (replicate 4 fresh_bank) ((one ++ one ++ one) ∷ (two ++ two) ∷ (three ++ one) ∷ (one ++ two) ∷ []) (5 ∷ 1 ∷ 3 ∷ 1 ∷ [])) 10

-- those that wait bring their remainders, within other guarantees
abbrev frame2 : Frame × List Bank
frame2 = frame_of (brought_by frame1.1 ([] ∷ two ∷ [] ∷ two ∷ []) (0 ∷ 2 ∷ 0 ∷ 1 ∷ [])) 4

abbrev answers : List Channel → List (List ℕ)
answers [] = []
answers (x ∷ xs) = (x.«end» ∷ x.ran ∷ x.cycles ∷ []) ∷ answers xs

-- status, waiting, left; the list's first five bytes
abbrev banks : List Bank → List (List ℕ)
banks [] = []
banks (k ∷ ks) = (k.registers.status ∷ k.registers.waiting ∷ k.registers.left ∷ take 5 k.list) ∷ banks ks

-- refused: the fourth list is no whole operations, behind a kind that is not there; a waiting bank lent the empty list, behind a sum that is too large; a sum that
-- would be zero in 32 bits
abbrev unwhole : Frame × List Bank
unwhole = frame_of (brought_by (replicate 4 fresh_bank) ((11 ∷ 0 ∷ 0 ∷ 0 ∷ []) ∷ [] ∷ [] ∷ (1 ∷ []) ∷ []) (0 ∷ 0 ∷ 0 ∷ 0 ∷ [])) 0

abbrev unlike : Frame × List Bank
unlike = frame_of (brought_by frame1.1 ([] ∷ two ∷ [] ∷ [] ∷ []) (9 ∷ 9 ∷ 9 ∷ 9 ∷ [])) 4

abbrev unpaid : Frame × List Bank
unpaid = frame_of (brought_by (replicate 4 fresh_bank) ([] ∷ [] ∷ [] ∷ [] ∷ []) (0x80000000 ∷ 0 ∷ 0 ∷ 0x80000000 ∷ [])) 0

pub hand-frames : (answers frame1.0.channels ≡ (1 ∷ 3 ∷ 3 ∷ []) ∷ (2 ∷ 1 ∷ 2 ∷ []) ∷ (1 ∷ 2 ∷ 4 ∷ []) ∷ (2 ∷ 1 ∷ 1 ∷ []) ∷ [])
    × (banks frame1.1 ≡ (1 ∷ 0 ∷ 0 ∷ 0 ∷ 0 ∷ 0 ∷ 0 ∷ 0 ∷ []) ∷ (2 ∷ 1 ∷ 4 ∷ 8 ∷ 0 ∷ 0 ∷ 3 ∷ 0 ∷ []) ∷ (1 ∷ 0 ∷ 0 ∷ 0 ∷ 0 ∷ 0 ∷ 0 ∷ 0 ∷ []) ∷ (2 ∷ 1 ∷ 4 ∷ 8 ∷ 0 ∷ 0 ∷ 3 ∷ 0 ∷ []) ∷ [])
    × (answers frame2.0.channels ≡ (1 ∷ 0 ∷ 0 ∷ []) ∷ (1 ∷ 1 ∷ 2 ∷ []) ∷ (1 ∷ 0 ∷ 0 ∷ []) ∷ (2 ∷ 0 ∷ 0 ∷ []) ∷ [])
    × (banks frame2.1 ≡ (1 ∷ 0 ∷ 0 ∷ 0 ∷ 0 ∷ 0 ∷ 0 ∷ 0 ∷ []) ∷ (3 ∷ 0 ∷ 4 ∷ 8 ∷ 0 ∷ 0 ∷ 3 ∷ 0 ∷ []) ∷ (1 ∷ 0 ∷ 0 ∷ 0 ∷ 0 ∷ 0 ∷ 0 ∷ 0 ∷ []) ∷ (2 ∷ 1 ∷ 4 ∷ 8 ∷ 0 ∷ 0 ∷ 3 ∷ 0 ∷ []) ∷ [])
    × (unwhole.0.refusal ∷ unlike.0.refusal ∷ unpaid.0.refusal ∷ [] ≡ 4 ∷ 14 ∷ 15 ∷ [])
    × (answers unlike.0.channels ≡ (0 ∷ 0 ∷ 0 ∷ []) ∷ (0 ∷ 0 ∷ 0 ∷ []) ∷ (0 ∷ 0 ∷ 0 ∷ []) ∷ (0 ∷ 0 ∷ 0 ∷ []) ∷ [])
    × (banks unlike.1 ≡ (5 ∷ 0 ∷ 0 ∷ 0 ∷ 0 ∷ 0 ∷ 0 ∷ 0 ∷ []) ∷ (6 ∷ 1 ∷ 4 ∷ 8 ∷ 0 ∷ 0 ∷ 3 ∷ 0 ∷ []) ∷ (5 ∷ 0 ∷ 0 ∷ 0 ∷ 0 ∷ 0 ∷ 0 ∷ 0 ∷ []) ∷ (6 ∷ 1 ∷ 4 ∷ 8 ∷ 0 ∷ 0 ∷ 3 ∷ 0 ∷ []) ∷ [])
unfolding frame_of frame_refusal offered_of rest_of guaranteed operations_of any_kind any_register ran_of sum_of steps_of cycles_of effect_of load_of same with_bit of_bits bit
hand-frames = (refl, refl, refl, refl, refl, refl, refl)
