-- The calls on a lent bank as one list can hold them, and the bank that they leave. Assumes nothing.
use Rattle.std.specs.Prelude.{ℕ, List, [], ◌∷◌, ◌++◌, length}
use Rattle.unit.specs.declared.Bank.{Bank}
use Rattle.unit.specs.Calls.{operate_lent, write_lent}
use Rattle.runs.specs.StatusByte.{enable_lent, acknowledge_lent}
use Rattle.runs.specs.Run.{run_of, continue_of, drop_lent}
use Rattle.frame.specs.Frame.{Brought, frame_of}
use Rattle.histories.specs.Channels.{bank_at}

-- To look: a read of a general register, of the status or of the interrupt line. In a frame the bank is one channel's, and others come before and after it.
pub data BankCall : Type 0 where
  call_look : BankCall
  call_operate : (kind r1 r2 r3 : ℕ) → BankCall
  call_run : (bytes : List ℕ) (budget : ℕ) → BankCall
  call_continue : (bytes : List ℕ) (budget : ℕ) → BankCall
  call_drop : BankCall
  call_frame : (before after : List Brought) (bytes : List ℕ) (guarantee cycles : ℕ) → BankCall
  call_write : (number value : ℕ) → BankCall
  call_enable : (byte : ℕ) → BankCall
  call_acknowledge : (byte : ℕ) → BankCall

unfoldable pub left_by : Bank → BankCall → Bank
left_by k call_look = k
left_by k (call_operate kind r1 r2 r3) = (operate_lent k kind r1 r2 r3).1
left_by k (call_run bytes budget) = (run_of k bytes budget).1
left_by k (call_continue bytes budget) = (continue_of k bytes budget).1
left_by k call_drop = drop_lent k
left_by k (call_frame before after bytes guarantee cycles) =
    bank_at (frame_of (before ++ (record { bank = k; bytes = bytes; guarantee = guarantee } ∷ after)) cycles) (length before)
left_by k (call_write n v) = (write_lent k n v).1
left_by k (call_enable e) = enable_lent k e
left_by k (call_acknowledge m) = acknowledge_lent k m

-- one after the other
unfoldable pub left_by_all : Bank → List BankCall → Bank
left_by_all k [] = k
left_by_all k (c ∷ cs) = left_by_all (left_by k c) cs
