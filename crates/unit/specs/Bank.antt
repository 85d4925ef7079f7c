-- The register bank of paper 01, 'The register unit': sixteen general registers, and two triples that hold controls; of paper 02, Req 09, two bytes more, and of
-- Req 10 what it remembers of a run that waits. Assumes nothing.
use Rattle.std.specs.Prelude.{ℕ, ◌+◌, ◌*◌, ◌/◌, ◌%◌, ◌^◌, Bool, not, List, [], ◌∷◌, eqb, get_or, set, replicate}
use Rattle.unit.specs.declared.Registers.{Registers}
use Rattle.unit.specs.declared.Bank.{Bank}

-- "all zero when fresh"; Req 09: "The register bank gains a status byte and an enable byte, both zero when fresh."; Req 10: "A fresh
-- bank does not wait."
abbrev pub fresh : Registers
fresh = record { general = replicate 16 0; b = replicate 3 0; ib = replicate 3 0; status = 0; enable = 0; waiting = 0; left = 0 }

abbrev pub fresh_bank : Bank
fresh_bank = record { registers = fresh; list = replicate 4096 0 }

-- the registers k with other words, with one other byte, and with other marks of waiting: whether it waits, and the number of bytes left
abbrev pub with_words : Registers → List ℕ → List ℕ → List ℕ → Registers
with_words k g b i = record { general = g; b = b; ib = i; status = k.status; enable = k.enable; waiting = k.waiting; left = k.left }

abbrev pub with_status : Registers → ℕ → Registers
with_status k s = record { general = k.general; b = k.b; ib = k.ib; status = s; enable = k.enable; waiting = k.waiting; left = k.left }

abbrev pub with_enable : Registers → ℕ → Registers
with_enable k e = record { general = k.general; b = k.b; ib = k.ib; status = k.status; enable = e; waiting = k.waiting; left = k.left }

abbrev pub with_waiting : Registers → ℕ → ℕ → Registers
with_waiting k w n = record { general = k.general; b = k.b; ib = k.ib; status = k.status; enable = k.enable; waiting = w; left = n }

-- "The bank remembers that it waits": does it? Zero is that it does not.
abbrev pub waits : Registers → Bool
waits k = not (eqb k.waiting 0)

-- general register n
abbrev pub register : Registers → ℕ → ℕ
register k n = get_or k.general n 0

-- the registers with value v in general register n
abbrev pub with_register : Registers → ℕ → ℕ → Registers
with_register k n v = with_words k (set k.general n v) k.b k.ib

abbrev pub with_b : Registers → List ℕ → Registers
with_b k rs = with_words k k.general rs k.ib

abbrev pub with_ib : Registers → List ℕ → Registers
with_ib k rs = with_words k k.general k.b rs

-- the bank of registers and a list, and a bank with other registers
abbrev pub bank_of : Registers → List ℕ → Bank
bank_of rs l = record { registers = rs; list = l }

abbrev pub with_registers : Bank → Registers → Bank
with_registers k rs = bank_of rs k.list

-- an answer, and beside it the bank that the call leaves
abbrev pub leaving : {A : Type 0} → A → Bank → A × Bank
leaving a k = (a, k)

-- "b1 holds column 1 in its low half and column 2 in its high half; b2 and b3 go on so, and ib likewise": the stages held by control registers
abbrev pub stages_of : List ℕ → List ℕ
stages_of [] = []
stages_of (r ∷ rs) = (r % 2 ^ 32) ∷ (r / 2 ^ 32) ∷ stages_of rs

-- and the registers that hold them
abbrev pub packed_of : List ℕ → List ℕ
packed_of [] = []
packed_of (low ∷ []) = low ∷ []
packed_of (low ∷ high ∷ cs) = (high * 2 ^ 32 + low) ∷ packed_of cs
