-- One operation of the register unit, paper 01: a kind and three bytes. Assumes nothing.
use Rattle.std.specs.Prelude.{ℕ, ◌+◌, Bool, true, not, cond, ◌&&◌, ◌||◌, List, [], ◌∷◌, eqb, leb, get_or, set}
use Rattle.std.specs.Int.Bits.{bit_and}
use Rattle.bits.specs.Refusal.{lowest}
use Rattle.gather.specs.Gather.{gather_of, scatter_of, group_of}
use Rattle.network.specs.Stage.{butterfly_of, inverse_of}
use Rattle.network.specs.Decoder.{decode_of, decode_inverse_of}
use Rattle.unit.specs.declared.Registers.{Registers}
use Rattle.unit.specs.Bank.{register, with_register, with_b, with_ib, stages_of, packed_of}

-- the table's figures, by kind
abbrev pub figures : List ℕ
figures = 0 ∷ 1 ∷ 1 ∷ 1 ∷ 1 ∷ 1 ∷ 3 ∷ 3 ∷ 2 ∷ 2 ∷ 3 ∷ []

unfoldable pub cycles_of : ℕ → ℕ
cycles_of kind = get_or figures kind 0

-- the entry at a number in a table, or another value where it has none
abbrev pub table_entry : {A : Type 0} → ℕ → List (ℕ × A) → A → A
table_entry n [] other = other
table_entry n (e ∷ es) other = cond (eqb n e.0) e.1 (table_entry n es other)

-- the kinds of the table are 1 to 10; in kind 5, r1 says what is loaded, 1 to 4
abbrev pub is_kind : ℕ → ℕ → Bool
is_kind kind r1 = leb 1 kind && leb kind 10 && (not (eqb kind 5) || leb 1 r1 && leb r1 4)

-- the register numbers in use, by kind and in kind 5 by r1: "Bytes that a kind does not use are not looked at"
abbrev pub load_uses : ℕ → ℕ → List (ℕ × List ℕ)
load_uses r2 r3 = (1, r2 ∷ r3 ∷ []) ∷ (2, r2 ∷ []) ∷ (3, r2 ∷ r3 ∷ []) ∷ (4, r2 ∷ []) ∷ []

abbrev pub uses : ℕ → ℕ → ℕ → List (ℕ × List ℕ)
uses r1 r2 r3 =
    (1, r1 ∷ r2 ∷ [])
    ∷ (2, r1 ∷ r2 ∷ [])
    ∷ (3, r1 ∷ r2 ∷ r3 ∷ [])
    ∷ (4, r1 ∷ r2 ∷ r3 ∷ [])
    ∷ (5, table_entry r1 (load_uses r2 r3) [])
    ∷ (6, r1 ∷ r2 ∷ r3 ∷ [])
    ∷ (7, r1 ∷ r2 ∷ r3 ∷ [])
    ∷ (8, r3 ∷ [])
    ∷ (9, r3 ∷ [])
    ∷ (10, r1 ∷ r2 ∷ r3 ∷ [])
    ∷ []

abbrev pub used_of : ℕ → ℕ → ℕ → ℕ → List ℕ
used_of kind r1 r2 r3 = table_entry kind (uses r1 r2 r3) []

-- every number is that of a general register, 0 to 15
abbrev pub are_registers : List ℕ → Bool
are_registers [] = true
are_registers (n ∷ ns) = are_registers ns && leb n 15

-- 'Calls turned back': 7, "kind not 1 to 10, or in kind 5 r1 not 1 to 4"; 8, "a register number in use above 15"; of paper 02, Req 10, 14, "another run waits"
abbrev pub operation_conditions : Bool → ℕ → ℕ → ℕ → ℕ → List (ℕ × Bool)
operation_conditions other kind r1 r2 r3 = (7, not (is_kind kind r1)) ∷ (8, not (are_registers (used_of kind r1 r2 r3))) ∷ (14, other) ∷ []

unfoldable pub operation_refusal : Bool → ℕ → ℕ → ℕ → ℕ → ℕ
operation_refusal other kind r1 r2 r3 = lowest (operation_conditions other kind r1 r2 r3)

-- "r1 = 1: b1, b2 = r2, r3; 2: b3 = r2; 3: ib1, ib2 = r2, r3; 4: ib3 = r2", of the words x and y in r2 and r3
abbrev pub loads : Registers → ℕ → ℕ → List (ℕ × Registers)
loads k x y =
    (1, with_b k (set (set k.b 0 x) 1 y))
    ∷ (2, with_b k (set k.b 2 x))
    ∷ (3, with_ib k (set (set k.ib 0 x) 1 y))
    ∷ (4, with_ib k (set k.ib 2 x))
    ∷ []

unfoldable pub load_of : Registers → ℕ → ℕ → ℕ → Registers
load_of k r1 x y = table_entry r1 (loads k x y) k

-- The table, by kind: the registers k after an operation with x and y in r2 and r3. Paper 02, Req 01, of the count of marked lines: "Kinds 6, 7 and 10 of the
-- register unit do not store it."
abbrev pub effects : Registers → ℕ → ℕ → ℕ → List (ℕ × Registers)
effects k r1 x y =
    (1, with_register k r1 (butterfly_of 6 (stages_of k.b) x))
    ∷ (2, with_register k r1 (inverse_of 6 (stages_of k.ib) x))
    ∷ (3, with_register k r1 (inverse_of 6 (stages_of k.ib) (bit_and x y)))
    ∷ (4, with_register k r1 (bit_and (butterfly_of 6 (stages_of k.b) x) y))
    ∷ (5, load_of k r1 x y)
    ∷ (6, with_register k r1 (gather_of 64 y x))
    ∷ (7, with_register k r1 (scatter_of 64 y x))
    ∷ (8, with_ib k (packed_of (decode_inverse_of 6 y)))
    ∷ (9, with_b k (packed_of (decode_of 6 y)))
    ∷ (10, with_register k r1 (group_of 64 y x))
    ∷ []

unfoldable pub effect_of : Registers → ℕ → ℕ → ℕ → ℕ → Registers
effect_of k kind r1 x y = table_entry kind (effects k r1 x y) k

-- Operands are those of k: they are read before the result is written.
abbrev pub step_of : Registers → ℕ → ℕ → ℕ → ℕ → Registers
step_of k kind r1 r2 r3 = effect_of k kind r1 (register k r2) (register k r3)

-- "An operation is four bytes: kind, r1, r2, r3."
abbrev pub Operation : Type 0
Operation = ℕ × ℕ × ℕ × ℕ

-- the operation at byte i of a list
abbrev pub operation_at : List ℕ → ℕ → Operation
operation_at bytes i = (get_or bytes i 0, get_or bytes (i + 1) 0, get_or bytes (i + 2) 0, get_or bytes (i + 3) 0)

-- the registers after an operation
abbrev pub step_by : Registers → Operation → Registers
step_by k o = step_of k o.0 o.1 o.2 o.3
