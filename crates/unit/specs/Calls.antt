-- What the calls on one operation and on one register answer. Assumes nothing.
use Rattle.std.specs.Prelude.{ℕ, Bool, not, cond, List, [], ◌∷◌, eqb, leb}
use Rattle.bits.specs.Refusal.{lowest}
use Rattle.unit.specs.declared.Registers.{Registers}
use Rattle.unit.specs.declared.Bank.{Bank}
use Rattle.unit.specs.declared.Cycles.{Cycles}
use Rattle.unit.specs.declared.Register.{Register}
use Rattle.unit.specs.Bank.{register, with_register, waits, with_registers, leaving}
use Rattle.unit.specs.Operation.{cycles_of, operation_refusal, step_of, Operation}

-- an operation's answer, and the registers after it
pub record Operated : Type 0 where
  pub answer : Cycles
  pub registers : Registers

-- the refusal of a write, and the registers after it
pub record Written : Type 0 where
  pub refusal : ℕ
  pub registers : Registers

abbrev pub operated : Cycles → Registers → Operated
operated a k = record { answer = a; registers = k }

abbrev pub written : ℕ → Registers → Written
written r k = record { refusal = r; registers = k }

-- "One operation alone answers its cycles." Its cycles and the registers after it; refused, its number, zero cycles and the registers as they were. Req 09:
-- "single operations, refused or not, touch neither byte", of status and enable: whatever sets a register carries both along (`with_words`). Req 10: "Single
-- operations and a new run are turned back until it is done or dropped".
unfoldable pub operate_of : Registers → ℕ → ℕ → ℕ → ℕ → Operated
operate_of k kind r1 r2 r3 =
    cond (eqb (operation_refusal (waits k) kind r1 r2 r3) 0)
    (record { answer = record { refusal = 0; cycles = cycles_of kind }; registers = step_of k kind r1 r2 r3 })
    (record { answer = record { refusal = operation_refusal (waits k) kind r1 r2 r3; cycles = 0 }; registers = k })

-- the registers that these calls leave, one after the other
unfoldable pub operates_of : Registers → List Operation → Registers
operates_of k [] = k
operates_of k (o ∷ os) = operates_of (operate_of k o.0 o.1 o.2 o.3).registers os

-- 8, "a register number in use above 15"
abbrev pub number_conditions : ℕ → List (ℕ × Bool)
number_conditions n = (8, not (leb n 15)) ∷ []

unfoldable pub number_refusal : ℕ → ℕ
number_refusal n = lowest (number_conditions n)

-- "a read answers the value, a write nothing more than that it was carried out"
unfoldable pub read_of : Registers → ℕ → Register
read_of k n =
    cond (eqb (number_refusal n) 0) (record { refusal = 0; value = register k n }) (record { refusal = number_refusal n; value = 0 })

unfoldable pub write_of : Registers → ℕ → ℕ → Written
write_of k n v =
    cond (eqb (number_refusal n) 0) (record { refusal = 0; registers = with_register k n v }) (record { refusal = number_refusal n; registers = k })

-- On a lent bank: "The host lends its register bank to one operation". The answer, and the whole bank after it
abbrev pub operate_lent : Bank → ℕ → ℕ → ℕ → ℕ → Cycles × Bank
operate_lent k kind r1 r2 r3 =
    leaving (operate_of k.registers kind r1 r2 r3).answer (with_registers k (operate_of k.registers kind r1 r2 r3).registers)

abbrev pub write_lent : Bank → ℕ → ℕ → ℕ × Bank
write_lent k n v = leaving (write_of k.registers n v).refusal (with_registers k (write_of k.registers n v).registers)
