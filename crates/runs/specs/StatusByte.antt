-- The status and enable bytes of paper 02, Req 09. Assumes nothing.
use Rattle.std.specs.Prelude.{◌≡◌, ℕ, zero, suc, Bool, false, cond, ◌&&◌, ◌||◌, eqb}
use Rattle.bits.specs.Bit.{bit, of_bits}
use Rattle.unit.specs.declared.Registers.{Registers}
use Rattle.unit.specs.declared.Bank.{Bank}
use Rattle.unit.specs.Bank.{with_status, with_enable, with_registers}

-- a byte with bit n one, and the other seven as they were
unfoldable pub with_bit : ℕ → ℕ → ℕ
with_bit s n = of_bits 8 (λ i. cond (eqb i n) 1 (bit s i))

-- "Status bits 3 to 7 read zero"
unfoldable pub status_of : Registers → ℕ
status_of k = of_bits 3 (λ i. bit k.status i)

-- "Writing a byte to acknowledge clears the status bits where that byte has ones": all eight as stored
unfoldable pub cleared : ℕ → ℕ → ℕ
cleared s m = of_bits 8 (λ i. cond (eqb (bit m i) 1) 0 (bit s i))

abbrev pub acknowledge_of : Registers → ℕ → Registers
acknowledge_of k m = with_status k (cleared k.status m)

-- is some bit below n one in both words?
unfoldable pub some_both : ℕ → ℕ → ℕ → Bool
some_both zero x y = false
some_both (suc n) x y = eqb (bit x n) 1 && eqb (bit y n) 1 || some_both n x y

-- the same as a statement, of all bits
pub record BothOne (x y : ℕ) : Type 0 where
  pub place : ℕ
  pub in-first : bit x place ≡ 1
  pub in-second : bit y place ≡ 1

-- "The interrupt line is high exactly when some bit is one in both bytes", the status as it reads: 1 is high, 0 low
unfoldable pub interrupt_of : Registers → ℕ
interrupt_of k = cond (some_both 8 (status_of k) k.enable) 1 0

-- On a lent bank: "the host writes the enable byte"
abbrev pub enable_lent : Bank → ℕ → Bank
enable_lent k e = with_registers k (with_enable k.registers e)

abbrev pub acknowledge_lent : Bank → ℕ → Bank
acknowledge_lent k m = with_registers k (acknowledge_of k.registers m)
