-- The words of the registers apart from all else: theorems cite `bare` and `carrying`, no call's contract does. Assumes nothing.
use Rattle.std.specs.Prelude.{cond, List, ℕ, eqb, set}
use Rattle.unit.specs.declared.Registers.{Registers}
use Rattle.unit.specs.Bank.{fresh, with_words}

-- the words of the registers k alone, all else zero, and k with the words of others
abbrev pub bare : Registers → Registers
bare k = with_words fresh k.general k.b k.ib

abbrev pub carrying : Registers → Registers → Registers
carrying k j = with_words k j.general j.b j.ib

-- control registers with x and y in the first two at 1, with x in the third at 2
abbrev pub loaded_at : ℕ → List ℕ → ℕ → ℕ → List ℕ
loaded_at r rs x y = cond (eqb r 1) (set (set rs 0 x) 1 y) (cond (eqb r 2) (set rs 2 x) rs)
