-- `runs::interrupt` meets its contract. Assumes nothing.
use mathlib.Core.Path.{◌≡◌, refl, sym, ◌∙◌, ap}
use mathlib.Core.Bool.{Bool, true, false, not, cond}
use Prim.Native.Nat.{ℕ}
use native.Mathlib.Omega.{arith}
use borrow.Author.Tests.{eqb-true, eqb-false}
use lib.Bits.{bit_and}
use lib.Dec.{eqb}
use mir.Val.{bool_byte}
use Rattle.unit.specs.declared.Registers.{Registers}
use Rattle.runs.specs.StatusByte.{status_of, interrupt_of}
use Rattle.runs.proofs.StatusBits.{status-lt, some-by, none-by}
use Rattle.runs.proofs.interrupt.Goals as goal

by-test : (k : Registers) {s : ℕ} → s ≡ status_of k → (b : Bool) → eqb (bit_and s k.enable) 0 ≡ b → bool_byte (not b) ≡ interrupt_of k
unfolding interrupt_of
by-test k e true f = sym (ap (λ (t : Bool). cond t 1 0) (none-by 8 (status_of k) k.enable (ap (λ n. bit_and n k.enable) e) (eqb-true _ _ f)))
by-test k e false f =
    let h = status-lt k in
    sym (ap (λ (t : Bool). cond t 1 0) (some-by 8 (status_of k) k.enable (omega (arith, h)) (ap (λ n. bit_and n k.enable) e) (eqb-false _ _ f)))

pub returns : goal.returns
returns c = c.from.ensures ∙ by-test c.args.registers.now c.status.ensures _ refl
