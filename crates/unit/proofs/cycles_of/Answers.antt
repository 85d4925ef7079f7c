-- `unit::cycles_of` meets its contract: the digits of its constant are the table's figures. Assumes nothing.
use mathlib.Core.Path.{◌≡◌, refl, sym}
use Prim.Native.Nat.{◌*◌, ◌/◌, ◌%◌, ◌^◌}
use lib.ListN.{get_or-eq_default}
use Rattle.bits.specs.Bit.{up_to}
use Rattle.bits.proofs.Computed.{entries}
use Rattle.unit.specs.Operation.{figures, cycles_of}
use borrow.Author.Rules.{rules}
use Rattle.unit.proofs.cycles_of.Goals as goal

digits_are : figures ≡ up_to 11 (λ k. 0x32233111110 / 2 ^ (4 * k) % 16)
unfolding up_to
digits_are = refl

pub returns-then-kind-gt10 : goal.returns-then-kind-gt10
unfolding cycles_of
returns-then-kind-gt10 c = sym (get_or-eq_default figures 0 {n = c.args.kind} c.if-kind-gt10.true)

pub returns : goal.returns
unfolding cycles_of
returns c = sym (entries (λ k. 0x32233111110 / 2 ^ (4 * k) % 16) 11 digits_are c.args.kind (search rules))
