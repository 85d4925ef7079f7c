-- Refusals by their numbers: none has that of a call that is carried out. Assumes nothing.
use mathlib.Core.Path.{◌≡◌, refl}
use mathlib.Core.Bool.{true, false}
use Prim.Native.Nat.{◌<◌}
use native.Mathlib.Omega.{arith}
use lib.Dec.{eqb}
use borrow.Author.Tests.{ne_eqb}
use Rattle.std.specs.Prelude.{Result, Ok, Err, is_ok}
use Rattle.bits.specs.declared.Refusal.{Refusal}
use Rattle.bits.specs.declared.Refusal.TheVariants.{Width, Above, Unused, Length, Entry, NotRealised, Kind, Register, Range, Short, Spare, Subword, Plane, Waiting, Frame}
use Rattle.bits.specs.Refusal.{number_of, number_in}

pub number-above : (refusal : Refusal) → 0 < number_of refusal
number-above Width = omega arith
number-above Above = omega arith
number-above Unused = omega arith
number-above Length = omega arith
number-above Entry = omega arith
number-above NotRealised = omega arith
number-above Kind = omega arith
number-above Register = omega arith
number-above Range = omega arith
number-above Short = omega arith
number-above Spare = omega arith
number-above Subword = omega arith
number-above Plane = omega arith
number-above Waiting = omega arith
number-above Frame = omega arith

pub number-refused : (refusal : Refusal) → eqb (number_of refusal) 0 ≡ false
number-refused refusal = ne_eqb _ 0 (λ z. omega (arith, number-above refusal, z))

-- the same of outcomes, by the tests that the code makes

pub refused-is_ok : (o : Result Unit Refusal) → is_ok o ≡ false → number_in o ≡ 0 → ⊥
refused-is_ok (Ok _) e z = cc
refused-is_ok (Err refusal) e z = omega (arith, number-above refusal, z)

pub done-is_ok : (o : Result Unit Refusal) → is_ok o ≡ true → number_in o ≡ 0
done-is_ok (Ok _) e = refl
done-is_ok (Err refusal) e = cc
