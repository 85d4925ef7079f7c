-- `planes::apart` meets its contract. Assumes nothing.
use mathlib.Core.Path.{◌≡◌}
use Prim.Native.Nat.{◌-◌, ◌*◌, ◌/◌, ◌%◌, ◌^◌}
use native.Mathlib.Omega.{arith}
use lib.Count.{count_trailing_zeros}
use Rattle.planes.proofs.Widths.{power-half, power-le, exponent-of, apart-start, apart-turn}
use Rattle.planes.proofs.apart.Goals as goal

pub invariant_of-fields : goal.invariant_of-fields
invariant_of-fields c = record { fill_word = power-half (c.loop-exponent.exponent - 1) (omega (arith, c.loop-exponent.auto.exponent)) }

pub overflow_shl-bits : goal.overflow_shl-bits
overflow_shl-bits c = omega (arith, power-le (c.loop-exponent.exponent - 1) (omega (arith, c.loop-exponent.auto.exponent)))

pub loop-exponent-init : goal.loop-exponent-init
loop-exponent-init c =
    let a = c.args in
    let f = a.kept.fields in
    record {
      above = (exponent-of f.half_width f.fill_word a.kept.is_narrow).0;
      spread = rw c.low_halves.ensures (apart-start a.word (a.kept.half * 32));
    }

pub loop-exponent-preserved : goal.loop-exponent-preserved
loop-exponent-preserved c =
    let l = c.loop-exponent in
    let a = c.args in
    record {
      above = omega (arith, c.loop-exponent-test.true);
      spread =
          rw c.low_halves-in-loop-exponent.ensures
          (apart-turn l.exponent (a.word / 2 ^ (a.kept.half * 32) % 2 ^ 32) (omega (arith, c.loop-exponent-test.true)) l.auto.exponent l.invariant.spread);
    }

pub returns : goal.returns
returns c =
    let l = c.loop-exponent in
    let a = c.args in
    let f = a.kept.fields in
    let e : l.exponent ≡ count_trailing_zeros 64 f.half_width = omega (arith, l.invariant.above, c.loop-exponent-test.false) in
    rw (e, (exponent-of f.half_width f.fill_word a.kept.is_narrow).1) at l.invariant.spread
