-- What the loop of `planes::apart` keeps. Assumes nothing.
use mathlib.Core.Path.{◌≡◌}
use Prim.Native.Nat.{◌*◌, ◌/◌, ◌%◌, ◌^◌, ◌≤◌}
use Rattle.network.specs.Word.{spread_of}
use Rattle.planes.proofs.apart.Given as goal

abbrev pub invariant-loop-exponent : goal.invariant-loop-exponent
invariant-loop-exponent l = record {
  above : l.exponent-start ≤ l.exponent;
  spread : l.bits ≡ spread_of (2 ^ l.exponent) (l.word / 2 ^ (l.fn.kept.half * 32) % 2 ^ 32);
}
