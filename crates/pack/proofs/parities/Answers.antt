-- `pack::parities` meets its contract: a turn doubles how many bits are summed. Assumes nothing.
use mathlib.Core.Path.{◌≡◌}
use Prim.Native.Nat.{◌+◌, ◌^◌}
use native.Mathlib.Omega.{arith}
use lib.Pow.{pow-add}
use borrow.Author.Rules.{rules}
use Rattle.pack.proofs.BitRoutes.{distance, distance-lt}
use Rattle.pack.proofs.Gaps.{sums-one, sums-double, sums-all}
use Rattle.pack.proofs.parities.Goals as goal

pub loop-i-init : goal.loop-i-init
loop-i-init c = sums-one

pub overflow_shl-sums-in-loop-i : goal.overflow_shl-sums-in-loop-i
overflow_shl-sums-in-loop-i c = distance-lt c.loop-i.i (search rules)

pub loop-i-preserved : goal.loop-i-preserved
loop-i-preserved c =
    let l = c.loop-i in
    let e : 2 ^ l.i + 2 ^ l.i ≡ 2 ^ (l.i + 1) = omega (arith, pow-add 2 l.i 1) in
    rw (distance l.i (search rules), ← e) (sums-double l.invariant)

pub returns : goal.returns
returns c =
    let e : c.loop-i.i ≡ 6 = omega arith in
    sums-all (rw e at c.loop-i.invariant)
