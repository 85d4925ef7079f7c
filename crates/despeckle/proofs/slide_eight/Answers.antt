-- `despeckle::slide_eight` meets its contract: before each turn, the columns of the parts from `part` up are passed. Assumes nothing.
use mathlib.Core.Path.{◌≡◌, sym, ap}
use Prim.Native.Nat.{ℕ, ◌+◌, ◌-◌, ◌*◌, ◌/◌, ◌^◌, ◌<◌}
use native.Mathlib.Omega.{arith}
use native.Mathlib.Nat.{mul-le-mul_left, mul-suc}
use native.Mathlib.Numerals.{add-one}
use borrow.Author.Rules.{rules}
use Rattle.despeckle.proofs.Sliding.{passes_none, passes_on}
use Rattle.despeckle.proofs.slide_eight.Goals as goal

-- one part more
part-more : (w p : ℕ) → 0 < p → w * (p - 1) + w ≡ w * p
part-more w p h = let e : p - 1 + 1 ≡ p = omega arith in sym (rw (add-one, mul-suc) at (ap (λ (n : ℕ). w * n) (sym e)))

pub loop-part-init : goal.loop-part-init
loop-part-init g c =
    let w = c.args.width in
    let z : 8 * w - w * 8 ≡ 0 = omega arith in
    rw z (passes_none (c.args.rows.above / 2 ^ (w * 8)) (c.args.rows.own / 2 ^ (w * 8)) (c.args.rows.below / 2 ^ (w * 8)))

pub loop-part-preserved : goal.loop-part-preserved
loop-part-preserved g c =
    let w = c.args.width in
    let r = c.args.rows in
    let l = c.loop-part in
    let q = rw c.upper.ensures at (c.requires.steps.passes l.window c.upper.result c.step-slid.result (search rules) c.step-slid.ensures) in
    passes_on (8 * w) (w * l.part) (w * (l.part - 1)) w r.above r.own r.below (part-more w l.part c.loop-part-test.true) (omega (arith, mul-le-mul_left w l.auto.part))
    (omega arith) l.invariant q
