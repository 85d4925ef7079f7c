-- `network::spread` meets its contract. Assumes nothing.
use mathlib.Core.Path.{◌≡◌, sym}
use native.Mathlib.Omega.{arith}
use Prim.Native.Nat.{◌+◌, ◌≤◌, ◌-◌}
use lib.Pow.{pow_pos, pow_mono}
use Rattle.network.proofs.PairsExchanged.{spread_none}
use Rattle.network.proofs.TableSteps.{spread-turn}
use borrow.Author.Rules.{rules}
use Rattle.network.proofs.spread.Goals as goal

pub loop-at-init : goal.loop-at-init
loop-at-init c =
    let a = c.args in
    let e : 6 - (a.first + 1) ≡ 5 - a.first = omega arith in
    let l : 5 - a.first ≤ 5 = omega arith in
    rw e (sym (spread_none (pow_pos (5 - a.first)) (omega (arith, pow_mono l)) (search rules)))

pub loop-at-preserved : goal.loop-at-preserved
loop-at-preserved c = spread-turn c.loop-at.at c.args.stage (search rules) c.loop-at.invariant
