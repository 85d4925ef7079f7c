-- `pack::Fields::gathered` meets its contract: before turn i, the marked bits are i moves down. Assumes nothing.
use mathlib.Core.Path.{◌≡◌}
use Prim.Native.Nat.{◌<◌}
use native.Mathlib.Omega.{arith}
use borrow.Author.Rules.{rules}
use lib.Bits.{and_le_r}
use Rattle.pack.proofs.BitRoutes.{pushed_none, pushed-next, pushed-all, distance}
use Rattle.pack.proofs.Fields.gathered.Goals as goal

pub loop-i-init : goal.loop-i-init
loop-i-init c = pushed_none (omega (arith, and_le_r c.args.word c.args.self.now.mask))

pub loop-i-preserved : goal.loop-i-preserved
loop-i-preserved c =
    let l = c.loop-i in
    let h : l.i < 6 = search rules in
    pushed-next l.invariant (c.args.self.now.gathers.move l.i h) (distance l.i h)

pub returns : goal.returns
returns c =
    let e : c.loop-i.i ≡ 6 = omega arith in
    pushed-all _ _ (rw e at c.loop-i.invariant)
