-- `pack::Fields::scattered` meets its contract: with i moves left to undo, each bit is where its place's bit would be after i moves.
-- Assumes nothing.
use mathlib.Core.Path.{◌≡◌}
use Prim.Native.Nat.{◌<◌, ◌+◌, ◌-◌}
use native.Mathlib.Omega.{arith}
use borrow.Author.Rules.{rules}
use Rattle.pack.proofs.BitRoutes.{pulled-all, pulled-next, pulled-none, distance, distance-lt}
use Rattle.pack.proofs.Fields.scattered.Goals as goal

pub loop-i-init : goal.loop-i-init
loop-i-init c = pulled-all

pub overflow_shl-out-in-loop-i : goal.overflow_shl-out-in-loop-i
overflow_shl-out-in-loop-i c = distance-lt (c.loop-i.i - 1) (search rules)

pub loop-i-preserved : goal.loop-i-preserved
loop-i-preserved c =
    let l = c.loop-i in
    let h : l.i - 1 < 6 = search rules in
    let e : l.i - 1 + 1 ≡ l.i = search rules in
    pulled-next e l.invariant (c.args.self.now.gathers.move (l.i - 1) h) (distance (l.i - 1) h)

pub returns : goal.returns
returns c =
    let e : c.loop-i.i ≡ 0 = omega arith in
    pulled-none _ _ (rw e at c.loop-i.invariant) (search rules)
