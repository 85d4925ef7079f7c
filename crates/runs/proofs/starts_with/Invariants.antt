-- What the loop of `runs::starts_with` keeps. Assumes nothing.
use mathlib.Core.Path.{◌≡◌}
use mathlib.Core.Bool.{◌&&◌}
use Prim.Native.Nat.{◌≤◌}
use lib.ListN.{length, take}
use Rattle.runs.specs.Run.{same}
use Rattle.runs.proofs.starts_with.Given as goal

abbrev pub invariant-loop-own : goal.invariant-loop-own
invariant-loop-own l =
    let list = l.own-iterator.a.rest.now in
    let ops = l.own-iterator.b.rest.now in
    (length ops ≤ length list) × ((l.same && same (take (length ops) list) ops) ≡ same (take (length l.ops) l.bank.list) l.ops)
