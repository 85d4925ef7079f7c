-- `network::Width::narrowed` meets its contract. Assumes nothing.
use mathlib.Core.Path.{◌≡◌}
use Prim.Native.Nat.{◌-◌, ◌<◌}
use native.Mathlib.Omega.{arith}
use lib.ListN.{length, drop, length-drop}
use lib.Seq.{take_all}
use Rattle.network.specs.Decoder.{in_use}
use Rattle.network.proofs.Filling.{fill-turn}
use Rattle.network.proofs.Narrower.{used-is, length-in-use, in-use-at}
use borrow.Author.Rules.{rules}
use Rattle.network.proofs.Width.narrowed.Goals as goal

pub loop-at-preserved : goal.loop-at-preserved
loop-at-preserved c =
    let l = c.loop-at in
    let a = c.args in
    let w = a.self in
    let n : length a.stages ≡ 6 = search rules in
    let len = length-in-use w.log w.positive w.in_table a.stages n in
    let last = drop (6 - w.log) a.stages in
    let all = take_all (6 - (6 - w.log)) last (omega (arith, length-drop (6 - w.log) a.stages, n)) in
    let i : l.at < w.log = search rules in
    fill-turn 0 (in_use w.log a.stages) l.at (omega arith) (omega (arith, len)) l.invariant
    (rw (all, used-is w.log w.positive w.in_table) (in-use-at w.log w.positive w.in_table a.stages n l.at i))
