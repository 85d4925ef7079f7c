-- `subwords::exchange_at` meets its contract. Assumes nothing.
use mathlib.Core.Path.{◌∙◌}
use Prim.Native.Nat.{◌-◌, ◌^◌}
use Rattle.network.proofs.Table.{distance-at, pair-at}
use Rattle.subwords.proofs.Sizes.{distance-size}
use Rattle.subwords.proofs.Words.{exchanged-by}
use borrow.Author.Rules.{rules}
use Rattle.subwords.proofs.exchange_at.Goals as goal

pub returns : goal.returns
returns c =
    let a = c.args in
    let z = 2 ^ (5 - a.index) in
    let h = distance-size a.index (search rules) in
    c.weave.ensures z h (pair-at a.index (search rules)) ∙ exchanged-by z h (distance-at a.index (search rules)) a.word
