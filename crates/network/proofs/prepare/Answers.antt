-- `network::prepare` meets its contract. Assumes nothing.
use mathlib.Core.Path.{◌∙◌}
use native.Mathlib.Omega.{arith}
use Rattle.network.specs.Stage.{falling}
use Rattle.network.specs.Word.{swaps_at}
use Rattle.network.proofs.Filling.{fill-turn, fill-whole}
use Rattle.network.proofs.SixSteps.{length-six, swaps-here}
use borrow.Author.Rules.{rules}
use Rattle.network.proofs.prepare.Goals as goal

pub loop-index-preserved : goal.loop-index-preserved
loop-index-preserved c =
    let l = c.loop-index in
    let a = c.args in
    fill-turn 0 (swaps_at (falling 6) a.stages) l.index (search rules) (omega (arith, length-six a.stages (search rules))) l.invariant
    (c.swaps.ensures ∙ swaps-here a.stages l.index (search rules) (search rules))

pub returns : goal.returns
returns c =
    let l = c.loop-index in
    let a = c.args in
    l.invariant ∙ fill-whole 0 (swaps_at (falling 6) a.stages) l.index (search rules) (length-six a.stages (search rules))
