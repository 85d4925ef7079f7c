-- `network::Width::by_index` meets its contract. Assumes nothing.
use native.Mathlib.Omega.{arith}
use Rattle.network.specs.Word.{all_pass, by_index}
use Rattle.network.proofs.Filling.{fill-turn}
use Rattle.network.proofs.Six.{length-index}
use Rattle.network.proofs.SixSteps.{index-here}
use borrow.Author.Rules.{rules}
use Rattle.network.proofs.Width.by_index.Goals as goal

pub loop-index-preserved : goal.loop-index-preserved
loop-index-preserved g c =
    let l = c.loop-index in
    let a = c.args in
    let b = g.D.Direction.is_rising in
    let n = length-index a.self.log a.self.in_table a.stages (search rules) b in
    fill-turn all_pass (by_index b a.self.log a.stages) l.index (search rules) (omega (arith, n)) l.invariant
    (index-here b a.self.log a.self.in_table a.stages (search rules) l.index (search rules) (search rules) c.stage_at.ensures.1)
