-- `network::Width::is_used_only` meets its contract. Assumes nothing.
use mathlib.Core.Path.{◌∙◌}
use Rattle.network.proofs.NetworkAnswers.{fit-turn}
use borrow.Author.Rules.{rules}
use Rattle.network.proofs.Width.is_used_only.Goals as goal

pub loop-at-preserved : goal.loop-at-preserved
loop-at-preserved c =
    let l = c.loop-at in
    let a = c.args in
    fit-turn a.self.log l.at a.stages (search rules) l.unused c.used_bits.ensures ∙ l.invariant
