-- `network::Width::check` meets its contract. Assumes nothing.
use mathlib.Core.Path.{refl, sym, ◌∙◌}
use Rattle.network.proofs.NetworkAnswers.{refusal-by}
use Rattle.network.proofs.Width.check.Goals as goal

pub returns-then-not-is_within : goal.returns-then-not-is_within
returns-then-not-is_within c =
    let a = c.args in
    sym (refusal-by a.self.bits a.stages a.word a.self.positive a.self.is_log (sym c.is_within.ensures ∙ c.if-not-is_within.true) refl)

pub returns-then-not-is_used_only : goal.returns-then-not-is_used_only
returns-then-not-is_used_only c =
    let a = c.args in
    sym (refusal-by a.self.bits a.stages a.word a.self.positive a.self.is_log (sym c.is_within.ensures ∙ c.if-not-is_within.false)
    (sym c.is_used_only.ensures ∙ c.if-not-is_used_only.true))

pub returns : goal.returns
returns c =
    let a = c.args in
    sym (refusal-by a.self.bits a.stages a.word a.self.positive a.self.is_log (sym c.is_within.ensures ∙ c.if-not-is_within.false)
    (sym c.is_used_only.ensures ∙ c.if-not-is_used_only.false))
