-- `subwords::check` meets its contract. Assumes nothing.
use mathlib.Core.Path.{◌∙◌}
use Rattle.subwords.proofs.Sizes.{answers-same}
use Rattle.subwords.proofs.Words.{halves-check}
use Rattle.subwords.proofs.check.Goals as goal

pub returns : goal.returns
returns c = let a = c.args in rw (c.of.ensures, c.of-2.ensures) at c.answer_halves.ensures ∙ answers-same a.size (λ h. halves-check a.size h a.first a.second)
