-- `gather::group` meets its contract. Assumes nothing.
use Rattle.gather.specs.Gather.{group_of}
use Rattle.gather.proofs.AnyWidth.{group-at-width}
use Rattle.gather.proofs.MaskAnswers.{answer-by}
use Rattle.gather.proofs.group.Goals as goal

pub returns : goal.returns
returns c = answer-by _ _ _ group_of (group-at-width _ _ _) c.answer.ensures.refused c.answer.ensures.carried_out
