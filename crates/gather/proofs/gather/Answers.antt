-- `gather::gather` meets its contract. Assumes nothing.
use Rattle.gather.specs.Gather.{gather_of}
use Rattle.gather.proofs.AnyWidth.{gather-at-width}
use Rattle.gather.proofs.MaskAnswers.{answer-by}
use Rattle.gather.proofs.gather.Goals as goal

pub returns : goal.returns
returns c = answer-by _ _ _ gather_of (λ h l k. gather-at-width _ _ _ h l) c.answer.ensures.refused c.answer.ensures.carried_out
