-- `gather::scatter` meets its contract. Assumes nothing.
use Rattle.gather.specs.Gather.{scatter_of}
use Rattle.gather.proofs.AnyWidth.{scatter-at-width}
use Rattle.gather.proofs.MaskAnswers.{answer-by}
use Rattle.gather.proofs.scatter.Goals as goal

pub returns : goal.returns
returns c = answer-by _ _ _ scatter_of (λ h l k. scatter-at-width _ _ _ h l) c.answer.ensures.refused c.answer.ensures.carried_out
