-- `gather::answer` meets its contract. Assumes nothing.
use mathlib.Core.Path.{refl, ◌∙◌, ap}
use Prim.Native.Nat.{ℕ}
use Rattle.bits.specs.Bit.{rank}
use Rattle.gather.proofs.answer.Goals as goal

pub returns-in-Ok-clause-carried_out : goal.returns-in-Ok-clause-carried_out
returns-in-Ok-clause-carried_out g c =
    λ z. (refl, c.count.ensures ∙ ap (λ (m : ℕ). rank m 64) c.new-marked.ensures, (c.new-marked.result, c.new-marked.ensures, c.word_of-word.ensures))
