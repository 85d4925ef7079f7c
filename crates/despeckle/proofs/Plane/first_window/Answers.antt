-- `despeckle::Plane::first_window` meets its contract. Assumes nothing.
use borrow.Author.Rules.{rules}
use Rattle.despeckle.proofs.Border.{first-window}
use Rattle.despeckle.proofs.Sliding.{first-lt}
use Rattle.despeckle.proofs.Plane.first_window.Goals as goal

pub returns : goal.returns
returns c =
    first-window _ _ _ _ (search rules) (search rules) (search rules) c.word_at-above.ensures c.word_at-own.ensures
    c.word_at-below.ensures

pub invariant_of-result : goal.invariant_of-result
invariant_of-result c = record { small = first-lt c.word_at-above.result c.word_at-own.result c.word_at-below.result (search rules) (search rules) (search rules) }
