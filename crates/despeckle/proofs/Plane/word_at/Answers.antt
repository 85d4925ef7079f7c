-- `despeckle::Plane::word_at` meets its contract. Assumes nothing.
use mathlib.Core.Path.{refl}
use borrow.Author.Rules.{rules}
use Rattle.despeckle.proofs.Border.{word_over, word-under, word-beside, word-within}
use Rattle.despeckle.proofs.Plane.word_at.Goals as goal
use Rattle.despeckle.proofs.Plane.word_at.Goals.{then-row-eq0-via-then-row-eq0, then-row-eq0-via-else-row-eq0+then-self-row, then-row-eq0-via-else-row-eq0+else-self-row+then-self-at}

pub returns-then-row-eq0 : goal.returns-then-row-eq0
returns-then-row-eq0 c =
    elim c.then-row-eq0.branch [
      | then-row-eq0-via-then-row-eq0 w ↦ word_over _ _ _ _ _ w.if-row-eq0.true
      | then-row-eq0-via-else-row-eq0+then-self-row w ↦ word-under _ _ _ _ _ w.if-self-row.true
      | then-row-eq0-via-else-row-eq0+else-self-row+then-self-at w ↦ word-beside _ _ _ _ _ w.if-row-eq0.false (search rules)
    ]

pub returns : goal.returns
returns c = word-within _ _ _ _ _ c.if-row-eq0.false c.if-self-row.false (search rules) refl
