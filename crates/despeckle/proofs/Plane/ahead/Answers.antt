-- `despeckle::Plane::ahead` meets its contract. Assumes nothing.
use borrow.Author.Rules.{rules}
use Rattle.despeckle.proofs.Border.{word-ahead}
use Rattle.despeckle.proofs.Plane.ahead.Goals as goal

pub returns : goal.returns
returns c = word-ahead _ _ _ _ _ c.word_at.result c.word_at-2.result (search rules) c.word_at.ensures c.word_at-2.ensures
