-- `subwords::rights_of` meets its contract. Assumes nothing.
use Rattle.subwords.proofs.Sizes.{size-found}
use borrow.Author.Rules.{rules}
use Rattle.subwords.proofs.rights_of.Goals as goal

pub returns-then-distance-size : goal.returns-then-distance-size
returns-then-distance-size c = size-found c.args.size c.loop-index.index (search rules) c.if-distance-size.true
