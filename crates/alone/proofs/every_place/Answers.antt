-- `alone::every_place` meets its contract. Assumes nothing.
use borrow.Author.Rules.{rules}
use Rattle.alone.proofs.every_place.Goals as goal

pub returns : goal.returns
returns c = (search rules, λ p h. let k = c.from_fn.ensures.items.at p 0 h in search rules)
