-- `first::Marks::visit` meets its contract. Assumes nothing.
use borrow.Author.Rules.{rules}
use Rattle.first.proofs.Walking.{visit-skip, visit-last}
use Rattle.first.proofs.Marks.visit.Goals as goal

pub walk-requires : goal.walk-requires
walk-requires c =
    visit-last _ _ _ _ _ _ c.args.block.fits c.requires.0 c.requires.1 _ c.mark_first.ensures (search rules) c.half.ensures.0

pub returns-else-eq : goal.returns-else-eq
returns-else-eq c = visit-skip _ _ _ _ _ _ c.args.block.fits c.requires.0 c.requires.1 (search rules)
