-- `network::swaps` meets its contract. Assumes nothing.
use Rattle.network.specs.Word.{swaps_of}
use Rattle.network.proofs.Table.{pair-at}
use borrow.Author.Rules.{rules}
use Rattle.network.proofs.swaps.Goals as goal

pub returns : goal.returns
unfolding swaps_of
returns c = let a = c.args in rw (pair-at a.index (search rules), c.spread.ensures)
