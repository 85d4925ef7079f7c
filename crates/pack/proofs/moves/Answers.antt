-- `pack::moves` meets its contract: before turn i, the first i words are found, and `ones` has the gaps divided by 2 ^ i.
-- Assumes nothing.
use borrow.Author.Rules.{rules}
use Rattle.pack.proofs.Gaps.{halved_none, halved-next, moves-none, moves_next}
use Rattle.pack.proofs.moves.Goals as goal

pub loop-i-init : goal.loop-i-init
loop-i-init c = (search rules, halved_none (search rules), moves-none)

pub loop-i-preserved : goal.loop-i-preserved
loop-i-preserved c =
    let inv = c.loop-i.invariant in
    let p = c.parities-word.ensures in
    (search rules, halved-next inv.1 p (search rules), moves_next inv.1 p (search rules) inv.2)
