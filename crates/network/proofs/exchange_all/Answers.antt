-- `network::exchange_all` meets its contract. Assumes nothing.
use mathlib.Core.Path.{◌∙◌, sym}
use Rattle.network.proofs.SixSteps.{exchange-turn, exchange-end}
use borrow.Author.Rules.{rules}
use Rattle.network.proofs.exchange_all.Goals as goal

pub loop-at-preserved : goal.loop-at-preserved
loop-at-preserved g c =
    let l = c.loop-at in
    exchange-turn g.D.Direction.is_rising c.args.words (search rules) l.at l.carried (search rules) c.index_of-index.ensures.2 c.exchange-carried.ensures ∙ l.invariant

pub returns : goal.returns
returns g c = let l = c.loop-at in sym (exchange-end g.D.Direction.is_rising c.args.words l.at l.carried (search rules)) ∙ l.invariant
