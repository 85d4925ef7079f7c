-- `network::Width::send` meets its contract. Assumes nothing.
use mathlib.Core.Path.{◌∙◌}
use Prim.Native.Nat.{◌-◌}
use native.Mathlib.Omega.{arith}
use lib.Pow.{pow_pos}
use Rattle.network.proofs.SixSteps.{distance-of, send-turn, send-end}
use Rattle.network.proofs.NetworkAnswers.{control-lt}
use borrow.Author.Rules.{rules}
use Rattle.network.proofs.Width.send.Goals as goal

pub swaps-requires : goal.swaps-requires
swaps-requires g c =
    let l = c.loop-at in
    let a = c.args in
    (search rules, search rules, control-lt a.self.log a.self.in_table a.stages (search rules) (search rules) l.at (search rules))

pub loop-at-preserved : goal.loop-at-preserved
loop-at-preserved g c =
    let l = c.loop-at in
    let a = c.args in
    let b = g.D.Direction.is_rising in
    let d = distance-of b a.self.log l.at (search rules) a.self.in_table c.index_of-index.ensures.2 in (
      search rules,
      send-turn b a.self.log a.stages l.at l.carried (search rules) (search rules) (search rules) (pow_pos (5 - c.index_of-index.result)) d
          c.swaps.ensures c.exchange-carried.ensures
          ∙ l.invariant.1,
    )

pub returns : goal.returns
returns g c =
    let a = c.args in
    send-end g.D.Direction.is_rising a.self.log a.stages a.self.in_table (omega arith) (search rules) c.loop-at.invariant.1
