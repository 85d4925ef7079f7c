-- `planes::carry_list` meets its contract. Assumes nothing.
use mathlib.Core.Path.{◌∙◌, ap}
use native.Mathlib.Omega.{arith}
use Rattle.planes.specs.Steps.{last_eight}
use Rattle.planes.proofs.StepLists.{rounds-turn, rounds-end}
use borrow.Author.Rules.{rules}
use Rattle.planes.proofs.carry_list.Goals as goal

pub loop-round-preserved : goal.loop-round-preserved
loop-round-preserved g c =
    let l = c.loop-round in
    rounds-turn g.kind l.round l.filled (search rules) c.carry_round-further.ensures ∙ l.invariant

pub returns : goal.returns
returns g c =
    let l = c.loop-round in
    c.last_eight.ensures ∙ ap last_eight (rounds-end g.kind l.round c.args.words (search rules) (omega arith) c.with_room-filled.ensures l.invariant)
