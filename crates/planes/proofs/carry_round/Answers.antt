-- `planes::carry_round` meets its contract. Assumes nothing.
use mathlib.Core.Path.{◌≡◌, ◌∙◌}
use Prim.Native.Nat.{◌+◌, ◌*◌}
use native.Mathlib.Omega.{arith}
use Rattle.planes.specs.Rounds.{fill_steps, steps_from}
use Rattle.planes.proofs.StepLists.{step-turn, rounds-step}
use borrow.Author.Rules.{rules}
use Rattle.planes.proofs.carry_round.Goals as goal

pub carry_step-requires : goal.carry_step-requires
carry_step-requires g c κs within =
    let listed = rounds-step c.args.round c.loop-turn.turn c.requires.1.0.0 (search rules) in
    (within, (search rules, (rw c.requires.1.0.1 listed, c.requires.1.1)))

pub loop-turn-preserved : goal.loop-turn-preserved
loop-turn-preserved g c =
    let l = c.loop-turn in
    let a = c.args in
    step-turn g.kind a.steps (8 + 8 * a.round) l.turn l.filled (search rules) c.carry_step.ensures ∙ l.invariant

pub returns : goal.returns
unfolding fill_steps steps_from
returns g c = let e : c.loop-turn.turn ≡ 8 = omega arith in rw e at c.loop-turn.invariant
