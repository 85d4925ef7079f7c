-- What the loop of `planes::carry_round` keeps, and the kind of step that it hands on. Assumes nothing.
use mathlib.Core.Path.{◌≡◌}
use Prim.Native.Nat.{◌+◌, ◌-◌, ◌*◌}
use Rattle.planes.specs.Rounds.{fill_steps, steps_from, round_steps}
use Rattle.planes.proofs.carry_round.Given as goal

abbrev pub ghost-carry_step : goal.ghost-carry_step
ghost-carry_step g a = g.kind

abbrev pub invariant-loop-turn : goal.invariant-loop-turn
invariant-loop-turn g l =
    fill_steps g.kind (8 + 8 * l.round + l.turn) (steps_from l.steps l.turn (8 - l.turn)) l.filled ≡ fill_steps g.kind (8 + 8 * l.round) (round_steps l.steps) l.initial.filled
