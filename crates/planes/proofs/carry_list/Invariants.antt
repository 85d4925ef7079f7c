-- What the loop of `planes::carry_list` keeps, and the kind of step that it hands on. Assumes nothing.
use mathlib.Core.Path.{◌≡◌}
use Prim.Native.Nat.{◌+◌, ◌*◌}
use lib.ListN.{drop}
use Rattle.planes.specs.Rounds.{fill_steps, rounds}
use Rattle.planes.proofs.StepLists.{listed}
use Rattle.planes.proofs.carry_list.Given as goal

abbrev pub ghost-carry_round : goal.ghost-carry_round
ghost-carry_round g a = g.kind

abbrev pub invariant-loop-round : goal.invariant-loop-round
invariant-loop-round g l =
    fill_steps g.kind (8 + 8 * l.round) (listed (drop l.round rounds)) l.filled ≡ fill_steps g.kind 8 (listed rounds) l.initial.filled
