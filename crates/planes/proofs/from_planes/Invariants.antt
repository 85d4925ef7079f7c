-- The kind of step of `planes::from_planes`. Assumes nothing.
use Rattle.planes.specs.Rounds.{mirrored_merge}
use Rattle.planes.proofs.from_planes.Given as goal

abbrev pub ghost-carry_list : goal.ghost-carry_list
ghost-carry_list a = mirrored_merge
