-- The kind of step of `planes::to_planes`. Assumes nothing.
use Rattle.planes.specs.Steps.{keep_halves}
use Rattle.planes.proofs.to_planes.Given as goal

abbrev pub ghost-carry_list : goal.ghost-carry_list
ghost-carry_list a = keep_halves
