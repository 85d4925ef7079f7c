-- `despeckle::published_table` meets its contract: the checker computes the rule at each of the 512 numbers, and compares. Assumes nothing.
use mathlib.Core.Path.{refl}
use Rattle.bits.specs.Bit.{bit, up_to, rank}
use Rattle.despeckle.specs.Plane.{lit_rule}
use Rattle.despeckle.proofs.published_table.Goals as goal

pub returns : goal.returns
unfolding up_to lit_rule rank bit
returns c = refl
