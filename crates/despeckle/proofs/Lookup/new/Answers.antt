-- `despeckle::Lookup::new` meets its contract. Assumes nothing.
use Rattle.despeckle.proofs.Sliding.{rule-at}
use Rattle.despeckle.proofs.Lookup.new.Goals as goal

pub invariant_of-result : goal.invariant_of-result
invariant_of-result c = record { published = rule-at c.published_table.ensures }
