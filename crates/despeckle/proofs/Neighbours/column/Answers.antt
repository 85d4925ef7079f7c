-- `despeckle::Neighbours::column` meets its contract. Assumes nothing.
use Rattle.despeckle.proofs.Sliding.{column-joined}
use Rattle.despeckle.proofs.Neighbours.column.Goals as goal

pub returns : goal.returns
returns c = column-joined c.args.self.above c.args.self.own c.args.self.below
