-- `gather::Marked::count` meets its contract. Assumes nothing.
use Rattle.gather.proofs.Counting.{counts-added}
use Rattle.gather.proofs.Marked.count.Goals as goal

pub overflow_add-sums : goal.overflow_add-sums
overflow_add-sums c = record { fits = (counts-added _ c.args.self.counted).0 }

pub returns : goal.returns
returns c = (counts-added _ c.args.self.counted).1
