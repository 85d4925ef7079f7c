-- `gather::Marked::group` meets its contract: the marked bits stand below the unmarked ones. Assumes nothing.
use borrow.Author.Rules.{rules}
use Rattle.gather.proofs.AnyWidth.{group-sum, group-fits}
use Rattle.gather.proofs.Marked.group.Goals as goal

pub gather_below-requires : goal.gather_below-requires
gather_below-requires c = let a = c.args in group-fits a.self.mask _ (search rules) c.gather_64.ensures

pub returns : goal.returns
returns c = let a = c.args in group-sum a.self.mask a.word (search rules) c.gather_64.ensures c.gather_below.ensures
