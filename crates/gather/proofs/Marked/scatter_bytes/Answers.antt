-- `gather::Marked::scatter_bytes` meets its contract. Assumes nothing.
use borrow.Author.Rules.{rules}
use Rattle.gather.proofs.Bytes.{scatter-bytes}
use Rattle.gather.proofs.Marked.scatter_bytes.Goals as goal

pub returns : goal.returns
returns c =
    let a = c.args in
    scatter-bytes a.self.mask a.word (search rules) (search rules) a.self.gaps c.up-even4.ensures c.up-odd4.ensures c.up-fours.ensures
    c.up-odd2.ensures c.up-twos.ensures c.up.ensures
