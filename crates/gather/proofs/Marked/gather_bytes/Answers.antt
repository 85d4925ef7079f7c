-- `gather::Marked::gather_bytes` meets its contract. Assumes nothing.
use borrow.Author.Rules.{rules}
use Rattle.gather.proofs.Bytes.{gather-bytes}
use Rattle.gather.proofs.Marked.gather_bytes.Goals as goal

pub returns : goal.returns
returns c =
    let a = c.args in
    gather-bytes a.self.mask a.word (search rules) (search rules) a.self.gaps c.down-twos.ensures c.down-odd2.ensures c.down-fours.ensures
    c.down-odd4.ensures c.down-even4.ensures c.down.ensures
