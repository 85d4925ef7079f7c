-- `gather::Marked::new` meets its contract. Assumes nothing.
use Prim.Native.Nat.{◌<◌, ◌^◌}
use borrow.Author.Rules.{rules}
use Rattle.gather.proofs.Bytes.{gaps1, gaps2, gaps4, counts8}
use Rattle.gather.proofs.Marked.new.Goals as goal

pub overflow_sub-result-2 : goal.overflow_sub-result-2
overflow_sub-result-2 c = (gaps2 (search rules) c.summed-counts2.ensures).0

pub overflow_sub-result-3 : goal.overflow_sub-result-3
overflow_sub-result-3 c = (gaps4 (search rules) c.summed-counts2.ensures c.summed-counts4.ensures).0

pub invariant_of-result : goal.invariant_of-result
invariant_of-result c =
    let l : c.args.mask < 2 ^ 64 = search rules in
    let e2 = c.summed-counts2.ensures in
    let e4 = c.summed-counts4.ensures in
    record {
      gaps = (gaps1 l, (gaps2 l e2).1, (gaps4 l e2 e4).1);
      counted = counts8 l e2 e4 c.summed.ensures;
    }
