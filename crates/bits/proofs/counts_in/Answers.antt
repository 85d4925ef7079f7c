-- `bits::counts_in` meets its contract. Assumes nothing.
use Rattle.bits.proofs.ByteCounts.{eight-counts, eight_fits}
use borrow.Author.Rules.{rules}
use Rattle.bits.proofs.counts_in.Goals as goal

pub overflow_add-twos : goal.overflow_add-twos
overflow_add-twos c = record { fits = (eight-counts c.args.byte (search rules)).0 }

pub overflow_add-fours : goal.overflow_add-fours
overflow_add-fours c = record { fits = (eight-counts c.args.byte (search rules)).1 }

pub overflow_add-result : goal.overflow_add-result
overflow_add-result c = record { fits = eight_fits c.args.byte (search rules) }

pub returns : goal.returns
returns c = let z = eight-counts c.args.byte (search rules) in (z.2, z.3)
