-- `grouping::take_destinations` meets its contract. Assumes nothing.
use native.Mathlib.Omega.{arith}
use lib.ListN.{length}
use borrow.Author.Rules.{rules}
use Rattle.grouping.proofs.Taking.{take-start, take_next, take-end}
use Rattle.grouping.proofs.take_destinations.Goals as goal

pub loop-place-init : goal.loop-place-init
loop-place-init c = take-start c.args.entries.now c.args.to.now (search rules)

pub loop-place-preserved : goal.loop-place-preserved
loop-place-preserved c =
    let es = c.args.entries.now in
    let l = c.loop-place in
    take_next (length es) es c.requires.1 c.requires.0 l.place l.mask l.to l.invariant (search rules) c.zero_at.ensures

pub returns : goal.returns
returns c =
    let es = c.args.entries.now in
    let l = c.loop-place in
    let z = take-end (length es) es c.requires.1 c.requires.0 l.place l.mask l.to l.invariant (omega arith) (omega arith) in
    (l.invariant.long, z.0, z.1)
