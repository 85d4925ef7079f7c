-- `grouping::group_pass` meets its contract. Assumes nothing.
use mathlib.Core.Path.{refl}
use Prim.Native.Nat.{◌<◌}
use native.Mathlib.Omega.{arith}
use lib.ListN.{length}
use borrow.Author.Rules.{rules}
use Rattle.bits.specs.Bit.{bit}
use Rattle.grouping.proofs.Passing.{pass-start, cursor-le, at-most-one, at-below, pass-next, pass-end}
use Rattle.grouping.proofs.group_pass.Goals as goal
use Rattle.grouping.proofs.group_pass.Goals.{After-place_of-at}

pub loop-place-init : goal.loop-place-init
loop-place-init c = pass-start c.args.mask c.args.index c.args.from.now c.args.into.now (search rules)

pub overflow_sub-above : goal.overflow_sub-above
overflow_sub-above c = cursor-le c.args.mask c.args.index c.args.from.now c.loop-place.invariant

-- where the content goes
at : (c : After-place_of-at) → c.place_of-at.result < 64
unfolding bit
at c =
    let a = c.args in
    let l = c.loop-place in
    at-below a.mask a.index a.from.now c.requires.0 c.requires.3 l.place l.low l.next l.into (search rules) l.invariant refl c.place_of-at.ensures

pub bounds-into-at : goal.bounds-into-at
bounds-into-at c = at (goal.at.bounds-into-at c).After-place_of-at

pub overflow_shl-next : goal.overflow_shl-next
overflow_shl-next c =
    let h : c.loop-place.place < length c.args.from.now = search rules in
    omega (arith, at (goal.at.overflow_shl-next c).After-place_of-at, h, c.requires.0)

pub overflow_add-low : goal.overflow_add-low
unfolding bit
overflow_add-low c =
    let a = c.args in
    let h = cursor-le a.mask a.index a.from.now c.loop-place.invariant in
    record { fits = omega (arith, h, at-most-one a.mask c.loop-place.place) }

pub loop-place-preserved : goal.loop-place-preserved
unfolding bit
loop-place-preserved c =
    let a = c.args in
    let l = c.loop-place in
    pass-next a.mask a.index a.from.now c.requires.0 c.requires.3 l.place l.low l.next l.into (search rules) l.invariant refl c.place_of-at.ensures c.zero_at.ensures

pub returns : goal.returns
returns c =
    let a = c.args in
    let l = c.loop-place in
    let z = pass-end a.mask a.index a.from.now c.requires.0 c.requires.3 l.place l.low l.next l.into (omega arith) l.invariant in
    (l.invariant.long, z.0, z.1)
