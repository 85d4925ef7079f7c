-- `first::Marks::walk` meets its contract. Assumes nothing.
use native.Mathlib.Omega.{arith}
use Rattle.routing.proofs.Level.{other-small}
use Rattle.first.specs.Marks.{InOuter}
use Rattle.first.proofs.Walking.{kept_trans, last_bit, last-place, last-kept, last-closed, last-first, last-count, first-kept, first-last, first-falls, stepped-after}
use Rattle.first.proofs.Marks.walk.Goals as goal

pub entry_of-place-requires : goal.entry_of-place-requires
entry_of-place-requires c = last_bit _ _ _ _ _ _ _ c.loop-block.invariant.0

pub other_of-requires : goal.other_of-requires
other_of-requires c = omega (arith, last-place _ _ _ _ _ _ _ c.loop-block.invariant.0, c.entry_of-place.ensures)

pub entry_of-next-requires : goal.entry_of-next-requires
entry_of-next-requires c =
    let small = last-place _ _ _ _ _ _ _ c.loop-block.invariant.0 in
    let other = other-small c.args.block.exponent c.entry_of-place.result (omega (arith, small, c.entry_of-place.ensures)) in
    omega (arith, other, c.other_of.ensures)

pub returns-then-switch_of-start : goal.returns-then-switch_of-start
returns-then-switch_of-start c =
    stepped-after _ _ _ _ _ _ _ _ c.loop-block.invariant.1
    (last-closed _ _ _ _ _ _ _ c.loop-block.invariant.0 _ c.entry_of-place.ensures c.mark_last.ensures
    c.other_of.ensures c.entry_of-next.ensures c.switch_of.ensures.0 c.if-switch_of-start.true)

pub other_of-bit-requires : goal.other_of-bit-requires
other_of-bit-requires c =
    let next = last-first _ _ _ _ _ _ _ c.loop-block.invariant.0 _ c.entry_of-place.ensures c.mark_last.ensures
    c.other_of.ensures c.entry_of-next.ensures c.switch_of.ensures.0 c.if-switch_of-start.false in next.small

pub loop-block-smaller : goal.loop-block-smaller
loop-block-smaller c =
    let next = last-first _ _ _ _ _ _ _ c.loop-block.invariant.0 _ c.entry_of-place.ensures c.mark_last.ensures
    c.other_of.ensures c.entry_of-next.ensures c.switch_of.ensures.0 c.if-switch_of-start.false in
    let same = last-count _ _ _ _ _ _ _ c.loop-block.invariant.0 _ c.entry_of-place.ensures c.mark_last.ensures
    c.other_of.ensures c.entry_of-next.ensures c.switch_of.ensures.0 in
    omega (arith, first-falls _ _ _ _ _ _ _ _ next c.mark_first.ensures, same)

pub loop-block-preserved : goal.loop-block-preserved
loop-block-preserved c =
    let In = InOuter c.args.block.exponent c.args.block.first in
    let next = last-first _ _ _ _ _ _ _ c.loop-block.invariant.0 _ c.entry_of-place.ensures c.mark_last.ensures
    c.other_of.ensures c.entry_of-next.ensures c.switch_of.ensures.0 c.if-switch_of-start.false in
    let kept = last-kept _ _ _ _ _ _ _ c.loop-block.invariant.0 _ c.entry_of-place.ensures c.mark_last.ensures
    c.other_of.ensures c.entry_of-next.ensures c.switch_of.ensures.0 in (
      first-last _ _ _ _ _ _ _ _ next c.mark_first.ensures c.other_of-bit.ensures,
      kept_trans In _ _ _ (kept_trans In _ _ _ c.loop-block.invariant.1 kept)
          (first-kept _ _ _ _ _ _ _ _ next c.mark_first.ensures),
    )
