-- `network::stage_bits` meets its contract. Assumes nothing.
use mathlib.Core.Path.{◌≡◌, ap}
use Prim.Native.Nat.{ℕ, ◌+◌, ◌*◌, ◌≤◌}
use native.Mathlib.Omega.{arith}
use Rattle.bits.specs.Bit.{of_bits}
use Rattle.network.specs.Decoder.{control_by}
use Rattle.network.proofs.StageBlocks.{block-small, stage-turn, stage-fits}
use borrow.Author.Rules.{rules}
use Rattle.network.proofs.stage_bits.Goals as goal
use Rattle.network.proofs.stage_bits.Goals.{In-loop-block}

pub loop-block-init : goal.loop-block-init
unfolding of_bits
loop-block-init c =
    let e : 0 ≡ c.args.distance * 0 = omega arith in
    ap (λ (n : ℕ). of_bits n (control_by c.args.distance c.args.counts)) e

small : (c : In-loop-block) → c.args.distance * (c.loop-block.block + 1) ≤ 32
small c = let a = c.args in (block-small a.distance c.loop-block.block a.blocks (search rules) (search rules) (search rules)).0

pub overflow_add-out : goal.overflow_add-out
overflow_add-out c =
    let l = c.loop-block in
    let a = c.args in
    let z = small (goal.at.overflow_add-out c).In-loop-block in
    let e = stage-turn a.distance a.counts l.block (search rules) z l.invariant c.turned_bits.ensures in
    record { fits = omega (arith, e, stage-fits a.distance a.counts l.block (search rules) z) }

pub loop-block-preserved : goal.loop-block-preserved
loop-block-preserved c =
    let l = c.loop-block in
    let a = c.args in
    stage-turn a.distance a.counts l.block (search rules) (small (goal.at.loop-block-preserved c).In-loop-block) l.invariant c.turned_bits.ensures
