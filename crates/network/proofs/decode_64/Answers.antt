-- `network::decode_64` meets its contract. Assumes nothing.
use mathlib.Core.Path.{◌∙◌}
use native.Mathlib.Omega.{arith}
use Rattle.network.specs.Decoder.{decode_of}
use Rattle.network.proofs.Filling.{fill-turn, fill-whole}
use Rattle.network.proofs.StageBlocks.{stage-size, controls-counted, decoded-at, decoded-lt}
use Rattle.network.proofs.MaskRouting.{length-decode}
use borrow.Author.Rules.{rules}
use Rattle.network.proofs.decode_64.Goals as goal

pub stage_bits-requires : goal.stage_bits-requires
stage_bits-requires c = stage-size 6 c.loop-at.at (search rules) (omega arith)

pub overflow_cast-stages : goal.overflow_cast-stages
overflow_cast-stages c =
    let i = c.loop-at.at in
    let m = c.args.mask in
    let s = stage-size 6 i (search rules) (omega arith) in
    let bits = c.stage_bits.ensures ∙ controls-counted _ _ m s.0 s.1 c.counts_below-counts.ensures in
    record { fits = omega (arith, bits, decoded-lt 6 i (search rules) (omega arith) m) }

pub loop-at-preserved : goal.loop-at-preserved
loop-at-preserved c =
    let l = c.loop-at in
    let m = c.args.mask in
    let s = stage-size 6 l.at (search rules) (omega arith) in
    let bits = c.stage_bits.ensures ∙ controls-counted _ _ m s.0 s.1 c.counts_below-counts.ensures in
    fill-turn 0 (decode_of 6 m) l.at (search rules) (omega (arith, length-decode 6 m)) l.invariant (decoded-at 6 l.at (search rules) (omega arith) m bits)

pub returns : goal.returns
returns c =
    let l = c.loop-at in
    let m = c.args.mask in
    l.invariant ∙ fill-whole 0 (decode_of 6 m) l.at (omega arith) (length-decode 6 m)
