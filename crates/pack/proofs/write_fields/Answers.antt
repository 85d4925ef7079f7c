-- `pack::write_fields` meets its contract. Assumes nothing.
use mathlib.Core.Path.{◌≡◌, ◌∙◌}
use native.Mathlib.Omega.{arith}
use Rattle.bits.proofs.Rank.{rank-le}
use Rattle.pack.specs.Fields.{size_of}
use Rattle.pack.proofs.Turns.{pack-finished}
use Rattle.pack.proofs.WholeWords.{copied-packed}
use Rattle.pack.proofs.write_fields.Goals as goal

pub returns-then-size-eq64 : goal.returns-then-size-eq64
returns-then-size-eq64 c =
    let a = c.args in
    let whole : size_of a.cut.mask ≡ 64 = omega (arith, a.cut.sized, c.if-size-eq64.true) in
    rw c.copy_words.ensures (copied-packed a.cut.mask whole a.words.now a.out.now (λ i. omega (arith, c.type_inv.words i)))

pub invariant_of-packing : goal.invariant_of-packing
invariant_of-packing c =
    let a = c.args in
    record { sized = a.cut.sized; short = omega (arith, rank-le a.cut.mask 64, a.cut.sized, c.if-size-eq64.false); gathers = c.moves.ensures }

pub returns : goal.returns
returns c =
    let a = c.args in
    c.finish.ensures ∙ pack-finished a.cut.mask a.words.now a.out.now c.requires c.write_pairs-cursor.ensures
