-- `pack::read_fields` meets its contract. Assumes nothing.
use mathlib.Core.Path.{◌≡◌, ◌∙◌, ap}
use Prim.Native.Nat.{ℕ, ◌+◌}
use native.Mathlib.Omega.{arith}
use borrow.Author.Rules.{rules}
use lib.ListN.{length}
use Rattle.bits.proofs.Rank.{rank-le}
use Rattle.bits.specs.Bit.{up_to}
use Rattle.pack.specs.Fields.{size_of, scattered_at}
use Rattle.bits.proofs.FilledLists.{fill_none, fill-next, fill-all}
use Rattle.pack.proofs.Turns.{unpack-starts, unpack-room, unpack-field}
use Rattle.pack.proofs.WholeWords.{copied-unpacked}
use Rattle.pack.proofs.read_fields.Goals as goal

pub returns-then-size-eq64 : goal.returns-then-size-eq64
returns-then-size-eq64 c =
    let a = c.args in
    let whole : size_of a.cut.mask ≡ 64 = omega (arith, a.cut.sized, c.if-size-eq64.true) in
    c.copy_words.ensures ∙ copied-unpacked a.cut.mask whole a.packed.now a.out.now (λ i. omega (arith, c.type_inv.packed i)) (search rules)

pub returns-then-len-eq0 : goal.returns-then-len-eq0
returns-then-len-eq0 c =
    let a = c.args in
    let f = scattered_at a.cut.mask a.packed.now in
    let e : 0 ≡ length a.out.now = omega (arith, c.if-len-eq0.true) in
    fill_none f a.out.now ∙ fill-all f 0 a.out.now (omega arith) ∙ ap (λ (n : ℕ). up_to n f) e

pub invariant_of-fields : goal.invariant_of-fields
invariant_of-fields c =
    let a = c.args in
    record { sized = a.cut.sized; short = omega (arith, rank-le a.cut.mask 64, a.cut.sized, c.if-size-eq64.false); gathers = c.moves.ensures }

pub invariant_of-fields-2 : goal.invariant_of-fields-2
invariant_of-fields-2 c =
    let a = c.args in
    record { sized = a.cut.sized; short = omega (arith, rank-le a.cut.mask 64, a.cut.sized, c.if-size-eq64.false); gathers = c.moves.ensures }

pub take-field-requires : goal.take-field-requires
take-field-requires c =
    let a = c.args in
    unpack-room a.cut.mask a.packed.now c.requires (search rules) (unpack-starts _ _ c.start-cursor.ensures) a.cut.sized

pub returns-then-len-eq1 : goal.returns-then-len-eq1
returns-then-len-eq1 c =
    let a = c.args in
    let f = scattered_at a.cut.mask a.packed.now in
    let e : 0 + 1 ≡ length a.out.now = search rules in
    fill-next f 0 a.out.now (search rules) (fill_none f a.out.now)
    (c.scattered.ensures ∙ unpack-field _ _ 0 (unpack-starts _ _ c.start-cursor.ensures) a.cut.sized c.take-field.ensures)
    ∙ fill-all f (0 + 1) a.out.now (omega (arith, e))
    ∙ ap (λ (n : ℕ). up_to n f) e
