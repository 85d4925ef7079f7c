-- `bits::counts_below` meets its contract. Assumes nothing.
use mathlib.Core.Path.{◌≡◌, refl, ◌∙◌, ap}
use Prim.Native.Nat.{ℕ, ◌+◌, ◌*◌, ◌/◌, ◌%◌, ◌^◌, ◌<◌, ◌≤◌}
use native.Mathlib.Omega.{arith}
use Rattle.bits.specs.Bit.{byte_at, up_to, rank}
use Rattle.bits.proofs.Rank.{rank-le}
use Rattle.bits.proofs.ByteCounts.{count_at, counted_to, count_small, next-count, eight-fit, eight-noted, counted-whole}
use borrow.Author.Rules.{rules}
use Rattle.bits.proofs.counts_below.Goals as goal

pub loop-part-init : goal.loop-part-init
unfolding up_to rank
loop-part-init c = (refl, search rules)

-- what keeps the numbers of a turn small
small : (mask start part : ℕ) → start < 192 → part < 8 → (8 * part ≤ 56) × (count_at mask start (8 * part) ≤ 247)
small mask start part h l = let room : 8 * part ≤ 56 = omega arith in (room, count_small mask start (8 * part) h room)

pub overflow_mul-eight : goal.overflow_mul-eight
overflow_mul-eight c =
    let l = c.loop-part in
    record { fits = omega (arith, l.invariant.1, (small c.args.mask c.args.start l.part c.requires c.loop-part-test.true).1) }

pub overflow_add-eight : goal.overflow_add-eight
overflow_add-eight c =
    let l = c.loop-part in
    let a = c.args in
    let z = small a.mask a.start l.part c.requires c.loop-part-test.true in
    record { fits = rw l.invariant.1 (eight-fit a.mask a.start (8 * l.part) c.counts_in-inside.ensures.0 z.1) }

-- the count at the next byte
next : (mask start part : ℕ) → start < 192 → part < 8 → {inside : ℕ} → (inside < 2 ^ 59) × ((k : ℕ) → k < 8 → byte_at inside k ≡ rank (mask / 2 ^ (8 * part) % 2 ^ 8) k)
    → {below : ℕ} → below ≡ count_at mask start (8 * part) → below + (inside / 2 ^ 56 + mask / 2 ^ (8 * part) % 2 ^ 8 / 2 ^ 7) ≡ count_at mask start (8 * (part + 1))
next mask start part h l {inside} e {below} b =
    rw b (next-count mask start (8 * part) e.0 (small mask start part h l).1 e.1)
    ∙ (let first : 8 * part + 8 ≡ 8 * (part + 1) = omega arith in ap (count_at mask start) first)

pub overflow_add-below-in-loop-part : goal.overflow_add-below-in-loop-part
overflow_add-below-in-loop-part c =
    let l = c.loop-part in
    let a = c.args in
    record { fits = omega (arith, next a.mask a.start l.part c.requires c.loop-part-test.true c.counts_in-inside.ensures l.invariant.1, rank-le a.mask (8 * (l.part + 1))) }

pub store_bytes-noted-requires : goal.store_bytes-noted-requires
store_bytes-noted-requires c = (small c.args.mask c.args.start c.loop-part.part c.requires c.loop-part-test.true).0

pub loop-part-preserved : goal.loop-part-preserved
loop-part-preserved c =
    let l = c.loop-part in
    let a = c.args in
    let e = c.counts_in-inside.ensures in
    let z = small a.mask a.start l.part c.requires c.loop-part-test.true in
    let first : 8 * l.part + 8 ≡ 8 * (l.part + 1) = omega arith in (
      c.store_bytes-noted.ensures
          ∙ rw l.invariant.1 (eight-noted a.mask a.start (8 * l.part) e.0 z.1 e.1 z.0 l.invariant.0)
          ∙ ap (counted_to a.mask a.start) first,
      next a.mask a.start l.part c.requires c.loop-part-test.true e l.invariant.1,
    )

pub returns : goal.returns
returns c =
    let e : 8 * c.loop-part.part ≡ 64 = omega arith in
    c.loop-part.invariant.0 ∙ counted-whole c.args.mask c.args.start e
