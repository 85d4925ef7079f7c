-- `permute::names_once` meets its contract. Assumes nothing.
use mathlib.Core.Path.{◌≡◌, sym}
use mathlib.Core.List.{List}
use Prim.Native.Nat.{ℕ, ◌+◌, ◌<◌}
use lib.ListN.{length, get_or, take}
use native.Mathlib.Omega.{arith}
use lib.Seq.{take-length}
use Rattle.permute.proofs.Names.{entry-large, entry-repeated, entry_new, nothing_left, seen_nothing, one-left}
use borrow.Author.Rules.{rules}
use Rattle.permute.proofs.names_once.Goals as goal
use Rattle.permute.proofs.names_once.Goals.{In-Some}

pub loop-entry-init : goal.loop-entry-init
loop-entry-init c =
    let e : c.into_iter-entry-iterator.result.iter.rest.now ≡ c.args.entries.now = search rules in
    rw e (sym (take-length c.args.entries.now), nothing_left c.args.width c.args.entries.now, seen_nothing c.args.entries.now)

-- the entries left, and the one taken from their end
abbrev left : (c : In-Some) → List ℕ
left c = c.next.new.self.iter.rest.now

taken : (c : In-Some) → let es = c.args.entries.now in let rest = left c in
    (length c.loop-entry.entry-iterator.iter.rest.now ≡ length rest + 1) × (length rest < length es) × (rest ≡ take (length rest) es)
    × (c.in-Some.entry.now ≡ get_or es (length rest) 0)
taken c = one-left c.args.entries.now (left c) c.loop-entry.invariant.0 c.in-Some.ensures.steps

pub returns-then-width-entry : goal.returns-then-width-entry
returns-then-width-entry c =
    let i = (goal.at.returns-then-width-entry c).In-Some in
    let t = taken i in
    entry-large c.args.width c.args.entries.now (length (left i)) t.1 (rw (← t.3) c.if-width-entry.true)

pub returns-then-seen-entry-ne0 : goal.returns-then-seen-entry-ne0
returns-then-seen-entry-ne0 c =
    let i = (goal.at.returns-then-seen-entry-ne0 c).In-Some in
    let t = taken i in
    entry-repeated c.args.width c.args.entries.now (length (left i)) t.1 c.loop-entry.seen (rw (← t.3) (omega (arith, c.requires, c.if-width-entry.false)))
    (rw t.0 at c.loop-entry.invariant.2) (rw (← t.3) c.if-seen-entry-ne0.true)

pub loop-entry-preserved : goal.loop-entry-preserved
loop-entry-preserved c =
    let i = (goal.at.loop-entry-preserved c).In-Some in
    let t = taken i in
    let z = entry_new c.args.width c.args.entries.now (length (left i)) t.1 c.loop-entry.seen (rw (← t.3) c.if-width-entry.false) c.requires
    (rw t.0 at c.loop-entry.invariant.2) (rw t.0 at c.loop-entry.invariant.1) (rw (← t.3) c.if-seen-entry-ne0.false)
    in
    (t.2, z.0, rw t.3 z.1)

pub returns : goal.returns
returns c = let e = c.in-None.ensures.steps.0 in let i = c.loop-entry.invariant.1 in sym (rw e at i)
