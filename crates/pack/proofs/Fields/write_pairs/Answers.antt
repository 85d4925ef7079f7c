-- `pack::Fields::write_pairs` meets its contract: before a turn, the fields of the first words are put and those of the next two gathered. Assumes nothing.
use mathlib.Core.Path.{◌≡◌}
use Prim.Native.Nat.{◌+◌, ◌-◌, ◌*◌, ◌%◌}
use native.Mathlib.Omega.{arith}
use borrow.Author.Rules.{rules}
use lib.ListN.{length}
use Rattle.pack.proofs.Turns.{pair_turn, pair-room}
use Rattle.pack.proofs.Fields.write_pairs.Goals as goal

pub returns-then-words-lt2 : goal.returns-then-words-lt2
returns-then-words-lt2 c =
    let a = c.args in
    let e : length a.words.now % 2 ≡ length a.words.now = search rules in
    rw e at (c.write_first-cursor.ensures.holds a.out.now)

pub loop-at-init : goal.loop-at-init
loop-at-init c =
    let z : length c.args.words.now % 2 + 2 * 0 ≡ length c.args.words.now % 2 = omega arith in
    rw z (c.gathered_pair-pair.ensures, c.write_first-cursor.ensures.holds _)

pub put_pair-requires : goal.put_pair-requires
put_pair-requires c =
    let a = c.args in
    let f = a.self.now in
    let l = c.loop-at in
    pair-room f.mask a.words.now a.out.now c.requires (length a.words.now % 2 + 2 * (l.at - 1)) (omega arith) l.invariant.1 f.sized

pub loop-at-preserved : goal.loop-at-preserved
loop-at-preserved c =
    let a = c.args in
    let f = a.self.now in
    let l = c.loop-at in
    let i = length a.words.now % 2 + 2 * (l.at - 1) in
    let e : l.at + 1 - 1 ≡ l.at = omega arith in
    let n : i + 2 ≡ length a.words.now % 2 + 2 * l.at = omega arith in
    rw e (
      c.gathered_pair-pair-in-loop-at.ensures,
      rw n at (pair_turn f.mask a.words.now a.out.now {i = i} (omega arith) l.invariant.1 f.sized l.invariant.0 c.put_pair.ensures),
    )

pub put_pair-requires-2 : goal.put_pair-requires-2
put_pair-requires-2 c =
    let a = c.args in
    let f = a.self.now in
    let l = c.loop-at in
    pair-room f.mask a.words.now a.out.now c.requires (length a.words.now % 2 + 2 * (l.at - 1)) (omega arith) l.invariant.1 f.sized

pub returns : goal.returns
returns c =
    let a = c.args in
    let f = a.self.now in
    let l = c.loop-at in
    let i = length a.words.now % 2 + 2 * (l.at - 1) in
    let n : i + 2 ≡ length a.words.now = omega arith in
    rw n at (pair_turn f.mask a.words.now a.out.now {i = i} (omega arith) l.invariant.1 f.sized l.invariant.0 c.put_pair-2.ensures)
