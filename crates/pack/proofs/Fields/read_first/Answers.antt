-- `pack::Fields::read_first` meets its contract. Assumes nothing.
use mathlib.Core.Path.{◌≡◌, ◌∙◌}
use Prim.Native.Nat.{◌%◌}
use borrow.Author.Rules.{rules}
use lib.ListN.{length, set, length-set}
use Rattle.pack.specs.Fields.{scattered_at}
use Rattle.bits.proofs.FilledLists.{fill_none, fill-next, fill-less}
use Rattle.pack.proofs.Turns.{unpack-starts, unpack-room, unpack-turn, unpack-field}
use Rattle.pack.proofs.Fields.read_first.Goals as goal

pub returns-then-out-eq0 : goal.returns-then-out-eq0
returns-then-out-eq0 c =
    let a = c.args in
    let e : 0 ≡ length a.out.now % 2 = search rules in
    rw (← e) (unpack-starts a.self.now.mask a.packed.now c.start-cursor.ensures, fill_none _ _)

pub take-high-requires : goal.take-high-requires
take-high-requires c =
    let a = c.args in
    let f = a.self.now in
    let s = unpack-starts f.mask a.packed.now c.start-cursor.ensures in
    unpack-room f.mask a.packed.now c.requires.0 (search rules) (unpack-turn _ _ 0 s f.sized c.take-low.ensures) f.sized

pub returns : goal.returns
returns c =
    let a = c.args in
    let f = a.self.now in
    let e : 1 ≡ length a.out.now % 2 = search rules in
    let s = unpack-starts f.mask a.packed.now c.start-cursor.ensures in
    let t = unpack-turn f.mask a.packed.now 0 s f.sized c.take-low.ensures in
    rw (← e) (
      t,
      fill-less (scattered_at f.mask a.packed.now) 1 a.out.now
          (fill-next _ 1 a.out.now {out = set a.out.now 0 c.scattered.result} (simp length-set (search rules))
          (fill-next _ 0 a.out.now (search rules) (fill_none _ a.out.now) (c.scattered.ensures ∙ unpack-field _ _ 0 s f.sized c.take-low.ensures))
          (c.scattered-2.ensures ∙ unpack-field _ _ 1 t f.sized c.take-high.ensures)),
    )
