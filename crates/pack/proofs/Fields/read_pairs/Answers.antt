-- `pack::Fields::read_pairs` meets its contract: before a turn, the first fields are scattered. Assumes nothing.
use mathlib.Core.Path.{◌≡◌, ◌∙◌}
use Prim.Native.Nat.{◌+◌, ◌*◌, ◌%◌}
use native.Mathlib.Omega.{arith}
use lib.ListN.{length, length-set}
use Rattle.pack.specs.Fields.{scattered_at}
use Rattle.bits.proofs.FilledLists.{fill-next, fill-own}
use Rattle.pack.proofs.Turns.{unpack-room, unpack-turn, unpack-field}
use Rattle.pack.proofs.Fields.read_pairs.Goals as goal

pub take-low-requires : goal.take-low-requires
take-low-requires c =
    let a = c.args in
    let f = a.self.now in
    unpack-room f.mask a.packed.now c.requires.0 (omega arith) c.loop-at.invariant.1 f.sized

pub take-high-requires : goal.take-high-requires
take-high-requires c =
    let a = c.args in
    let f = a.self.now in
    unpack-room f.mask a.packed.now c.requires.0 (omega arith) (unpack-turn _ _ _ c.loop-at.invariant.1 f.sized c.take-low.ensures) f.sized

pub loop-at-preserved : goal.loop-at-preserved
loop-at-preserved c =
    let a = c.args in
    let m = a.self.now in
    let l = c.loop-at in
    let i = length a.out.now % 2 + 2 * l.at in
    let f = scattered_at m.mask a.packed.now in
    let halfway = unpack-turn _ _ i l.invariant.1 m.sized c.take-low.ensures in
    let e : i + 1 + 1 ≡ length a.out.now % 2 + 2 * (l.at + 1) = omega arith in (
      simp length-set l.invariant.0,
      rw e at (unpack-turn _ _ (i + 1) halfway m.sized c.take-high.ensures),
      fill-own f (length a.out.now % 2 + 2 * (l.at + 1)) l.out
          (rw e
          at
          (fill-next f (i + 1) l.out (simp length-set (omega (arith, l.invariant.0)))
          (fill-next f i l.out (omega (arith, l.invariant.0)) l.invariant.2
          (c.scattered.ensures ∙ unpack-field _ _ i l.invariant.1 m.sized c.take-low.ensures))
          (c.scattered-in-loop-at.ensures ∙ unpack-field _ _ (i + 1) halfway m.sized c.take-high.ensures))),
    )
