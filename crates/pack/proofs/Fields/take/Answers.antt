-- `pack::Fields::take` meets its contract: the bits held suffice, or a further word is read. Assumes nothing.
use mathlib.Core.Path.{refl}
use Prim.Native.Nat.{◌<◌, ◌^◌}
use lib.ListN.{get_or}
use Rattle.pack.proofs.Reading.{take-held, take-low, take_next, take-joined}
use borrow.Author.Rules.{rules}
use Rattle.pack.proofs.Fields.take.Goals as goal

pub returns-then-size-held : goal.returns-then-size-held
returns-then-size-held c =
    let a = c.args in
    let ps = a.packed.now in
    record {
      next = λ n h. take-held ps a.cursor.now n h a.self.now.size (search rules) _;
      field = λ n h. take-low ps a.cursor.now n h a.self.now.size (search rules);
    }

pub returns : goal.returns
returns c =
    let a = c.args in
    let ps = a.packed.now in
    let b : get_or ps a.cursor.now.word 0 < 2 ^ 64 = search rules in
    record {
      next = λ n h. take_next ps a.cursor.now n h a.self.now.size (search rules) (search rules) refl b _;
      field = λ n h. take-joined ps a.cursor.now n h a.self.now.size (search rules) (search rules) refl b;
    }
