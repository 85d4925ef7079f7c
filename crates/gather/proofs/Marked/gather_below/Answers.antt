-- `gather::Marked::gather_below` meets its contract. Assumes nothing.
use mathlib.Core.Path.{◌≡◌, sym, ◌∙◌}
use borrow.Author.Rules.{rules}
use Rattle.gather.proofs.Joining.{joined-none, joined-next, joined-all}
use Rattle.gather.proofs.Marked.gather_below.Goals as goal

pub loop-byte-init : goal.loop-byte-init
loop-byte-init c = sym (joined-none _ _ _)

pub loop-byte-preserved : goal.loop-byte-preserved
loop-byte-preserved c =
    let l = c.loop-byte in
    joined-next _ _ _ c.requires l.byte c.loop-byte-test.true l.auto.byte c.gather_bytes-bytes.ensures c.args.self.counted l.invariant

pub returns : goal.returns
returns c =
    let z : c.loop-byte.byte ≡ 0 = search rules in
    (rw z at c.loop-byte.invariant) ∙ joined-all _ _ _
