-- `gather::Marked::deal` meets its contract. Assumes nothing.
use mathlib.Core.Path.{refl, sym}
use native.Mathlib.Nat.{div-one}
use Rattle.bits.specs.Bit.{rank}
use Rattle.gather.specs.Parts.{dealt}
use Rattle.gather.proofs.Joining.{dealt-next, rest-next}
use Rattle.gather.proofs.Marked.deal.Goals as goal

pub loop-byte-init : goal.loop-byte-init
unfolding dealt rank
loop-byte-init c = (refl, sym (div-one _))

pub loop-byte-preserved : goal.loop-byte-preserved
loop-byte-preserved c =
    let l = c.loop-byte in
    let i = l.invariant in
    (rw i.0 (dealt-next _ _ l.byte c.loop-byte-test.true i.1), rest-next _ _ l.byte c.loop-byte-test.true i.1 c.args.self.counted)
