-- `bits::store_bytes` meets its contract. Assumes nothing.
use mathlib.Core.Path.{◌≡◌, refl, ◌∙◌, ap}
use Prim.Native.Nat.{ℕ}
use native.Mathlib.Omega.{arith}
use lib.Seq.{sets}
use Rattle.bits.specs.Bit.{byte_at, up_to}
use Rattle.bits.proofs.UpTo.{sets_more}
use Rattle.bits.proofs.store_bytes.Goals as goal

pub loop-at-init : goal.loop-at-init
unfolding up_to
loop-at-init c = refl

pub loop-at-preserved : goal.loop-at-preserved
loop-at-preserved c =
    let l = c.loop-at in
    let a = c.args in
    sets_more (byte_at a.word) a.bytes a.first l.at l.invariant refl

pub returns : goal.returns
returns c =
    let a = c.args in
    let e : c.loop-at.at ≡ 8 = omega arith in
    c.loop-at.invariant ∙ ap (λ (n : ℕ). sets a.bytes a.first (up_to n (byte_at a.word))) e
