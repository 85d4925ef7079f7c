-- `tiles::mirrored` meets its contract. Assumes nothing.
use mathlib.Core.Path.{◌≡◌, sym, ◌∙◌, ap}
use Prim.Native.Nat.{ℕ, suc, ◌+◌, ◌-◌, ◌^◌}
use native.Mathlib.Omega.{arith}
use Rattle.subwords.specs.Subword.{exchange_pairs_of}
use Rattle.tiles.specs.Steps.{exchanges_of, mirror_of}
use Rattle.tiles.proofs.mirrored.Goals as goal

-- one exchange more
one-more : (first k : ℕ) {n : ℕ} (x : ℕ) → n ≡ suc k → exchanges_of first n x ≡ exchanges_of first k (exchange_pairs_of (2 ^ (5 - (first + k))) x)
unfolding exchanges_of
one-more first k x e = rw e

pub loop-index-init : goal.loop-index-init
unfolding mirror_of
loop-index-init c =
    let first = c.args.first in
    let n : first + 3 - first ≡ 3 = omega arith in
    record { above = omega arith; rest = ap (λ (k : ℕ). exchanges_of first k c.args.tile) n }

pub loop-index-preserved : goal.loop-index-preserved
loop-index-preserved c =
    let l = c.loop-index in
    let first = c.args.first in
    let k = l.index - 1 - first in
    let n : l.index - first ≡ suc k = omega (arith, l.invariant.above) in
    let i : l.index - 1 ≡ first + k = omega (arith, l.invariant.above) in
    record {
      above = omega (arith, l.invariant.above);
      rest =
          rw c.exchange_at-turned.ensures
          (ap (λ (j : ℕ). exchanges_of first k (exchange_pairs_of (2 ^ (5 - j)) l.turned)) i ∙ sym (one-more first k l.turned n) ∙ l.invariant.rest);
    }

pub returns : goal.returns
unfolding exchanges_of
returns c =
    let l = c.loop-index in
    let z : l.index - c.args.first ≡ 0 = omega (arith, l.invariant.above) in
    rw z at l.invariant.rest
