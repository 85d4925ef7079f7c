-- `pack::Cut::has_spare_one` meets its contract. Assumes nothing.
use mathlib.Core.Path.{refl, sym, ap}
use mathlib.Core.Bool.{not}
use Prim.Native.Nat.{ℕ, ◌-◌, ◌^◌, ◌<◌}
use native.Mathlib.Omega.{arith}
use lib.Dec.{eqb}
use lib.ListN.{get_or}
use borrow.Author.Tests.{eq-eqb}
use Rattle.pack.proofs.SpareWords.{spare-none, spare-shifted}
use Rattle.pack.proofs.Cut.has_spare_one.Goals as goal

pub returns-then-used-eq0 : goal.returns-then-used-eq0
returns-then-used-eq0 c = sym (ap not (eq-eqb _ 0 (spare-none _ _ (rw c.bits-used.ensures.0 at c.if-used-eq0.true))))

pub returns : goal.returns
returns c =
    let ps = c.args.packed.now in
    let j = c.words.result - 1 in
    let b : get_or ps j 0 < 2 ^ 64 = omega (arith, c.type_inv.packed j) in
    ap (λ (x : ℕ). not (eqb x 0))
    (rw c.bits-used.ensures.0 (spare-shifted _ ps (rw c.bits-used.ensures.0 at c.if-used-eq0.false) (ap (λ (n : ℕ). n - 1) c.words.ensures) refl b))
