-- `first::Marks::halve` meets its contract. Assumes nothing.
use mathlib.Core.Path.{sym, ◌∙◌}
use mathlib.Core.Bool.{true, false}
use native.Mathlib.Omega.{arith}
use Rattle.first.proofs.Halving.{halve-turn}
use Rattle.first.proofs.Marks.halve.Goals.{then-swap, else-swap}
use Rattle.first.proofs.Marks.halve.Goals as goal

pub loop-q-preserved : goal.loop-q-preserved
loop-q-preserved c =
    let turn = halve-turn _ _ _ _ c.args.block.fits c.told-entries _ _ (omega arith) c.loop-q.invariant in
    elim c.if-swap.branch [
      | then-swap w ↦ rw w.lower-is (turn true _ (sym c.swaps-swap.ensures ∙ w.if-swap.true) c.half-half.ensures.0)
      | else-swap w ↦ rw w.lower-is (turn false _ (sym c.swaps-swap.ensures ∙ w.if-swap.false) c.half-half.ensures.0)
    ]
