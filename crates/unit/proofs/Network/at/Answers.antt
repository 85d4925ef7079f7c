-- `unit::Network::at` meets its contract. Assumes nothing.
use mathlib.Core.Path.{◌≡◌, ◌∙◌, ap}
use mathlib.Core.Bool.{cond}
use mathlib.Core.List.{reverse}
use borrow.Author.Rules.{rules}
use Rattle.unit.specs.Bank.{stages_of}
use Rattle.unit.proofs.KeptNetworks.{prepared-are}
use Rattle.unit.proofs.Network.at.Goals as goal
use Rattle.unit.proofs.Network.at.Goals.{then-rising, else-rising}

pub returns-clause-swaps : goal.returns-clause-swaps
returns-clause-swaps c =
    let cs = stages_of c.args.registers in
    let e : c.if-rising.stages ≡ cond c.args.rising (reverse cs) cs =
    elim c.if-rising.branch [
      | then-rising w ↦ rw w.if-rising.true (w.stages-is ∙ w.reverse.ensures.after ∙ ap reverse c.stages_of-stages.ensures)
      | else-rising w ↦ rw w.if-rising.false (w.stages-is ∙ c.stages_of-stages.ensures)
    ]
    in
    prepared-are c.args.registers (search rules) c.args.rising e c.prepare-swaps.ensures
