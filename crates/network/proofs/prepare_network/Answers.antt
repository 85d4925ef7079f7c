-- `network::prepare_network` meets its contract. Assumes nothing.
use mathlib.Core.Path.{◌∙◌, ap}
use lib.ListN.{replicate}
use Prim.Native.Nat.{ℕ}
use Rattle.network.specs.Stage.{falling}
use Rattle.network.specs.Word.{swaps_at}
use Rattle.network.proofs.NetworkAnswers.{prepare-refused, prepare-done}
use Rattle.network.proofs.prepare_network.Goals as goal

pub returns : goal.returns
returns g c =
    let a = c.args in
    let p = c.in-Ok.ensures in
    c.prepare_answer-2.ensures
    ∙ prepare-done g.D.Direction.is_rising a.width a.controls p.0 (c.prepare.ensures ∙ ap (swaps_at (falling 6)) p.1)

pub returns-in-Err : goal.returns-in-Err
returns-in-Err g c =
    let a = c.args in
    let r = c.in-Err.refusal in
    c.prepare_answer.ensures
    ∙ ap (λ (n : ℕ). record { refusal = n; swaps = replicate 6 0 }) c.from.ensures
    ∙ prepare-refused g.D.Direction.is_rising a.width a.controls r c.in-Err.ensures
