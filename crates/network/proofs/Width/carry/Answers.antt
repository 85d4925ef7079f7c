-- `network::Width::carry` meets its contract. Assumes nothing.
use mathlib.Core.Path.{◌≡◌, ◌∙◌, ap}
use Rattle.std.specs.Prelude.{Err}
use Rattle.network.specs.Calls.{carried_by}
use Rattle.network.specs.Word.{travel_of}
use Rattle.network.proofs.NetworkAnswers.{network-limits, network-refused, network-done}
use borrow.Author.Rules.{rules}
use Rattle.network.proofs.Width.carry.Goals as goal

pub returns-in_err-check : goal.returns-in_err-check
returns-in_err-check g c =
    let a = c.args in
    let r = c.in_err-check.field-0.0 in
    let e : c.from_residual.result ≡ Err r = search rules in
    ap carried_by e ∙ network-refused (travel_of g.D.Direction.is_rising) a.self.bits a.controls a.word r c.in_err-check.ensures

pub send-requires : goal.send-requires
send-requires g c = let a = c.args in network-limits a.self.bits a.controls.stages a.word c.in_ok-check.ensures a.self.is_log

pub returns : goal.returns
returns g c =
    let a = c.args in
    network-done (travel_of g.D.Direction.is_rising) a.self.bits a.controls a.word c.in_ok-check.ensures a.self.is_log c.send.ensures
