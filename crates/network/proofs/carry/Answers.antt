-- `network::carry` meets its contract. Assumes nothing.
use mathlib.Core.Path.{◌≡◌, ◌∙◌, ap}
use native.Mathlib.Decide.{ℕ_discrete}
use native.Mathlib.Omega.{arith}
use Rattle.bits.specs.Refusal.{log_of}
use Rattle.bits.specs.declared.Refusal.TheVariants.{Width}
use Rattle.network.specs.Word.{travel_of}
use Rattle.network.specs.Calls.{carried_by, network_answer}
use Rattle.network.proofs.NetworkAnswers.{width-refused, network-refused}
use borrow.Author.Rules.{rules}
use Rattle.network.proofs.carry.Goals as goal

pub returns : goal.returns
returns g c = by (ℕ_discrete (log_of c.args.width) 0)
  where
    by : Dec (log_of c.args.width ≡ 0) → carried_by c.call.result ≡ network_answer (travel_of g.D.Direction.is_rising) c.args.width c.args.controls c.args.word
    by (yes z) =
        let a = c.args in
        ap carried_by (c.call.ensures.refused z)
        ∙ network-refused (travel_of g.D.Direction.is_rising) a.width a.controls a.word Width (width-refused a.width a.controls.stages a.word z)
    by (no n) =
        let a = c.args in
        let p = c.call.ensures.accepted (omega arith) in
        let q : carried_by c.call.result ≡ network_answer (travel_of g.D.Direction.is_rising) p.0.bits a.controls a.word = search rules in
        rw p.1 at q
