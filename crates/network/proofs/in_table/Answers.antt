-- `network::in_table` meets its contract. Assumes nothing.
use mathlib.Core.Path.{◌≡◌, sym}
use native.Mathlib.Decide.{ℕ_discrete}
use native.Mathlib.Omega.{arith}
use Rattle.std.specs.Prelude.{MatchResult}
use Rattle.bits.specs.Refusal.{log_of, number_of}
use Rattle.network.specs.Word.{by_index}
use Rattle.network.specs.Calls.{network_refusal}
use Rattle.network.proofs.NetworkAnswers.{width-refused}
use borrow.Author.Rules.{rules}
use Rattle.network.proofs.in_table.Goals as goal

pub returns : goal.returns
returns g c = by (ℕ_discrete (log_of c.args.width) 0)
  where
    by : Dec (log_of c.args.width ≡ 0) → MatchResult c.call.result (λ placed. (network_refusal c.args.width c.args.stages 0 ≡ 0)
        × (placed ≡ by_index g.D.Direction.is_rising (log_of c.args.width) c.args.stages)) (λ refusal. network_refusal c.args.width c.args.stages 0 ≡ number_of refusal)
    by (yes z) = rw (c.call.ensures.refused z) (sym (width-refused c.args.width c.args.stages 0 z))
    by (no n) =
        let p = c.call.ensures.accepted (omega arith) in
        let q : MatchResult c.call.result (λ placed. (network_refusal p.0.bits c.args.stages 0 ≡ 0)
        × (placed ≡ by_index g.D.Direction.is_rising (log_of p.0.bits) c.args.stages)) (λ refusal. network_refusal p.0.bits c.args.stages 0 ≡ number_of refusal) =
        search rules in
        rw p.1 at q
