-- `permute::check_entries` meets its contract. Assumes nothing.
use mathlib.Core.Path.{sym, ◌∙◌}
use borrow.Author.Tests.{eq-eqb}
use Rattle.permute.proofs.PermutationAnswers.{entries-refusal-by}
use Rattle.permute.proofs.check_entries.Goals as goal

pub returns : goal.returns
returns c =
    let long = eq-eqb _ _ c.if-entries-width.false in
    sym (entries-refusal-by c.args.width c.args.entries.now long (sym c.names_once.ensures ∙ c.if-not-names_once.false))
