-- `planes::from_planes` meets its contract. Assumes nothing.
use mathlib.Core.Path.{◌∙◌, ap}
use mathlib.Core.List.{List}
use Prim.Native.Nat.{ℕ}
use Rattle.planes.specs.Steps.{last_eight}
use Rattle.planes.proofs.PlaneRules.{merging-words}
use Rattle.planes.proofs.StepLists.{merging-list}
use borrow.Author.Rules.{rules}
use Rattle.planes.proofs.from_planes.Goals as goal

pub returns : goal.returns
returns c =
    let ps = c.args.planes in
    ap (λ (ws : List ℕ). record { words = ws }) (c.carry_list.ensures ∙ ap last_eight (merging-list ps) ∙ merging-words ps (search rules))
