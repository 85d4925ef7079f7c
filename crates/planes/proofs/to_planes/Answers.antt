-- `planes::to_planes` meets its contract. Assumes nothing.
use mathlib.Core.Path.{◌∙◌, ap}
use mathlib.Core.List.{List}
use Prim.Native.Nat.{ℕ}
use Rattle.planes.proofs.PlaneRules.{packing-planes}
use borrow.Author.Rules.{rules}
use Rattle.planes.proofs.to_planes.Goals as goal

pub returns : goal.returns
returns c = ap (λ (ws : List ℕ). record { words = ws }) (c.carry_list.ensures ∙ packing-planes c.args.words (search rules))
