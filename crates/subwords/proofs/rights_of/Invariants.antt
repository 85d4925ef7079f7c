-- What the loop of `subwords::rights_of` keeps: no distance so far is the size. Assumes nothing.
use mathlib.Core.Path.{◌≡◌}
use Prim.Native.Nat.{ℕ, ◌<◌}
use lib.ListN.{get_or}
use Rattle.network.proofs.Table.{distance_table}
use Rattle.subwords.proofs.rights_of.Given as goal

abbrev pub invariant-loop-index : goal.invariant-loop-index
invariant-loop-index l = (k : ℕ) → k < l.index → get_or distance_table k 0 ≡ l.size → ⊥
