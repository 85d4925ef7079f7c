-- A word through the swaps that a run keeps of a network goes through the network. Assumes nothing.
use mathlib.Core.Path.{◌≡◌, sym, ◌∙◌, ap}
use mathlib.Core.Bool.{Bool, true, false, cond}
use mathlib.Core.List.{List, reverse}
use Prim.Native.Nat.{ℕ, ◌^◌, ◌<◌}
use native.Mathlib.Omega.{arith}
use lib.ListN.{length}
use lib.Seq.{take_all}
use Rattle.network.specs.Stage.{falling, rising, butterfly_of, inverse_of}
use Rattle.network.specs.Word.{swaps_at, exchanges_of, prepared_of, travel_of}
use Rattle.network.proofs.Six.{six-same}
use Rattle.unit.specs.Bank.{stages_of}
use Rattle.unit.proofs.Held.{all-elements}

length-stages : (rs : List ℕ) → length rs ≡ 3 → length (stages_of rs) ≡ 6
length-stages rs h = ap (λ (ys : List ℕ). length (stages_of ys)) (all-elements rs 0 3 (sym h))

-- the swaps of a network, by the steps of the code
pub prepared-are : (rs : List ℕ) → length rs ≡ 3 → (b : Bool) {ss ws : List ℕ} → ss ≡ cond b (reverse (stages_of rs)) (stages_of rs)
    → ws ≡ swaps_at (falling 6) ss → ws ≡ prepared_of b 6 (stages_of rs)
prepared-are rs h b e f = rw (take_all 6 (stages_of rs) (omega (arith, length-stages rs h))) (f ∙ ap (swaps_at (falling 6)) e)

module _ (rs : List ℕ) (h : length rs ≡ 3) {ws : List ℕ} {x y : ℕ} (l : x < 2 ^ 64) where
  pub butterfly-kept : ws ≡ prepared_of false 6 (stages_of rs) → y ≡ exchanges_of (falling 6) ws x → y ≡ butterfly_of 6 (stages_of rs) x
  unfolding butterfly_of travel_of
  butterfly-kept e f = f ∙ ap (λ (ss : List ℕ). exchanges_of (falling 6) ss x) e ∙ six-same 6 (omega arith) (stages_of rs) (length-stages rs h) false l

  pub inverse-kept : ws ≡ prepared_of true 6 (stages_of rs) → y ≡ exchanges_of (rising 6) (reverse ws) x → y ≡ inverse_of 6 (stages_of rs) x
  unfolding inverse_of travel_of
  inverse-kept e f = f ∙ ap (λ (ss : List ℕ). exchanges_of (rising 6) (reverse ss) x) e ∙ six-same 6 (omega arith) (stages_of rs) (length-stages rs h) true l
