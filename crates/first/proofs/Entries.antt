-- The entries of a permutation and its inverse, laid down one by one.
-- Assumes nothing.
use mathlib.Core.Path.{◌≡◌, ap, ◌∙◌}
use mathlib.Core.List.{List}
use Prim.Native.Nat.{ℕ, ◌+◌, ◌*◌, ◌≤◌, ◌<◌}
use native.Mathlib.Omega.{arith}
use lib.ListN.{length, get_or}
use Rattle.routing.specs.FirstControls.{Permutes}
use Rattle.routing.specs.Lists.{find, entry, ListPermutes}
use Rattle.routing.proofs.ListControls.{list-permutes}
use Rattle.routing.proofs.InverseEntries.{LaidBelow, laid-all}
use Rattle.first.specs.Blocks.{place_in, Placed}
use Rattle.first.proofs.BlockHalves.{permutes-cong}

-- the first k entries are laid down
pub record PlacedBelow (k : ℕ) (entries to from : List ℕ) : Type 0 where
  pub to-long : length to ≡ 64
  pub from-long : length from ≡ 64
  pub to_is : (p : ℕ) → p < k → get_or to p 0 ≡ entry entries p
  pub from_is : LaidBelow k entries (λ p. p) (λ x. get_or from x 0)

module _ (entries : List ℕ) (fits : length entries ≤ 64) (is : ListPermutes (length entries) entries) where
  abbrev w : ℕ
  w = length entries

  pub place_end : (k : ℕ) (to from : List ℕ) → length entries ≤ k → PlacedBelow k entries to from → Placed w entries to from
  place_end k to from l b =
      record { to-long = b.to-long; from-long = b.from-long; perm = perm; same = to_same }
    where
      at_base : (l : List ℕ) (p : ℕ) → place_in l 0 p ≡ get_or l p 0
      at_base l p = let z : 2 * 0 + p ≡ p = omega arith in ap (λ (i : ℕ). get_or l i 0) z

      below : (p : ℕ) → p < w → p < k
      below p h = omega (arith, is.long)

      to_same : (p : ℕ) → p < w → place_in to 0 p ≡ entry entries p
      to_same p h = at_base to p ∙ b.to_is p (below p h)

      perm : Permutes w (place_in to 0) (place_in from 0)
      perm =
          let π = list-permutes w entries is in
          permutes-cong w (entry entries) (λ x. find x entries) (place_in to 0) (place_in from 0) π to_same
          (λ x h. at_base from x ∙ laid-all w entries is k (λ p. p) (λ x. get_or from x 0) b.from_is l x h)
