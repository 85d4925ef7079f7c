-- The inverse of a permutation, or what is read off it, laid down entry by entry: at x the place whose entry names x.
-- Assumes nothing.
use mathlib.Core.Path.{◌≡◌, sym, ap, ◌∙◌, subst}
use mathlib.Core.List.{List}
use Prim.Native.Nat.{ℕ, ◌+◌, ◌≤◌, ◌<◌}
use native.Mathlib.Decide.{dec_lt}
use native.Mathlib.Omega.{arith}
use Rattle.routing.specs.Lists.{find, entry, ListPermutes}
use Rattle.routing.proofs.ListControls.{list-permutes}

-- f has, at each of the first k entries, what g reads off its place
abbrev pub LaidBelow : ℕ → List ℕ → (g f : ℕ → ℕ) → Type 0
LaidBelow k entries g f = (p : ℕ) → p < k → f (entry entries p) ≡ g p

module _ (w : ℕ) (entries : List ℕ) (is : ListPermutes w entries) (k : ℕ) (g f : ℕ → ℕ) (laid : LaidBelow k entries g f) where
  -- one more, and nothing else changed
  pub laid_more : (f' : ℕ → ℕ) → k < w → f' (entry entries k) ≡ g k → ((q : ℕ) → (q ≡ entry entries k → ⊥) → f' q ≡ f q) → LaidBelow (k + 1) entries g f'
  laid_more f' l same other p h = by_cases (dec_lt p k)
    where
      by_cases : Dec (p < k) → f' (entry entries p) ≡ g p
      by_cases (yes m) = other (entry entries p) (λ z. absurd (let y = is.once p k (omega arith) l z in omega arith)) ∙ laid p m
      by_cases (no n) = let z : k ≡ p = omega arith in subst (λ (p : ℕ). f' (entry entries p) ≡ g p) z same

  pub laid-all : w ≤ k → (x : ℕ) → x < w → f x ≡ g (find x entries)
  laid-all l x h =
      let π = list-permutes w entries is in
      ap f (sym (π.to-from x h)) ∙ laid (find x entries) (omega (arith, π.from-small x h))
