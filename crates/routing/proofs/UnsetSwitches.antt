-- Setting an unset switch leaves one less unset.
-- Assumes nothing.
use mathlib.Core.Path.{◌≡◌, refl, sym, ap, ap₂, ◌∙◌}
use mathlib.Core.Logic.{◌≢◌}
use mathlib.Core.Bool.{Bool}
use Prim.Native.Nat.{ℕ, zero, suc, ◌+◌, ◌^◌, ◌<◌}
use native.Mathlib.Decide.{ℕ_discrete}
use native.Mathlib.Omega.{arith}
use Rattle.routing.specs.Marks.{Mark, unset, set, is_unset, count_unset}
use Rattle.routing.specs.Level.{Sets}

pub count_same :
    (k : ℕ) (M M' : ℕ → Mark) → ((t : ℕ) → t < k → M' t ≡ M t) → count_unset M' k ≡ count_unset M k
unfolding count_unset
count_same zero M M' same = refl
count_same (suc k) M M' same =
    ap₂ (λ (x : ℕ) (v : Mark). x + is_unset v) (count_same k M M' (λ t l. same t (omega arith)))
    (same k (omega arith))

count-one :
    (k s : ℕ) (v : Bool) (M M' : ℕ → Mark)
    → s < k
    → M s ≡ unset
    → M' s ≡ set v
    → ((t : ℕ) → t < k → t ≢ s → M' t ≡ M t)
    → suc (count_unset M' k) ≡ count_unset M k
unfolding count_unset
count-one zero s v M M' l e e' same = absurd (omega arith)
count-one (suc k) s v M M' l e e' same =
    go (ℕ_discrete s k) (λ h. count-one k s v M M' h e e' (λ t l ne. same t (omega arith) ne))
  where
    go :
        Dec (s ≡ k)
        → (s < k → suc (count_unset M' k) ≡ count_unset M k)
        → suc (count_unset M' k + is_unset (M' k)) ≡ count_unset M k + is_unset (M k)
    go (yes q) ih =
        let a : is_unset (M k) ≡ 1 = ap (λ (j : ℕ). is_unset (M j)) (sym q) ∙ ap is_unset e in
        let b : is_unset (M' k) ≡ 0 = ap (λ (j : ℕ). is_unset (M' j)) (sym q) ∙ ap is_unset e' in
        let c = count_same k M M' (λ t h. same t (omega arith) (omega arith)) in
        omega arith
    go (no ne) ih =
        let a : is_unset (M' k) ≡ is_unset (M k) = ap is_unset (same k (omega arith) (λ q. ne (sym q))) in
        let b = ih (omega arith) in
        omega arith

-- one less unset
pub count-falls :
    (n s : ℕ) (v : Bool) (M M' : ℕ → Mark)
    → s < 2 ^ n
    → Sets n M s v M'
    → M s ≡ unset
    → suc (count_unset M' (2 ^ n)) ≡ count_unset M (2 ^ n)
count-falls n s v M M' l d e = count-one (2 ^ n) s v M M' l e d.here d.elsewhere
