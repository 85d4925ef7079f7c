-- Tests that the checker computes, read at each number: of every number below n, and of a constant table against its rule. Assumes nothing.
use mathlib.Core.Path.{◌≡◌, ◌∙◌, ap}
use mathlib.Core.Bool.{Bool, true, ◌&&◌}
use mathlib.Core.List.{List}
use Prim.Native.Nat.{ℕ, zero, suc, ◌<◌}
use native.Mathlib.Omega.{arith}
use native.Mathlib.Decide.{dec_lt}
use native.Mathlib.Nat.{not-suc-le-zero}
use lib.ListN.{get_or}
use Rattle.bits.specs.Bit.{up_to}
use Rattle.bits.proofs.Refusals.{both}
use Rattle.bits.proofs.UpTo.{get_or-up_to}

-- p holds of every number below n
unfoldable pub every : ℕ → (ℕ → Bool) → Bool
every zero p = true
every (suc n) p = p n && every n p

pub every-at : (n : ℕ) (p : ℕ → Bool) → every n p ≡ true → (i : ℕ) → i < n → p i ≡ true
unfolding every
every-at zero p e i l = absurd (not-suc-le-zero l)
every-at (suc n) p e i l = by_cases (dec_lt i n) (both (p n) (every n p) e) (every-at n p)
  where
    by_cases : Dec (i < n) → (p n ≡ true) × (every n p ≡ true) → (every n p ≡ true → (i : ℕ) → i < n → p i ≡ true) → p i ≡ true
    by_cases (yes h) b f = f b.1 i h
    by_cases (no h) b f = let q : i ≡ n = omega arith in rw q b.0

-- the entries of a table that is f 0, .., f (n - 1)
pub entries : (f : ℕ → ℕ) {xs : List ℕ} (n : ℕ) → xs ≡ up_to n f → (k : ℕ) → k < n → get_or xs k 0 ≡ f k
entries f n e k h = ap (λ (t : List ℕ). get_or t k 0) e ∙ get_or-up_to f n k h
