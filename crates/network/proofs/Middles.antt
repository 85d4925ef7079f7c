-- Each place but 0 is the middle of the pairs of one block, of one stage: of the counts below 2^L places the decoder reads each but the first, once. Assumes nothing.
use mathlib.Core.Path.{◌≡◌, refl, ◌∙◌, ap}
use mathlib.Core.Logic.{◌⊎◌, inl, inr}
use Prim.Native.Nat.{ℕ, zero, suc, ◌+◌, ◌-◌, ◌*◌, ◌/◌, ◌%◌, ◌^◌, ◌<◌}
use native.Mathlib.Omega.{arith}
use native.Mathlib.Nat.{mod-lt, pow-succ'}
use Rattle.bits.proofs.Word.{digit}

-- of distance 2^n, block j: its lower places are 2×j×d to 2×j×d + d - 1
abbrev pub middle : ℕ → ℕ → ℕ
middle n j = 2 * j * 2 ^ n + 2 ^ n

middle-suc : (n j : ℕ) → middle (suc n) j ≡ 2 * middle n j
middle-suc n j = rw (pow-succ' 2 n) (omega arith)

pub middle_of : (L p : ℕ) → 0 < p → p < 2 ^ L → (n : ℕ) × (j : ℕ) × (n < L) × (j < 2 ^ (L - 1 - n)) × (middle n j ≡ p)
middle_of zero p h l = absurd (omega arith)
middle_of (suc L) p h l = by_cases (digit (p % 2) (mod-lt p (omega arith))) (middle_of L (p / 2))
  where
    by_cases : (p % 2 ≡ 0) ⊎ (p % 2 ≡ 1)
        → (0 < p / 2 → p / 2 < 2 ^ L → (n : ℕ) × (j : ℕ) × (n < L) × (j < 2 ^ (L - 1 - n)) × (middle n j ≡ p / 2))
        → (n : ℕ) × (j : ℕ) × (n < suc L) × (j < 2 ^ (suc L - 1 - n)) × (middle n j ≡ p)
    by_cases (inl e) f =
        let z = f (omega arith) (omega (arith, pow-succ' 2 L)) in
        let s : L - 1 - z.0 ≡ suc L - 1 - suc z.0 = omega (arith, z.2) in
        (suc z.0, z.1, omega (arith, z.2), rw (← s) z.3, middle-suc z.0 z.1 ∙ omega (arith, z.4))
    by_cases (inr o) f =
        let s : suc L - 1 - 0 ≡ L = omega arith in
        (0, p / 2, omega arith, rw s (omega (arith, pow-succ' 2 L)), omega arith)

pub middle-once : (n j k i : ℕ) → middle n j ≡ middle k i → (n ≡ k) × (j ≡ i)
middle-once zero j zero i e = (refl, omega arith)
middle-once zero j (suc k) i e = absurd (omega (arith, middle-suc k i))
middle-once (suc n) j zero i e = absurd (omega (arith, middle-suc n j))
middle-once (suc n) j (suc k) i e =
    let z = middle-once n j k i (omega (arith, middle-suc n j, middle-suc k i)) in (ap suc z.0, z.1)
