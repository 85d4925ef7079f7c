-- Finite searches and the pigeonhole, over native numbers.
-- Assumes nothing.
use mathlib.Core.Path.{◌≡◌}
use mathlib.Core.Logic.{◌⊎◌, inl, inr, ◌≢◌}
use Prim.Native.Nat.{ℕ, zero, suc, ◌-◌, ◌≤◌, ◌<◌, min}
use native.Mathlib.Decide.{dec_lt, ℕ_discrete}
use native.Mathlib.Nat.{not-suc-le-zero}
use native.Mathlib.Omega.{arith}

pub record Least (P : ℕ → Type 0) (n : ℕ) : Type 0 where
  pub value : ℕ
  pub below : value < n
  pub holds : P value
  pub first : (j : ℕ) → j < value → ¬ (P j)

-- below n, a decidable P holds at a least number or nowhere
pub least-or-none :
    (P : ℕ → Type 0) → ((i : ℕ) → Dec (P i)) → (n : ℕ) → Least P n ⊎ ((i : ℕ) → i < n → ¬ (P i))
least-or-none P dec zero = inr (λ i h. absurd (not-suc-le-zero h))
least-or-none P dec (suc n) = go (least-or-none P dec n) (dec n)
  where
    go :
        Least P n ⊎ ((i : ℕ) → i < n → ¬ (P i))
        → Dec (P n)
        → Least P (suc n) ⊎ ((i : ℕ) → i < suc n → ¬ (P i))
    go (inl l) d =
        inl (record { value = l.value; below = omega arith; holds = l.holds; first = l.first })
    go (inr none) (yes p) = inl (record { value = n; below = omega arith; holds = p; first = none })
    go (inr none) (no np) = inr (λ i h. at i h (dec_lt i n))
      where
        at : (i : ℕ) → i < suc n → Dec (i < n) → ¬ (P i)
        at i h (yes l) = none i l
        at i h (no g) = λ p. let e : i ≡ n = omega arith in np (rw e at p)

-- the numbers other than v, closed up
squash : ℕ → ℕ → ℕ
squash v x = x - min 1 (x - v)

squash-low : (v x : ℕ) → x < v → squash v x ≡ x
unfolding squash
squash-low v x h = omega arith

squash-high : (v x : ℕ) → v < x → suc (squash v x) ≡ x
unfolding squash
squash-high v x h = omega arith

apart : (v x : ℕ) → x ≢ v → (x < v) ⊎ (v < x)
apart v x ne = go (dec_lt x v)
  where
    go : Dec (x < v) → (x < v) ⊎ (v < x)
    go (yes l) = inl l
    go (no g) = inr (omega arith)

squash-lt : (v x n : ℕ) → v < suc n → x < suc n → x ≢ v → squash v x < n
squash-lt v x n hv hx ne = go (apart v x ne)
  where
    go : (x < v) ⊎ (v < x) → squash v x < n
    go (inl l) = omega (arith, squash-low v x l)
    go (inr g) = omega (arith, squash-high v x g)

squash-injective : (v x y : ℕ) → x ≢ v → y ≢ v → squash v x ≡ squash v y → x ≡ y
squash-injective v x y nx ny e = go (apart v x nx) (apart v y ny)
  where
    go : (x < v) ⊎ (v < x) → (y < v) ⊎ (v < y) → x ≡ y
    go (inl a) (inl b) = omega (arith, squash-low v x a, squash-low v y b)
    go (inl a) (inr b) = omega (arith, squash-low v x a, squash-high v y b)
    go (inr a) (inl b) = omega (arith, squash-high v x a, squash-low v y b)
    go (inr a) (inr b) = omega (arith, squash-high v x a, squash-high v y b)

pub record Collision (f : ℕ → ℕ) (n : ℕ) : Type 0 where
  pub low : ℕ
  pub high : ℕ
  pub ordered : low < high
  pub within : high ≤ n
  pub same : f low ≡ f high

-- n + 1 numbers below n: two are equal
pub pigeonhole : (n : ℕ) (f : ℕ → ℕ) → ((i : ℕ) → i ≤ n → f i < n) → Collision f n
pigeonhole zero f small = absurd (not-suc-le-zero (small 0 (omega arith)))
pigeonhole (suc n) f small =
    go
    (least-or-none (λ i. f i ≡ f (suc n)) (λ i. ℕ_discrete (f i) (f (suc n))) (suc n))
    (λ g gs. pigeonhole n g gs)
  where
    go :
        Least (λ i. f i ≡ f (suc n)) (suc n) ⊎ ((i : ℕ) → i < suc n → f i ≢ f (suc n))
        → ((g : ℕ → ℕ) → ((i : ℕ) → i ≤ n → g i < n) → Collision g n)
        → Collision f (suc n)
    go (inl l) ih =
        record {
          low = l.value;
          high = suc n;
          ordered = l.below;
          within = omega arith;
          same = l.holds;
        }
    go (inr none) ih =
        let c =
        ih (λ i. squash (f (suc n)) (f i))
        (λ i h.
        squash-lt (f (suc n)) (f i) n (small (suc n) (omega arith)) (small i (omega arith))
        (none i (omega arith))) in
        record {
          low = c.low;
          high = c.high;
          ordered = c.ordered;
          within = omega (arith, c.within);
          same =
              squash-injective (f (suc n)) (f c.low) (f c.high)
              (none c.low (omega (arith, c.ordered, c.within)))
              (none c.high (omega (arith, c.within)))
              c.same;
        }
