-- The masks of a list of destinations sort it: after step i it is sorted by the low i + 1 bits. Assumes nothing.
use mathlib.Core.Path.{◌≡◌, ◌∙◌, ap, subst}
use mathlib.Core.Logic.{◌⊎◌, inl, inr}
use mathlib.Core.List.{List, [], ◌∷◌}
use Prim.Native.Nat.{ℕ, zero, suc, ◌+◌, ◌-◌, ◌*◌, ◌%◌, ◌^◌, ◌<◌, ◌≤◌}
use native.Mathlib.Omega.{arith}
use native.Mathlib.Nat.{mod-lt, mod-eq_of_lt}
use lib.Pow.{pow_pos, mod-pow-add}
use Rattle.bits.specs.Bit.{bit}
use Rattle.bits.proofs.Word.{bit-lt, bit-of_bits, of_bits-lt}
use Rattle.routing.specs.Lists.{entry, ListPermutes}
use Rattle.grouping.specs.Groups.{regrouped}
use Rattle.grouping.specs.Destinations.{pass_mask, pass_masks}
use Rattle.grouping.proofs.Regrouping.{from_place, from-below, from-order, regrouped-at, regrouped-permutes}

-- by their low i bits
abbrev pub Sorted : ℕ → ℕ → List ℕ → Type 0
Sorted w i ds = (p q : ℕ) → p < q → q < w → entry ds p % 2 ^ i ≤ entry ds q % 2 ^ i

module _ (w i : ℕ) (ds : List ℕ) where
  pub mask-bit : (p : ℕ) → p < w → bit (pass_mask w i ds) p ≡ 1 - bit (entry ds p) i
  unfolding pass_mask
  mask-bit p h = bit-of_bits w (λ p. 1 - bit (entry ds p) i) p h ∙ mod-eq_of_lt (omega arith)

  pub mask_lt : pass_mask w i ds < 2 ^ w
  unfolding pass_mask
  mask_lt = of_bits-lt w (λ p. 1 - bit (entry ds p) i)

-- one bit more
low_bits : (d i : ℕ) → d % 2 ^ suc i ≡ bit d i * 2 ^ i + d % 2 ^ i
unfolding bit
low_bits d i = let e : suc i ≡ 1 + i = omega arith in ap (λ (n : ℕ). d % 2 ^ n) e ∙ mod-pow-add d 1 i

more : (a b i : ℕ) → bit a i ≡ bit b i → a % 2 ^ i ≤ b % 2 ^ i → a % 2 ^ suc i ≤ b % 2 ^ suc i
more a b i e l = omega (arith, low_bits a i, low_bits b i, ap (λ (n : ℕ). n * 2 ^ i) e)

zero-first : (a b i : ℕ) → bit a i ≡ 0 → bit b i ≡ 1 → a % 2 ^ suc i ≤ b % 2 ^ suc i
zero-first a b i e f =
    omega (arith, low_bits a i, low_bits b i, ap (λ (n : ℕ). n * 2 ^ i) e, ap (λ (n : ℕ). n * 2 ^ i) f, mod-lt a (pow_pos i))

sorted_more : (w i : ℕ) (ds : List ℕ) → Sorted w i ds → Sorted w (suc i) (regrouped w (pass_mask w i ds) ds)
sorted_more w i ds s p q l h =
    rw (regrouped-at w m ds p (omega arith), regrouped-at w m ds q h) (by_cases (from-order w m p q l h))
  where
    m : ℕ
    m = pass_mask w i ds

    a : ℕ
    a = from_place w m p

    b : ℕ
    b = from_place w m q

    below : from_place w (pass_mask w i ds) p < w
    below = from-below w m p (omega arith)

    bits : (r : ℕ) → r < w → bit (pass_mask w i ds) r + bit (entry ds r) i ≡ 1
    bits r h = omega (arith, mask-bit w i ds r h, bit-lt (entry ds r) i)

    by_cases : ((bit m a ≡ bit m b) × (a < b)) ⊎ ((bit m a ≡ 1) × (bit m b ≡ 0)) → entry ds a % 2 ^ suc i ≤ entry ds b % 2 ^ suc i
    by_cases (inl r) = more (entry ds a) (entry ds b) i (omega (arith, r.0, bits a below, bits b (from-below w m q h))) (s a b r.1 (from-below w m q h))
    by_cases (inr r) = zero-first (entry ds a) (entry ds b) i (omega (arith, r.0, bits a below)) (omega (arith, r.1, bits b (from-below w m q h)))

-- a list that rises and stays below its length is 0, 1, 2, ..
climbs : (w : ℕ) (f : ℕ → ℕ) → ((p q : ℕ) → p < q → q < w → f p < f q) → (p k : ℕ) → p + k < w → f p + k ≤ f (p + k)
climbs w f rise p zero h = let e : p + zero ≡ p = omega arith in omega (arith, ap f e)
climbs w f rise p (suc k) h =
    let e : p + suc k ≡ suc (p + k) = omega arith in
    omega (arith, ap f e, climbs w f rise p k (omega arith), rise (p + k) (suc (p + k)) (omega arith) (omega arith))

rising-is : (w : ℕ) (f : ℕ → ℕ) → ((p : ℕ) → p < w → f p < w) → ((p q : ℕ) → p < q → q < w → f p < f q) → (p : ℕ) → p < w → f p ≡ p
rising-is w f small rise p h =
    let e : p + (w - 1 - p) ≡ w - 1 = omega arith in
    let z : 0 + p ≡ p = omega arith in
    omega (arith, climbs w f rise 0 p (omega arith), ap f z, climbs w f rise p (w - 1 - p) (omega arith), ap f e, small (w - 1) (omega arith))

-- sorted by all its bits, a permutation is 0, 1, 2, ..
pub sorted-is : (L : ℕ) (ds : List ℕ) → ListPermutes (2 ^ L) ds → Sorted (2 ^ L) L ds → (p : ℕ) → p < 2 ^ L → entry ds p ≡ p
sorted-is L ds is s = rising-is (2 ^ L) (entry ds) is.small rise
  where
    rise : (p q : ℕ) → p < q → q < 2 ^ L → entry ds p < entry ds q
    rise p q l h =
        let k : p < 2 ^ L = omega arith in
        let n : entry ds p ≡ entry ds q → ⊥ = λ e. omega (arith, is.once p q k h e) in
        omega (arith, n, s p q l h, mod-eq_of_lt (is.small p k), mod-eq_of_lt (is.small q h))

-- the list after every step
unfoldable pub through_masks : ℕ → List ℕ → List ℕ → List ℕ
through_masks w [] ds = ds
through_masks w (m ∷ ms) ds = through_masks w ms (regrouped w m ds)

pub through-permutes : (w : ℕ) (ms ds : List ℕ) → ListPermutes w ds → ListPermutes w (through_masks w ms ds)
unfolding through_masks
through-permutes w [] ds is = is
through-permutes w (m ∷ ms) ds is = through-permutes w ms (regrouped w m ds) (regrouped-permutes w m ds is)

passes-sort : (w n i : ℕ) (ds : List ℕ) → Sorted w i ds → Sorted w (i + n) (through_masks w (pass_masks w n i ds) ds)
unfolding through_masks pass_masks
passes-sort w zero i ds s = let e : i ≡ i + 0 = omega arith in subst (λ (k : ℕ). Sorted w k ds) e s
passes-sort w (suc n) i ds s =
    let e : suc i + n ≡ i + suc n = omega arith in
    let next = regrouped w (pass_mask w i ds) ds in
    subst (λ (k : ℕ). Sorted w k (through_masks w (pass_masks w n (suc i) next) next)) e
    (passes-sort w n (suc i) next (sorted_more w i ds s))

-- after n steps from the first on, by its low n bits
pub steps-sort : (w n : ℕ) (ds : List ℕ) → Sorted w n (through_masks w (pass_masks w n 0 ds) ds)
steps-sort w n ds =
    let z : 0 + n ≡ n = omega arith in
    subst (λ (k : ℕ). Sorted w k (through_masks w (pass_masks w n 0 ds) ds)) z (passes-sort w n 0 ds (λ p q l h. omega arith))
