-- The laws of rank: how many bits of a mask are marked below a place. Assumes nothing.
use mathlib.Core.Path.{◌≡◌, refl, sym, ◌∙◌, ap}
use mathlib.Core.Logic.{◌⊎◌, inl, inr}
use Prim.Native.Nat.{ℕ, zero, suc, ◌+◌, ◌-◌, ◌/◌, ◌%◌, ◌^◌, ◌<◌, ◌≤◌}
use native.Mathlib.Omega.{arith}
use native.Mathlib.Decide.{dec_lt}
use native.Mathlib.Nat.{not-suc-le-zero, pow-suc}
use lib.Arith.{lt-one}
use lib.Pow.{pow_mono}
use lib.Count.{ones, ones_step}
use Rattle.bits.specs.Bit.{bit, rank}
use Rattle.bits.proofs.Word.{bit-lt, bit-cases, bit-zero, bit-suc, bit-shr, bit_not, bit-mod}

pub rank-le : (m p : ℕ) → rank m p ≤ p
unfolding rank
rank-le m zero = omega arith
rank-le m (suc p) = omega (arith, rank-le m p, bit-lt m p)

-- rank rises, and by at most one a place
pub rank_between : (m p q : ℕ) → p ≤ q → (rank m p ≤ rank m q) × (rank m q ≤ rank m p + (q - p))
unfolding rank
rank_between m p zero h = let e : p ≡ zero = omega arith in rw e (omega arith, omega arith)
rank_between m p (suc q) h = by_cases (dec_lt q p) (rank_between m p q)
  where
    by_cases : Dec (q < p) → (p ≤ q → (rank m p ≤ rank m q) × (rank m q ≤ rank m p + (q - p)))
        → (rank m p ≤ rank m q + bit m q) × (rank m q + bit m q ≤ rank m p + (suc q - p))
    by_cases (yes l) f = let e : p ≡ suc q = omega arith in rw e (omega arith, omega arith)
    by_cases (no n) f = let z = f (omega arith) in (omega (arith, z.0), omega (arith, z.1, bit-lt m q))

pub rank_mono : (m : ℕ) {p q : ℕ} → p ≤ q → rank m p ≤ rank m q
rank_mono m {p} {q} h = (rank_between m p q h).0

-- the marked places of the lower v bits, and of those above
pub rank-add : (v m w : ℕ) → rank m (v + w) ≡ rank m v + rank (m / 2 ^ v) w
unfolding rank
rank-add v m zero = let e : v + zero ≡ v = omega arith in omega (arith, ap (rank m) e)
rank-add v m (suc w) =
    let e : v + suc w ≡ suc (v + w) = omega arith in
    omega (arith, ap (rank m) e, rank-add v m w, bit-shr m v w)

-- a marked place below w is among the marked places of width w
pub rank_lt : (m : ℕ) {p w : ℕ} → bit m p ≡ 1 → p < w → rank m p < rank m w
unfolding rank
rank_lt m {p} {w} b h = omega (arith, rank_mono m {p = suc p} {q = w} h)

-- each number below the count is the rank of a marked place
pub select : (m i w : ℕ) → i < rank m w → (p : ℕ) × (p < w) × (bit m p ≡ 1) × (rank m p ≡ i)
unfolding rank
select m i zero h = absurd (not-suc-le-zero h)
select m i (suc w) h = by_cases (dec_lt i (rank m w)) (bit-cases m w) (select m i w)
  where
    by_cases : Dec (i < rank m w) → (bit m w ≡ 0) ⊎ (bit m w ≡ 1) → (i < rank m w → (p : ℕ) × (p < w) × (bit m p ≡ 1) × (rank m p ≡ i))
        → (p : ℕ) × (p < suc w) × (bit m p ≡ 1) × (rank m p ≡ i)
    by_cases (yes l) b f = let z = f l in (z.0, omega (arith, z.1), z.2, z.3)
    by_cases (no n) (inl b) f = absurd (n (omega arith))
    by_cases (no n) (inr b) f = (w, omega arith, b, omega arith)

-- the rank at the width is the count of ones

rank-cons : (m p : ℕ) → rank m (suc p) ≡ m % 2 + rank (m / 2) p
unfolding rank
rank-cons m zero = omega (arith, bit-zero m)
rank-cons m (suc p) = omega (arith, rank-cons m p, bit-suc m p)

pub rank-ones : (w : ℕ) {m : ℕ} → m < 2 ^ w → rank m w ≡ ones m
rank-ones zero {m} h = rw (lt-one h) (unfold rank ones in refl)
rank-ones (suc w) {m} h =
    let l : m / 2 < 2 ^ w = omega (arith, h, pow-suc 2 w) in
    rank-cons m w ∙ ap (λ (n : ℕ). m % 2 + n) (rank-ones w l) ∙ sym (ones_step m)

-- so it is the same at every width that holds the mask
pub rank-wider : {w v m : ℕ} → m < 2 ^ w → w ≤ v → rank m v ≡ rank m w
rank-wider {w} {v} {m} h l = rank-ones v (omega (arith, pow_mono l)) ∙ sym (rank-ones w h)

-- the marked and the unmarked places together are all
pub rank-not : (w : ℕ) {m : ℕ} → m < 2 ^ w → (p : ℕ) → p ≤ w → rank m p + rank ((2 ^ w - 1) - m) p ≡ p
unfolding rank
rank-not w h zero l = refl
rank-not w {m} h (suc p) l = omega (arith, rank-not w h p (omega arith), bit_not w p h l, bit-lt m p)

-- the ones below a place are counted in the remainder
pub rank-mod : (m q p : ℕ) → p ≤ q → rank (m % 2 ^ q) p ≡ rank m p
unfolding rank
rank-mod m q zero h = refl
rank-mod m q (suc p) h = omega (arith, rank-mod m q p (omega arith), bit-mod m q p h)
