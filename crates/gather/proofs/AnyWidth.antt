-- Gather, scatter and group at width 64 are those at every width that holds the mask and the word; the sum that makes group.
-- Assumes nothing.
use mathlib.Core.Path.{◌≡◌, refl, sym, ◌∙◌}
use Prim.Native.Nat.{ℕ, suc, ◌+◌, ◌-◌, ◌*◌, ◌^◌, ◌<◌, ◌≤◌, min}
use native.Mathlib.Omega.{arith}
use native.Mathlib.Decide.{le_ind}
use native.Mathlib.Nat.{zero-mul, zero-add, zero-min}
use lib.Pow.{pow_mono, shl_lt}
use Rattle.bits.specs.Bit.{bit, rank, marked, unmarked}
use Rattle.bits.proofs.Word.{bit-above}
use Rattle.bits.proofs.Rank.{rank-le, rank-wider, rank-not}
use Rattle.bits.proofs.Places.{pick-append, length_marked, unmarked-not, pick-marked-suc, pick-marked-lt, put-marked-suc, put-marked-lt}
use Rattle.gather.specs.Gather.{gather_of, scatter_of, group_of}

module _ (m x : ℕ) where
  pub gather-count : (w : ℕ) → gather_of w m x < 2 ^ rank m w
  unfolding gather_of
  gather-count w = pick-marked-lt m w x

  pub gather-lt : (w : ℕ) → gather_of w m x < 2 ^ w
  gather-lt w = omega (arith, gather-count w, pow_mono (rank-le m w))

  pub scatter-lt : (w : ℕ) → scatter_of w m x < 2 ^ w
  unfolding scatter_of
  scatter-lt w = put-marked-lt m w x

-- what no place from w up changes is the same at every width from w up
steady : (f : ℕ → ℕ) (w v : ℕ) → ((u : ℕ) → w ≤ u → f (suc u) ≡ f u) → w ≤ v → f v ≡ f w
steady f w v h l = le_ind (λ n. f n ≡ f w) refl (λ u b e. h u b ∙ e) v l

module _ (w m x : ℕ) (h : w ≤ 64) where
  -- nothing is gathered from w up
  gather-wider : ((p : ℕ) → w ≤ p → min (bit m p) (bit x p) ≡ 0) → gather_of 64 m x ≡ gather_of w m x
  unfolding gather_of
  gather-wider z = steady (λ n. gather_of n m x) w 64 (λ p l. pick-marked-suc m p x ∙ rw (z p l, zero-mul, zero-add)) h

  pub gather-at-width : m < 2 ^ w → gather_of 64 m x ≡ gather_of w m x
  gather-at-width l = gather-wider λ p b. omega (arith, bit-above p l b)

  pub scatter-at-width : m < 2 ^ w → scatter_of 64 m x ≡ scatter_of w m x
  unfolding scatter_of
  scatter-at-width l =
      steady (λ n. scatter_of n m x) w 64 (λ p b. put-marked-suc m p x ∙ rw (bit-above p l b, zero-min, zero-mul, zero-add)) h

-- Group: the marked bits, and the gather by the complement above them.

group-split : (w m x : ℕ) → w ≤ 64 → m < 2 ^ 64 → group_of w m x ≡ gather_of w ((2 ^ 64 - 1) - m) x * 2 ^ rank m w + gather_of w m x
unfolding group_of gather_of
group-split w m x h l = rw (pick-append x (marked m w) (unmarked m w), length_marked m w, unmarked-not 64 l w h)

pub group-at-width : (w m x : ℕ) → w ≤ 64 → m < 2 ^ w → x < 2 ^ w → group_of 64 m x ≡ group_of w m x
group-at-width w m x h l k =
    let f : m < 2 ^ 64 = omega (arith, pow_mono h) in
    let upper = gather-wider w ((2 ^ 64 - 1) - m) x h (λ p b. omega (arith, bit-above p k b)) in
    group-split 64 m x (omega arith) f ∙ rw (upper, rank-wider l h, gather-at-width w m x h l) (sym (group-split w m x h f))

module _ (m x : ℕ) (l : m < 2 ^ 64) where
  upper_lt : gather_of 64 ((2 ^ 64 - 1) - m) x * 2 ^ rank m 64 < 2 ^ 64
  unfolding gather_of
  upper_lt =
      let s : rank ((2 ^ 64 - 1) - m) 64 + rank m 64 ≡ 64 = omega (arith, rank-not 64 l 64 (omega arith)) in
      rw s at (shl_lt (rank ((2 ^ 64 - 1) - m) 64) (rank m 64) (pick-marked-lt ((2 ^ 64 - 1) - m) 64 x))

  -- the code's values: the unmarked bits gathered, and the marked ones below them

  pub group-fits : {u : ℕ} → u ≡ gather_of 64 ((2 ^ 64 - 1) - m) x → u * 2 ^ rank m 64 < 2 ^ 64
  group-fits e = rw e upper_lt

  pub group-sum : {u r : ℕ} → u ≡ gather_of 64 ((2 ^ 64 - 1) - m) x → r ≡ u * 2 ^ rank m 64 + gather_of 64 m x → r ≡ group_of 64 m x
  group-sum e f = rw (f, e) (sym (group-split 64 m x (omega arith) l))
