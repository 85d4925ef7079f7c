-- A word of two parts: gather and scatter of v + w bits are those of the lower v and of the upper w. Assumes nothing.
use mathlib.Core.Path.{◌≡◌, sym, ◌∙◌, ap, ap₂}
use mathlib.Core.Logic.{◌⊎◌, inl, inr}
use Prim.Native.Nat.{ℕ, zero, suc, ◌+◌, ◌*◌, ◌/◌, ◌%◌, ◌^◌, ◌<◌, min}
use native.Mathlib.Omega.{arith}
use lib.Pow.{pow-add}
use Rattle.bits.specs.Bit.{bit, rank, places, of_bits, pick, put}
use Rattle.bits.proofs.Word.{bit-shr, bit-cases, bit-mod, ext}
use Rattle.bits.proofs.Rank.{rank_lt, rank-add}
use Rattle.bits.proofs.Places.{pick-marked-suc, put-marked-suc}
use Rattle.gather.specs.Gather.{gather_of, scatter_of}
use Rattle.gather.proofs.AnyWidth.{scatter-lt}
use Rattle.gather.proofs.Theorems.{bit-scatter}

module _ (v m x : ℕ) where
  -- the upper part is gathered above the lower one's count
  pub gather-halves : (w : ℕ) → gather_of (v + w) m x ≡ gather_of w (m / 2 ^ v) (x / 2 ^ v) * 2 ^ rank m v + gather_of v m x
  unfolding gather_of pick places of_bits
  gather-halves zero = let e : v + zero ≡ v = omega arith in omega (arith, ap (λ (n : ℕ). gather_of n m x) e)
  gather-halves (suc w) =
      let e : v + suc w ≡ suc (v + w) = omega arith in
      let b = min (bit m (v + w)) (bit x (v + w)) in
      let upper : gather_of (suc w) (m / 2 ^ v) (x / 2 ^ v) ≡ b * 2 ^ rank (m / 2 ^ v) w + gather_of w (m / 2 ^ v) (x / 2 ^ v) =
      pick-marked-suc (m / 2 ^ v) w (x / 2 ^ v)
      ∙ ap (λ (n : ℕ). n * 2 ^ rank (m / 2 ^ v) w + gather_of w (m / 2 ^ v) (x / 2 ^ v)) (ap₂ min (bit-shr m v w) (bit-shr x v w))
      in
      let power : 2 ^ rank m (v + w) ≡ 2 ^ rank m v * 2 ^ rank (m / 2 ^ v) w = ap (λ (n : ℕ). 2 ^ n) (rank-add v m w) ∙ pow-add 2 (rank m v) (rank (m / 2 ^ v) w) in
      ap (λ (n : ℕ). gather_of n m x) e ∙ pick-marked-suc m (v + w) x
      ∙ omega (arith, gather-halves w, ap (λ (n : ℕ). n * 2 ^ rank m v) upper, ap (λ (n : ℕ). b * n) power)

  -- the upper part takes the bits above the lower one's count
  pub scatter-halves : (w : ℕ) → scatter_of (v + w) m x ≡ scatter_of w (m / 2 ^ v) (x / 2 ^ rank m v) * 2 ^ v + scatter_of v m x
  unfolding scatter_of put places
  scatter-halves zero = let e : v + zero ≡ v = omega arith in omega (arith, ap (λ (n : ℕ). scatter_of n m x) e)
  scatter-halves (suc w) =
      let e : v + suc w ≡ suc (v + w) = omega arith in
      let b = min (bit m (v + w)) (bit x (rank m (v + w))) in
      let digit : bit (x / 2 ^ rank m v) (rank (m / 2 ^ v) w) ≡ bit x (rank m (v + w)) =
      bit-shr x (rank m v) (rank (m / 2 ^ v) w) ∙ ap (bit x) (sym (rank-add v m w))
      in
      let upper : scatter_of (suc w) (m / 2 ^ v) (x / 2 ^ rank m v) ≡ b * 2 ^ w + scatter_of w (m / 2 ^ v) (x / 2 ^ rank m v) =
      put-marked-suc (m / 2 ^ v) w (x / 2 ^ rank m v)
      ∙ ap (λ (n : ℕ). n * 2 ^ w + scatter_of w (m / 2 ^ v) (x / 2 ^ rank m v)) (ap₂ min (bit-shr m v w) digit)
      in
      ap (λ (n : ℕ). scatter_of n m x) e ∙ put-marked-suc m (v + w) x
      ∙ omega (arith, scatter-halves w, ap (λ (n : ℕ). n * 2 ^ v) upper, ap (λ (n : ℕ). b * n) (pow-add 2 v w))

-- scatter looks at no bit from the count up
pub scatter-count : (w m x : ℕ) → scatter_of w m (x % 2 ^ rank m w) ≡ scatter_of w m x
scatter-count w m x =
    ext w (scatter-lt m (x % 2 ^ rank m w) w) (scatter-lt m x w) λ p l.
    bit-scatter w m (x % 2 ^ rank m w) p l ∙ same p l (bit-cases m p) ∙ sym (bit-scatter w m x p l)
  where
    same : (p : ℕ) → p < w → (bit m p ≡ 0) ⊎ (bit m p ≡ 1)
        → min (bit m p) (bit (x % 2 ^ rank m w) (rank m p)) ≡ min (bit m p) (bit x (rank m p))
    same p l (inl z) = omega arith
    same p l (inr o) = ap (min (bit m p)) (bit-mod x (rank m w) (rank m p) (rank_lt m o l))
