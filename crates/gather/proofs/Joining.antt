-- From bytes to the word: gathered bytes are joined from the last, and to each byte are dealt the bits that it takes. Assumes nothing.
use mathlib.Core.Path.{◌≡◌, sym, ◌∙◌, ap, ap₂}
use Rattle.std.proofs.Common.{add-one}
use Prim.Native.Nat.{ℕ, zero, suc, ◌+◌, ◌-◌, ◌*◌, ◌/◌, ◌%◌, ◌^◌, ◌<◌, ◌≤◌}
use native.Mathlib.Omega.{arith}
use native.Mathlib.Nat.{mod-eq_of_lt, mod-lt, mul-le-mul_left, lt_of_mul-lt-mul_right, div-one}
use lib.Arith.{digits_lt}
use lib.Bits.{bit_or, or_shifted, or_shifted_r}
use lib.Pow.{pow-add, pow_pos, shr-shr, shl_exact, high, low}
use Rattle.bits.specs.Bit.{rank}
use Rattle.bits.proofs.Rank.{rank-le, rank-add}
use Rattle.gather.specs.Gather.{gather_of, scatter_of}
use Rattle.gather.specs.Parts.{in_parts, counts_of, gather_parts, scatter_parts, dealt}
use Rattle.gather.proofs.AnyWidth.{gather-count, gather-lt, scatter-lt}
use Rattle.gather.proofs.Halves.{gather-halves, scatter-halves}
use Rattle.gather.proofs.Parts.{Small, parts-drop}
use Rattle.gather.proofs.Moving.{scatter-same}

-- byte number j, and what is left above it
module _ {f : ℕ → ℕ → ℕ} (h : Small 8 f) (m x j : ℕ) (l : j < 8) where
  byte_at : in_parts 8 8 f m x / 2 ^ (8 * j)
      ≡ in_parts 8 (7 - j) f (m / 2 ^ (8 * j) / 2 ^ 8) (x / 2 ^ (8 * j) / 2 ^ 8) * 2 ^ 8 + f (m / 2 ^ (8 * j)) (x / 2 ^ (8 * j))
  unfolding in_parts
  byte_at = let n : j + suc (7 - j) ≡ 8 = omega arith in rw n at (parts-drop 8 h j (suc (7 - j)) m x)

counts-small : Small 8 (λ m x. rank m 8)
counts-small m x = omega (arith, rank-le m 8)

module _ (m j : ℕ) (l : j < 8) where
  pub count_at_lem : {counts : ℕ} → counts ≡ counts_of 8 8 m → counts / 2 ^ (8 * j) % 64 ≡ rank (m / 2 ^ (8 * j)) 8
  count_at_lem c = rw c (omega (arith, byte_at counts-small m 0 j l, rank-le (m / 2 ^ (8 * j)) 8))

-- The marked bits from bit `at` up, gathered below `start`.
unfoldable pub joined_from : ℕ → ℕ → ℕ → ℕ → ℕ
joined_from start m x at = start * 2 ^ rank (m / 2 ^ at) (64 - at) + gather_of (64 - at) (m / 2 ^ at) (x / 2 ^ at)

module _ (start m x : ℕ) where
  pub joined-none : joined_from start m x 64 ≡ start
  unfolding joined_from rank
  joined-none = omega (arith, gather-lt (m / 2 ^ 64) (x / 2 ^ 64) 0)

  pub joined-all : joined_from start m x 0 ≡ start * 2 ^ rank m 64 + gather_of 64 m x
  unfolding joined_from
  joined-all = rw (div-one m, div-one x)

  -- v bits more
  joined_step : (at v : ℕ) → at + v ≤ 64
      → joined_from start m x at ≡ joined_from start m x (at + v) * 2 ^ rank (m / 2 ^ at) v + gather_of v (m / 2 ^ at) (x / 2 ^ at)
  unfolding joined_from
  joined_step at v l =
      let w = 64 - (at + v) in
      let p = m / 2 ^ at in
      let e : 64 - at ≡ v + w = omega arith in
      let power : start * 2 ^ rank p (v + w) ≡ start * (2 ^ rank p v * 2 ^ rank (p / 2 ^ v) w) =
      ap (λ (n : ℕ). start * n) (ap (λ (n : ℕ). 2 ^ n) (rank-add v p w) ∙ pow-add 2 (rank p v) (rank (p / 2 ^ v) w))
      in
      rw (e, ← (shr-shr m at v), ← (shr-shr x at v)) (omega (arith, power, gather-halves v p (x / 2 ^ at) w))

  module _ (h : start * 2 ^ rank m 64 < 2 ^ 64) where
    pub joined-lt : (at : ℕ) → at ≤ 64 → joined_from start m x at < 2 ^ 64
    joined-lt at l =
        let r = rank m 64 in
        let e : (64 - r) + r ≡ 64 = omega (arith, rank-le m 64) in
        let fits : start < 2 ^ (64 - r) = lt_of_mul-lt-mul_right (2 ^ r) {m = start} {n = 2 ^ (64 - r)} (rw (← (pow-add 2 (64 - r) r), e) h) in
        let all : start * 2 ^ r + gather_of 64 m x < 2 ^ 64 = rw (← (pow-add 2 (64 - r) r), e) at (digits_lt fits (gather-count m x 64)) in
        let rest : joined_from start m x 0 ≡ joined_from start m x at * 2 ^ rank (m / 2 ^ 0) at + gather_of at (m / 2 ^ 0) (x / 2 ^ 0) =
        let z : 0 + at ≡ at = omega arith in rw z at (joined_step 0 at (omega arith))
        in
        omega (arith, all, joined-all, rest, mul-le-mul_left {m = 1} {n = 2 ^ rank (m / 2 ^ 0) at} (joined_from start m x at) (pow_pos (rank (m / 2 ^ 0) at)))

    -- one byte more, number i - 1, by the code's steps
    pub joined-next : (i : ℕ) {out bytes counts : ℕ} → 0 < i → i ≤ 8 → bytes ≡ gather_parts 8 8 m x → counts ≡ counts_of 8 8 m
        → out ≡ joined_from start m x (8 * i)
        → bit_or (out * 2 ^ (counts / 2 ^ (8 * (i - 1)) % 64) % 2 ^ 64) (bytes / 2 ^ (8 * (i - 1)) % 256) ≡ joined_from start m x (8 * (i - 1))
    joined-next i {out} {bytes} {counts} z l b c o =
        let j = i - 1 in
        let at = 8 * j in
        let k : j < 8 = omega arith in
        let n : 8 * i ≡ at + 8 = omega arith in
        let p = m / 2 ^ at in
        let r = rank p 8 in
        let g = gather_of 8 p (x / 2 ^ at) in
        let byte : bytes / 2 ^ at % 256 ≡ g = rw b (omega (arith, byte_at (λ m x. gather-lt m x 8) m x j k, gather-lt p (x / 2 ^ at) 8)) in
        let step : joined_from start m x at ≡ out * 2 ^ r + g = rw (o, n) (joined_step at 8 (omega arith)) in
        let exact : out * 2 ^ r % 2 ^ 64 ≡ out * 2 ^ r = mod-eq_of_lt (omega (arith, step, joined-lt at (omega arith))) in
        rw (count_at_lem m j k c, byte, exact) (or_shifted out r g (gather-count p (x / 2 ^ at) 8) ∙ sym step)

-- Scatter: what is dealt to the bytes.

dealt-lt : (n m x : ℕ) → dealt n m x < 2 ^ (8 * n)
unfolding dealt
dealt-lt zero m x = omega arith
dealt-lt (suc n) m x =
    let e : 8 * suc n ≡ 8 * n + 8 = omega arith in
    rw (e, pow-add 2 (8 * n) 8) (digits_lt (dealt-lt n (m / 2 ^ 8) (x / 2 ^ rank m 8)) (mod-lt x (omega arith)))

-- one byte more above
dealt-suc : (n m x : ℕ) → dealt (suc n) m x ≡ (x / 2 ^ rank m (8 * n) % 2 ^ 8) * 2 ^ (8 * n) + dealt n m x
unfolding dealt rank
dealt-suc zero m x = rw (div-one x) (omega arith)
dealt-suc (suc n) m x =
    let e : 8 * suc n ≡ 8 + 8 * n = omega arith in
    let r : x / 2 ^ rank m 8 / 2 ^ rank (m / 2 ^ 8) (8 * n) ≡ x / 2 ^ rank m (8 * suc n) =
    shr-shr x (rank m 8) (rank (m / 2 ^ 8) (8 * n)) ∙ ap (λ (k : ℕ). x / 2 ^ k) (sym (rank-add 8 m (8 * n)) ∙ ap (rank m) (sym e))
    in
    let power : 2 ^ (8 * suc n) ≡ 2 ^ 8 * 2 ^ (8 * n) = ap (λ (k : ℕ). 2 ^ k) e ∙ pow-add 2 8 (8 * n) in
    omega (
      arith,
      ap (λ (k : ℕ). k * 2 ^ 8) (dealt-suc n (m / 2 ^ 8) (x / 2 ^ rank m 8)),
      ap (λ (k : ℕ). k % 2 ^ 8 * 2 ^ (8 * n)) r,
      ap (λ (k : ℕ). (x / 2 ^ rank m (8 * suc n) % 2 ^ 8) * k) power,
    )

pub scatter-dealt : (n m x : ℕ) → scatter_parts 8 n m (dealt n m x) ≡ scatter_of (8 * n) m x
unfolding dealt in_parts
scatter-dealt zero m x = omega (arith, scatter-lt m x 0)
scatter-dealt (suc n) m x =
    let e : 8 * suc n ≡ 8 + 8 * n = omega arith in
    let d = dealt n (m / 2 ^ 8) (x / 2 ^ rank m 8) in
    let small : x % 2 ^ 8 < 2 ^ 8 = mod-lt x (omega arith) in
    ap₂ (λ (a b : ℕ). a * 2 ^ 8 + b)
    (ap (scatter_parts 8 n (m / 2 ^ 8)) (high d 8 small) ∙ scatter-dealt n (m / 2 ^ 8) (x / 2 ^ rank m 8))
    (scatter-same 8 m (d * 2 ^ 8 + x % 2 ^ 8) x 8 (rank-le m 8) (low d 8 small))
    ∙ sym (ap (λ (w : ℕ). scatter_of w m x) e ∙ scatter-halves 8 m x (8 * n))

-- byte number j more, by the code's steps
module _ (m x j : ℕ) (l : j < 8) where
  pub dealt-next : {rest : ℕ} → rest ≡ x / 2 ^ rank m (8 * j) → bit_or (dealt j m x) (rest % 256 * 2 ^ (8 * j) % 2 ^ 64) ≡ dealt (j + 1) m x
  dealt-next {rest} r =
      let b = x / 2 ^ rank m (8 * j) % 256 in
      let exact : b * 2 ^ (8 * j) % 2 ^ 64 ≡ b * 2 ^ (8 * j) = shl_exact 8 (8 * j) 64 (mod-lt (x / 2 ^ rank m (8 * j)) (omega arith)) (omega arith) in
      rw (r, exact, add-one) (or_shifted_r b (8 * j) (dealt j m x) (dealt-lt j m x) ∙ sym (dealt-suc j m x))

  pub rest-next : {rest counts : ℕ} → rest ≡ x / 2 ^ rank m (8 * j) → counts ≡ counts_of 8 8 m
      → rest / 2 ^ (counts / 2 ^ (8 * j) % 64) ≡ x / 2 ^ rank m (8 * (j + 1))
  rest-next r c =
      let n : 8 * (j + 1) ≡ 8 * j + 8 = omega arith in
      rw (r, n, count_at_lem m j l c, shr-shr x (rank m (8 * j)) (rank (m / 2 ^ (8 * j)) 8)) (ap (λ (k : ℕ). x / 2 ^ k) (sym (rank-add (8 * j) m 8)))
