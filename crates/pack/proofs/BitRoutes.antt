-- The way of each bit in gather and scatter: after the first i moves down, what stood at p stands at p less its gaps modulo 2 ^ i.
-- Assumes nothing.
use mathlib.Core.Path.{◌≡◌, refl, sym, ◌∙◌, ap}
use mathlib.Core.Logic.{◌⊎◌, inl, inr}
use Prim.Native.Nat.{ℕ, ◌+◌, ◌-◌, ◌*◌, ◌/◌, ◌%◌, ◌^◌, ◌<◌, ◌≤◌, min, max}
use native.Mathlib.Omega.{arith}
use native.Mathlib.Decide.{dec_lt}
use native.Mathlib.Nat.{one-mul, mod-lt, mod-eq_of_lt, mod-one, mod-le}
use lib.Bits.{bit_and, bit_or, bit_xor, and_le_l, and_le_r, or_lt, xor_lt}
use lib.Pow.{pow_pos, pow_mono, shl_exact, shr_le, split, high, mod-pow-add}
use Rattle.bits.specs.Bit.{bit, rank}
use Rattle.bits.proofs.Word.{bit-lt, bit-cases, bit-and, bit-or, bit-xor, bit-shr, bit-above, bit-shl-from, ext}
use Rattle.bits.proofs.Rank.{select}
use Rattle.gather.specs.Gather.{gather_of, scatter_of}
use Rattle.pack.specs.Moves.{gaps, Move}
use Rattle.pack.proofs.Gaps.{gaps-rank, gaps-between}
use Rattle.gather.proofs.AnyWidth.{gather-lt, scatter-lt}
use Rattle.gather.proofs.Theorems.{bit-gather, bit-gather-above, bit-scatter}

-- where what stood at p is after i moves
pub place_of : ℕ → ℕ → ℕ → ℕ
place_of m i p = p - gaps m p % 2 ^ i

module _ (m : ℕ) where
  place-le : (i p : ℕ) → place_of m i p ≤ p
  unfolding place_of
  place-le i p = omega arith

  place_none : (p : ℕ) → place_of m 0 p ≡ p
  unfolding place_of
  place_none p = omega (arith, mod-one (gaps m p))

  place-all : (p : ℕ) → p < 64 → place_of m 6 p ≡ rank m p
  unfolding place_of
  place-all p l = omega (arith, gaps-rank m p, mod-eq_of_lt {n = gaps m p} {m = 64} (omega (arith, gaps-rank m p)))

  place-next : (i p : ℕ) → place_of m (i + 1) p + bit (gaps m p) i * 2 ^ i ≡ place_of m i p
  unfolding place_of bit
  place-next i p =
      let e : 1 + i ≡ i + 1 = omega arith in
      omega (arith, gaps-rank m p, rw e at (mod-pow-add (gaps m p) 1 i), mod-le (gaps m p) (2 ^ (i + 1)))

  -- the places between have too few gaps to change bit i
  place-bit : (i p : ℕ) → bit (gaps m (place_of m i p)) i ≡ bit (gaps m p) i
  unfolding place_of bit
  place-bit i p =
      let g = gaps m p in
      let d = 2 ^ i in
      let q = p - g % d in
      let b = gaps-between m q p (omega arith) in
      let t = gaps m q - g / d * d in
      let e : gaps m q ≡ g / d * d + t = omega (arith, split g i, b.0, b.1, gaps-rank m p, mod-le g d) in
      ap (λ (n : ℕ). n / d % 2) e ∙ ap (λ (n : ℕ). n % 2) (high (g / d) i {lo = t} (omega (arith, split g i, mod-lt g (pow_pos i), b.0)))

  -- one move more, by the word that marks what moves
  module _ {i w : ℕ} (h : Move m i w) (p : ℕ) (l : p < 64) {q : ℕ} (e : place_of m i p ≡ q) where
    place-move : place_of m (i + 1) p + bit w q * 2 ^ i ≡ q
    place-move =
        let b : bit w q ≡ bit (gaps m p) i = rw (← e) (h.at (place_of m i p) (omega (arith, place-le i p)) ∙ place-bit i p) in
        rw (b, ← e) (place-next i p)

    place-stays : bit w q ≡ 0 → place_of m (i + 1) p ≡ q
    place-stays z = omega (arith, place-move, ap (λ (n : ℕ). n * 2 ^ i) z)

    place-moves : bit w q ≡ 1 → 2 ^ i + place_of m (i + 1) p ≡ q
    place-moves o = omega (arith, place-move, ap (λ (n : ℕ). n * 2 ^ i) o)

-- the code's distance of move i
module _ (i : ℕ) (h : i < 6) where
  pub distance : 1 * 2 ^ i % 2 ^ 64 ≡ 2 ^ i
  distance = shl_exact {a = 1} 1 i 64 (omega arith) (omega arith) ∙ one-mul (2 ^ i)

  pub distance-lt : 1 * 2 ^ i % 2 ^ 64 < 64
  distance-lt = omega (arith, distance, pow_mono {i = i} {j = 5} (omega arith))

-- Gather: after i moves, y has a one exactly where a one of v has come to

-- a one of v that is at q after i moves
abbrev Source : ℕ → ℕ → ℕ → ℕ → Type 0
Source m v i q = (p : ℕ) × (p < 64) × (bit v p ≡ 1) × (place_of m i p ≡ q)

pub record Pushed (m v i y : ℕ) : Type 0 where
  pub fits : y < 2 ^ 64
  pub to : (p : ℕ) → p < 64 → bit v p ≡ 1 → bit y (place_of m i p) ≡ 1
  pub from : (q : ℕ) → q < 64 → bit y q ≡ 1 → Source m v i q

pub pushed_none : {m v : ℕ} → v < 2 ^ 64 → Pushed m v 0 v
pushed_none {m} u =
    record { fits = u; to = λ p l b. rw (place_none m p) b; from = λ q l b. (q, l, b, place_none m q) }

-- the bits that w marks moved down by s
abbrev down : ℕ → ℕ → ℕ → ℕ
down s w y = bit_or (bit_xor y (bit_and y w)) (bit_and y w / 2 ^ s)

-- a one that stays at q, or one that comes there
abbrev Either : ℕ → ℕ → ℕ → ℕ → Type 0
Either s w y q = ((bit y q ≡ 1) × (bit w q ≡ 0)) ⊎ ((bit y (s + q) ≡ 1) × (bit w (s + q) ≡ 1))

module _ (s w y q : ℕ) where
  bit-down : bit (down s w y) q ≡ max ((bit y q + min (bit y q) (bit w q)) % 2) (min (bit y (s + q)) (bit w (s + q)))
  bit-down = rw (bit-or, bit-xor, bit-and, bit-shr, bit-and)

  stays : bit y q ≡ 1 → bit w q ≡ 0 → bit (down s w y) q ≡ 1
  stays a b = omega (arith, bit-down, bit-lt y (s + q))

  comes : {n : ℕ} → s + q ≡ n → bit y n ≡ 1 → bit w n ≡ 1 → bit (down s w y) q ≡ 1
  comes e a b = omega (arith, bit-down, ap (bit y) e, ap (bit w) e, bit-lt y q, bit-lt w q)

  whence : bit (down s w y) q ≡ 1 → Either s w y q
  whence h = by_cases (bit-cases y q) (bit-cases w q)
    where
      by_cases : (bit y q ≡ 0) ⊎ (bit y q ≡ 1) → (bit w q ≡ 0) ⊎ (bit w q ≡ 1) → Either s w y q
      by_cases (inl a) b = inr (omega (arith, bit-down, bit-lt y (s + q), bit-lt w (s + q)))
      by_cases (inr a) (inl b) = inl (a, b)
      by_cases (inr a) (inr b) = inr (omega (arith, bit-down, bit-lt y (s + q), bit-lt w (s + q)))

module _ {m v i y w : ℕ} (h : Pushed m v i y) (d : Move m i w) where
  to-next : (p : ℕ) → p < 64 → bit v p ≡ 1 → bit (down (2 ^ i) w y) (place_of m (i + 1) p) ≡ 1
  to-next p l b = by_cases (bit-cases w (place_of m i p))
    where
      by_cases : (bit w (place_of m i p) ≡ 0) ⊎ (bit w (place_of m i p) ≡ 1) → bit (down (2 ^ i) w y) (place_of m (i + 1) p) ≡ 1
      by_cases (inl z) = rw (place-stays m d p l refl z) (stays (2 ^ i) w y (place_of m i p) (h.to p l b) z)
      by_cases (inr o) = comes (2 ^ i) w y (place_of m (i + 1) p) (place-moves m d p l refl o) (h.to p l b) o

  from_next : (q : ℕ) → q < 64 → bit (down (2 ^ i) w y) q ≡ 1 → Source m v (i + 1) q
  from_next q l b = by_cases (whence (2 ^ i) w y q b) (dec_lt (2 ^ i + q) 64)
    where
      by_cases : Either (2 ^ i) w y q → Dec (2 ^ i + q < 64) → Source m v (i + 1) q
      by_cases (inl b) c = let r = h.from q l b.0 in (r.0, r.1, r.2, place-stays m d r.0 r.1 r.3 b.1)
      by_cases (inr b) (yes c) =
          let r = h.from (2 ^ i + q) c b.0 in
          (r.0, r.1, r.2, omega (arith, place-moves m d r.0 r.1 r.3 b.1))
      by_cases (inr b) (no c) = absurd (omega (arith, bit-above {w = 64} (2 ^ i + q) h.fits (omega arith)))

  below : down (2 ^ i) w y < 2 ^ 64
  below =
      let l : bit_and y w < 2 ^ 64 = omega (arith, and_le_l y w, h.fits) in
      or_lt 64 _ _ (xor_lt 64 y (bit_and y w) h.fits l) (omega (arith, shr_le (bit_and y w) (2 ^ i)))

  pub pushed-next : {s : ℕ} → s ≡ 2 ^ i → Pushed m v (i + 1) (bit_or (bit_xor y (bit_and y w)) (bit_and y w / 2 ^ s))
  pushed-next e = rw e (record { fits = below; to = to-next; from = from_next })

-- after all moves, y is the gather: a one of either word is a one of the other
module _ (m x : ℕ) {y : ℕ} (h : Pushed m (bit_and x m) 6 y) where
  one-of-gather : (q : ℕ) → q < 64 → bit y q ≡ 1 → bit (gather_of 64 m x) q ≡ 1
  one-of-gather q l b =
      let r = h.from q l b in
      let p = r.0 in
      let a : (bit x p ≡ 1) × (bit m p ≡ 1) = omega (arith, r.2, bit-and x m p, bit-lt x p, bit-lt m p) in
      let e : rank m p ≡ q = sym (place-all m p r.1) ∙ r.3 in
      (rw e at (bit-gather 64 m x p r.1 a.1)) ∙ a.0

  gather-one : (q : ℕ) → q < 64 → bit (gather_of 64 m x) q ≡ 1 → bit y q ≡ 1
  gather-one q l b = by_cases (dec_lt q (rank m 64))
    where
      by_cases : Dec (q < rank m 64) → bit y q ≡ 1
      by_cases (yes c) =
          let r = select m q 64 c in
          let p = r.0 in
          let a : bit x p ≡ 1 = sym (bit-gather 64 m x p r.1 r.2) ∙ rw r.3 b in
          let v : bit (bit_and x m) p ≡ 1 = omega (arith, bit-and x m p, r.2) in
          rw (place-all m p r.1, r.3) at (h.to p r.1 v)
      by_cases (no c) = absurd (omega (arith, bit-gather-above 64 m x q (omega arith)))

  pub pushed-all : y ≡ gather_of 64 m x
  pushed-all = ext 64 h.fits (gather-lt m x 64) λ q l. by_cases q l (bit-cases y q) (bit-cases (gather_of 64 m x) q)
    where
      by_cases : (q : ℕ) → q < 64 → (bit y q ≡ 0) ⊎ (bit y q ≡ 1) → (bit (gather_of 64 m x) q ≡ 0) ⊎ (bit (gather_of 64 m x) q ≡ 1)
          → bit y q ≡ bit (gather_of 64 m x) q
      by_cases q l (inl a) (inl b) = a ∙ sym b
      by_cases q l (inr a) c = a ∙ sym (one-of-gather q l a)
      by_cases q l (inl a) (inr b) = gather-one q l b ∙ sym b

-- Scatter, the moves undone from the last: what is to come to p stands where p's bit would be after i moves

pub record Pulled (m x i y : ℕ) : Type 0 where
  pub at : (p : ℕ) → p < 64 → bit y (place_of m i p) ≡ bit x (rank m p)

pub pulled-all : {m x : ℕ} → Pulled m x 6 x
pulled-all {m} {x} = record { at = λ p l. ap (bit x) (place-all m p l) }

-- the places that w marks take the bit s below
abbrev up : ℕ → ℕ → ℕ → ℕ
up s w y = bit_xor y (bit_and (bit_xor y (y * 2 ^ s % 2 ^ 64)) w)

module _ (s w y q : ℕ) where
  bit_up : bit (up s w y) q ≡ (bit y q + min ((bit y q + bit (y * 2 ^ s % 2 ^ 64) q) % 2) (bit w q)) % 2
  bit_up = rw (bit-xor, bit-and, bit-xor)

  keeps : bit w q ≡ 0 → bit (up s w y) q ≡ bit y q
  keeps z = omega (arith, bit_up, bit-lt y q)

  takes : (n : ℕ) → q < 64 → s + n ≡ q → bit w q ≡ 1 → bit (up s w y) q ≡ bit y n
  takes n l e o = omega (arith, bit_up, bit-lt y q, bit-lt y n, bit-shl-from y s {w = 64} q n l e)

pub pulled-next : {m x i j y w s : ℕ} → j + 1 ≡ i → Pulled m x i y → Move m j w → s ≡ 2 ^ j
    → Pulled m x j (bit_xor y (bit_and (bit_xor y (y * 2 ^ s % 2 ^ 64)) w))
pulled-next {m} {x} {i} {j} {y} {w} {s} n h d e = rw e (record { at = λ p l. by_cases p l (bit-cases w (place_of m j p)) })
  where
    came : (p : ℕ) → p < 64 → bit y (place_of m (j + 1) p) ≡ bit x (rank m p)
    came p l = rw n (h.at p l)

    by_cases : (p : ℕ) → p < 64 → (bit w (place_of m j p) ≡ 0) ⊎ (bit w (place_of m j p) ≡ 1) → bit (up (2 ^ j) w y) (place_of m j p) ≡ bit x (rank m p)
    by_cases p l (inl z) = keeps (2 ^ j) w y (place_of m j p) z ∙ ap (bit y) (sym (place-stays m d p l refl z)) ∙ came p l
    by_cases p l (inr o) =
        takes (2 ^ j) w y (place_of m j p) (place_of m (j + 1) p) (omega (arith, place-le m j p)) (place-moves m d p l refl o) o ∙ came p l

-- the marked places of y are the scatter
pub pulled-none : (m x : ℕ) {y : ℕ} → Pulled m x 0 y → m < 2 ^ 64 → bit_and y m ≡ scatter_of 64 m x
pulled-none m x {y} h u =
    ext 64 (omega (arith, and_le_r y m)) (scatter-lt m x 64) λ p l.
    bit-and y m p ∙ omega (arith, h.at p l, ap (bit y) (place_none m p), bit-scatter 64 m x p l)
