-- The gaps of a mask (unmarked places below each place), and how the code finds them bit by bit: the running parity of a word that
-- has as many ones up to q as there are gaps below q is their bit 0, and clearing the ones of odd number halves all counts.
-- Assumes nothing.
use mathlib.Core.Path.{◌≡◌, refl, sym, ◌∙◌, ap}
use mathlib.Core.List.{List}
use Prim.Native.Nat.{ℕ, zero, suc, ◌+◌, ◌-◌, ◌*◌, ◌/◌, ◌%◌, ◌^◌, ◌<◌, ◌≤◌, min}
use native.Mathlib.Omega.{arith}
use native.Mathlib.Decide.{dec_lt}
use native.Mathlib.Nat.{div-one}
use lib.Bits.{bit_and, bit_xor}
use lib.ListN.{length, get_or, set}
use lib.Pow.{shr-shr}
use lib.Seq.{get_or-set_same, get_or-set_other}
use Rattle.bits.specs.Bit.{bit, rank}
use Rattle.bits.proofs.Word.{bit-lt, bit-and, bit-xor, bit_not, bit-shl-below, bit-shl-from}
use Rattle.bits.proofs.Rank.{rank-le, rank_between}
use Rattle.pack.specs.Moves.{Parities, gaps, Move, Moves}

module _ (m : ℕ) where
  pub gaps-rank : (q : ℕ) → gaps m q + rank m q ≡ q
  unfolding gaps
  gaps-rank q = omega (arith, rank-le m q)

  gaps-suc : (q : ℕ) → gaps m (suc q) ≡ gaps m q + (1 - bit m q)
  unfolding gaps rank
  gaps-suc q = omega (arith, rank-le m q, bit-lt m q)

  -- gaps rise, and by at most one a place
  pub gaps-between : (p q : ℕ) → p ≤ q → (gaps m p ≤ gaps m q) × (gaps m q ≤ gaps m p + (q - p))
  gaps-between p q h = omega (arith, gaps-rank p, gaps-rank q, rank_between m p q h)

-- Running parities, by doubling: bit q of y is the parity of the s bits of x from q down

pub record Sums (s x y : ℕ) : Type 0 where
  pub at : (q : ℕ) → q < 64 → (bit y q + rank x (suc q - s)) % 2 ≡ rank x (suc q) % 2

pub sums-one : {x : ℕ} → Sums 1 x x
unfolding rank
sums-one {x} = record { at = λ q l. let n : suc q - 1 ≡ q = omega arith in omega (arith, ap (rank x) n) }

chain : (a b c d e : ℕ) → (a + c) % 2 ≡ e % 2 → (b + d) % 2 ≡ c % 2 → ((a + b) % 2 + d) % 2 ≡ e % 2
chain a b c d e p q = omega arith

pub sums-double : {s x y : ℕ} → Sums s x y → Sums (s + s) x (bit_xor y (y * 2 ^ s % 2 ^ 64))
sums-double {s} {x} {y} h =
    record { at = λ q l. rw (bit-xor y (y * 2 ^ s % 2 ^ 64) q) (chain (bit y q) _ _ _ (rank x (suc q)) (h.at q l) (lower q l (dec_lt q s))) }
  where
    lower : (q : ℕ) → q < 64 → Dec (q < s) → (bit (y * 2 ^ s % 2 ^ 64) q + rank x (suc q - (s + s))) % 2 ≡ rank x (suc q - s) % 2
    lower q l (yes b) =
        let n : suc q - (s + s) ≡ suc q - s = omega arith in omega (arith, bit-shl-below y s q l b, ap (rank x) n)
    lower q l (no b) =
        let j = q - s in
        let n : suc q - (s + s) ≡ suc j - s = omega arith in
        let r : suc q - s ≡ suc j = omega arith in
        omega (arith, h.at j (omega arith), bit-shl-from y s q j l (omega arith), ap (rank x) n, ap (rank x) r)

pub sums-all : {x y : ℕ} → Sums 64 x y → Parities x y
unfolding rank
sums-all {x} {y} h =
    record { at = λ q l. let n : suc q - 64 ≡ 0 = omega arith in omega (arith, h.at q l, ap (rank x) n, bit-lt y q) }

-- Halving: k has, from each q down, the gaps below q divided by 2 ^ i

pub record HalvesGaps (m i k : ℕ) : Type 0 where
  pub at : (q : ℕ) → q < 64 → rank k (suc q) ≡ gaps m q / 2 ^ i

-- without its ones of odd number, a word has half of them below every place
half-ones : {k y : ℕ} → Parities k y → y < 2 ^ 64 → (q : ℕ) → q ≤ 64 → rank (bit_and k ((2 ^ 64 - 1) - y)) q ≡ rank k q / 2
unfolding rank
half-ones h f zero l = refl
half-ones {k} {y} h f (suc q) l =
    omega (arith, half-ones h f q (omega arith), bit-and k ((2 ^ 64 - 1) - y) q, bit_not 64 q f l, h.at q l, step (rank k q) (bit k q) (bit-lt k q))
  where
    step : (r b : ℕ) → b < 2 → r / 2 + min b (1 - (r + b) % 2) ≡ (r + b) / 2
    step r b h = omega arith

halved-at : {m : ℕ} → m < 2 ^ 64 → (q : ℕ) → q < 64 → rank (((2 ^ 64 - 1) - m) * 2 ^ 1 % 2 ^ 64) (suc q) ≡ gaps m q
unfolding rank
halved-at {m} h zero l = omega (arith, bit-shl-below ((2 ^ 64 - 1) - m) 1 0 l (omega arith), gaps-rank m 0)
halved-at {m} h (suc q) l =
    omega (
      arith,
      halved-at h q (omega arith),
      gaps-suc m q,
      bit-shl-from ((2 ^ 64 - 1) - m) 1 (suc q) q l (omega arith),
      bit_not 64 q h (omega arith),
    )

pub halved_none : {m : ℕ} → m < 2 ^ 64 → HalvesGaps m 0 (((2 ^ 64 - 1) - m) * 2 ^ 1 % 2 ^ 64)
halved_none {m} h = record { at = λ q l. halved-at h q l ∙ sym (div-one (gaps m q)) }

module _ {m i k y : ℕ} (h : HalvesGaps m i k) (p : Parities k y) where
  pub halved-next : y < 2 ^ 64 → HalvesGaps m (i + 1) (bit_and k ((2 ^ 64 - 1) - y))
  halved-next f =
      record { at = λ q l. half-ones p f (suc q) l ∙ ap (λ (n : ℕ). n / 2) (h.at q l) ∙ shr-shr (gaps m q) i 1 }

  halved-move : Move m i y
  unfolding bit
  halved-move = record { at = λ q l. p.at q l ∙ ap (λ (n : ℕ). n % 2) (h.at q l) }

  -- one word more of the list
  pub moves_next : {ys : List ℕ} → i < length ys → Moves m i ys → Moves m (i + 1) (set ys i y)
  moves_next {ys} l f = record { move = λ j b. by_cases j (dec_lt j i) b }
    where
      by_cases : (j : ℕ) → Dec (j < i) → j < i + 1 → Move m j (get_or (set ys i y) j 0)
      by_cases j (yes b) c = rw (get_or-set_other ys i j y 0 (λ e. omega arith)) (f.move j b)
      by_cases j (no n) c = let e : j ≡ i = omega arith in rw (e, get_or-set_same ys i y 0 l) halved-move

pub moves-none : {m : ℕ} {ys : List ℕ} → Moves m 0 ys
moves-none = record { move = λ i l. absurd (omega arith) }
