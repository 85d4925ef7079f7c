-- Eight counts in the bytes of a word: how many ones of a byte lie below each of its bits, by computed tests, and a count added to all of them.
-- Assumes nothing.
use mathlib.Core.Path.{◌≡◌, refl, sym, ◌∙◌, ap, ap₂}
use mathlib.Core.Bool.{Bool, true, ◌&&◌}
use mathlib.Core.List.{List, [], ◌∷◌, ◌++◌, append-nil}
use Prim.Native.Nat.{ℕ, zero, suc, ◌+◌, ◌-◌, ◌*◌, ◌/◌, ◌%◌, ◌^◌, ◌<◌, ◌≤◌}
use native.Mathlib.Omega.{arith}
use native.Mathlib.Nat.{mod-lt}
use lib.Dec.{eqb, ltb}
use lib.Bits.{bit_and}
use lib.ListN.{get_or, take, replicate, replicate-append-replicate}
use lib.Seq.{sets}
use lib.Pow.{shr-shr}
use borrow.Author.Tests.{eqb-true, ltb-true}
use Rattle.bits.specs.Bit.{bit, byte_at, up_to, rank, counts_below}
use Rattle.bits.proofs.UpTo.{length-up_to, get_or-up_to, up_to-add, up_to-same, sets-between}
use Rattle.bits.proofs.Rank.{rank-le, rank-add, rank-mod}
use Rattle.bits.proofs.Refusals.{both}
use Rattle.bits.proofs.Computed.{every, every-at}

-- the bits of a byte in bytes of their own, added up in three steps

abbrev ones_of : ℕ → ℕ
ones_of b = bit_and (b % 128 * 567382630219905) 282578800148737 * 2 ^ 8 % 2 ^ 64

abbrev more : ℕ → ℕ → ℕ
more n x = x + x * 2 ^ n % 2 ^ 64

-- the bytes of x are the counts below the bits of b
bytes_count : ℕ → ℕ → Bool
bytes_count x b = every 8 (λ k. eqb (byte_at x k) (rank b k))

counts_in : ℕ → Bool
counts_in b =
    let twos = more 8 (ones_of b) in
    let fours = more 16 twos in
    ltb twos (2 ^ 64) && (ltb fours (2 ^ 64) && (ltb (more 32 fours) (2 ^ 59) && bytes_count (more 32 fours) b))

counts-in-tested : every 256 counts_in ≡ true
unfolding every rank bit counts_in bytes_count
counts-in-tested = refl

module _ (b : ℕ) (h : b < 2 ^ 8) where
  abbrev pub eight_of : ℕ
  eight_of = more 32 (more 16 (more 8 (ones_of b)))

  pub eight-counts : (more 8 (ones_of b) < 2 ^ 64) × (more 16 (more 8 (ones_of b)) < 2 ^ 64) × (eight_of < 2 ^ 59)
      × ((k : ℕ) → k < 8 → byte_at eight_of k ≡ rank b k)
  unfolding counts_in bytes_count
  eight-counts =
      let first = both _ _ (every-at 256 counts_in counts-in-tested b h) in
      let second = both _ _ first.1 in
      let third = both _ _ second.1 in (
        ltb-true _ _ first.0,
        ltb-true _ _ second.0,
        ltb-true _ _ third.0,
        λ k l. eqb-true _ _ (every-at 8 (λ k. eqb (byte_at eight_of k) (rank b k)) third.1 k l),
      )

  pub eight_fits : eight_of < 2 ^ 64
  eight_fits = below eight-counts.2
    where
      below : {n : ℕ} → n < 2 ^ 59 → n < 2 ^ 64
      below h = omega arith

-- a count added to all of them

-- a one in each byte
abbrev pub every_byte : ℕ
every_byte = 72340172838076673

copied : ℕ → Bool
copied c = every 8 (λ k. eqb (byte_at (c * every_byte) k) c)

copied-tested : every 256 copied ≡ true
unfolding every copied
copied-tested = refl

byte-copied : (c k : ℕ) → c < 256 → k < 8 → byte_at (c * every_byte) k ≡ c
unfolding copied
byte-copied c k h l = eqb-true _ _ (every-at 8 (λ k. eqb (byte_at (c * every_byte) k) c) (every-at 256 copied copied-tested c h) k l)

byte-up : (x k : ℕ) → byte_at x (suc k) ≡ byte_at (x / 2 ^ 8) k
byte-up x k = let e : 8 * suc k ≡ 8 + 8 * k = omega arith in ap (λ (n : ℕ). x / 2 ^ n % 2 ^ 8) e ∙ sym (ap (λ (n : ℕ). n % 2 ^ 8) (shr-shr x 8 (8 * k)))

-- bytes whose sums are bytes are added each by itself
bytes-add : (k x y : ℕ) → ((j : ℕ) → j ≤ k → byte_at x j + byte_at y j < 2 ^ 8) → byte_at (x + y) k ≡ byte_at x k + byte_at y k
bytes-add zero x y h = omega (arith, h 0 (omega arith))
bytes-add (suc k) x y h =
    let e : (x + y) / 2 ^ 8 ≡ x / 2 ^ 8 + y / 2 ^ 8 = omega (arith, h 0 (omega arith)) in
    byte-up (x + y) k
    ∙ ap (λ (n : ℕ). byte_at n k) e
    ∙ bytes-add k (x / 2 ^ 8) (y / 2 ^ 8) (λ j l. rw (← byte-up x j, ← byte-up y j) (h (suc j) (omega arith)))
    ∙ sym (ap₂ ◌+◌ (byte-up x k) (byte-up y k))

-- the pass over a mask: its counts up to the bit `first`, and what a turn adds

abbrev pub count_at : ℕ → ℕ → ℕ → ℕ
count_at m start p = start + rank m p

abbrev pub counted_to : ℕ → ℕ → ℕ → List ℕ
counted_to m start first = up_to first (count_at m start) ++ replicate (64 - first) 0

-- the promise of `counts_below`, entry by entry
pub count-below : (m start p : ℕ) → p < 64 → get_or (counts_below m start) p 0 ≡ start + rank m p
unfolding counts_below
count-below m start p h = get_or-up_to (count_at m start) 64 p h

-- the mask of rows 1 to 4 of paper 01, 10101101, counted by hand, and with five counted before
pub counting-row-4 : (take 9 (counts_below 0xAD 0) ≡ 0 ∷ 1 ∷ 1 ∷ 2 ∷ 3 ∷ 3 ∷ 4 ∷ 4 ∷ 5 ∷ [])
    × (take 9 (counts_below 0xAD 5) ≡ 5 ∷ 6 ∷ 6 ∷ 7 ∷ 8 ∷ 8 ∷ 9 ∷ 9 ∷ 10 ∷ [])
unfolding counts_below up_to rank bit
counting-row-4 = (refl, refl)

pub counted-whole : (m start : ℕ) {first : ℕ} → first ≡ 64 → counted_to m start first ≡ counts_below m start
unfolding counts_below
counted-whole m start e = rw e (append-nil (up_to 64 (count_at m start)))

top_byte : {e : ℕ} → e < 2 ^ 59 → e / 2 ^ 56 ≡ byte_at e 7
top_byte h = omega arith

top_bit : {b : ℕ} → b < 2 ^ 8 → b / 2 ^ 7 ≡ bit b 7
unfolding bit
top_bit h = omega arith

module _ (m start first : ℕ) where
  abbrev byte_of_mask : ℕ
  byte_of_mask = m / 2 ^ first % 2 ^ 8

  rank-byte : (k : ℕ) → k ≤ 8 → rank m (first + k) ≡ rank m first + rank byte_of_mask k
  rank-byte k l = rank-add first m k ∙ ap (λ (n : ℕ). rank m first + n) (sym (rank-mod (m / 2 ^ first) 8 k l))

  pub count_small : start < 192 → first ≤ 56 → count_at m start first ≤ 247
  count_small h l = omega (arith, rank-le m first)

  -- the counts inside the byte, added to those below it
  module _ {e : ℕ} (small : e < 2 ^ 59) (room : count_at m start first ≤ 247) where
    abbrev eight : ℕ
    eight = count_at m start first * every_byte + e

    pub eight-fit : eight < 2 ^ 64
    eight-fit = omega arith

    module _ (counts : (k : ℕ) → k < 8 → byte_at e k ≡ rank byte_of_mask k) where
      pub next-count : count_at m start first + (e / 2 ^ 56 + byte_of_mask / 2 ^ 7) ≡ count_at m start (first + 8)
      unfolding rank
      next-count =
          let top : e / 2 ^ 56 ≡ rank byte_of_mask 7 = top_byte small ∙ counts 7 (omega arith) in
          let last : byte_of_mask / 2 ^ 7 ≡ bit byte_of_mask 7 = top_bit (mod-lt (m / 2 ^ first) (omega arith)) in
          omega (arith, top, last, rank-byte 8 (omega arith))

      byte-noted : (k : ℕ) → k < 8 → byte_at eight k ≡ count_at m start (first + k)
      byte-noted k l =
          let each : (j : ℕ) → j < 8 → byte_at (count_at m start first * every_byte) j ≡ count_at m start first =
          λ j h. byte-copied (count_at m start first) j (omega arith) h
          in
          let fits : (j : ℕ) → j ≤ k → byte_at (count_at m start first * every_byte) j + byte_at e j < 2 ^ 8 =
          λ j h. omega (arith, each j (omega arith), counts j (omega arith), rank-le byte_of_mask j)
          in
          bytes-add k (count_at m start first * every_byte) e fits
          ∙ omega (arith, each k l, counts k l, rank-byte k (omega arith))

      pub eight-noted : first ≤ 56 → {l : List ℕ} → l ≡ counted_to m start first → sets l first (up_to 8 (byte_at eight)) ≡ counted_to m start (first + 8)
      eight-noted h {l} q =
          let g = count_at m start in
          let left = 64 - (first + 8) in
          let count : 64 - first ≡ 8 + left = omega arith in
          let zeros : replicate {A = ℕ} (64 - first) 0 ≡ replicate 8 0 ++ replicate left 0 =
          ap (λ (k : ℕ). replicate k 0) count ∙ sym (replicate-append-replicate 8 left 0)
          in
          ap₂ (λ (r : List ℕ) (i : ℕ). sets r i (up_to 8 (byte_at eight))) (q ∙ ap (λ (r : List ℕ). up_to first g ++ r) zeros) (sym (length-up_to g first))
          ∙ sets-between (up_to first g) (replicate 8 0) (up_to 8 (byte_at eight)) (replicate left 0) (sym (length-up_to (byte_at eight) 8))
          ∙ ap (λ (r : List ℕ). up_to first g ++ r ++ replicate left 0) (up_to-same 8 (byte_at eight) (λ i. g (first + i)) byte-noted)
          ∙ ap (λ (r : List ℕ). r ++ replicate left 0) (sym (up_to-add first 8 g))
