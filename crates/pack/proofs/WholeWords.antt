-- Fields of 64 bits are the words themselves. Assumes nothing.
use mathlib.Core.Path.{◌≡◌, sym, ◌∙◌, ap}
use mathlib.Core.List.{List, ◌++◌, append-nil}
use Prim.Native.Nat.{ℕ, suc, ◌+◌, ◌*◌, ◌^◌, ◌<◌, ◌≤◌}
use native.Mathlib.Omega.{arith}
use lib.ListN.{length, get_or, take, drop, length-take, drop_of_length-le}
use lib.Seq.{ext_get_or, get_or-take}
use Rattle.bits.specs.Bit.{bit, rank, of_bits, up_to}
use Rattle.bits.proofs.Word.{bit-lt, ext}
use Rattle.bits.proofs.Rank.{rank-le, rank_between}
use Rattle.bits.proofs.UpTo.{length-up_to, get_or-up_to, up_to-same}
use Rattle.gather.specs.Gather.{gather_of, scatter_of}
use Rattle.gather.proofs.AnyWidth.{gather-lt, scatter-lt}
use Rattle.gather.proofs.Theorems.{bit-gather, bit-scatter}
use Rattle.pack.specs.Fields.{size_of, needed, stream_of, word_at, pack_into, scattered_at}
use Rattle.pack.specs.Cursor.{Reads}
use Rattle.pack.proofs.Reading.{bit-packed, word-bits, scatter-read}
use Rattle.pack.proofs.Turns.{field-bits}

-- a list by its words
up_to-own : (ws : List ℕ) → ws ≡ up_to (length ws) (λ i. get_or ws i 0)
up_to-own ws =
    ext_get_or 0 ws (up_to (length ws) (λ i. get_or ws i 0)) (sym (length-up_to (λ i. get_or ws i 0) (length ws)))
    (λ i h. sym (get_or-up_to (λ i. get_or ws i 0) (length ws) i h))

module _ (m : ℕ) (e : size_of m ≡ 64) where
  -- every place is marked, and of its own rank
  rank-own : (p : ℕ) → p ≤ 64 → rank m p ≡ p
  rank-own p l = omega (arith, rank-le m p, rank_between m p 64 l)

  all-marked : (p : ℕ) → p < 64 → bit m p ≡ 1
  unfolding rank
  all-marked p l = omega (arith, rank-own p (omega arith), rank-own (suc p) l)

  gather-whole : {x : ℕ} → x < 2 ^ 64 → gather_of 64 m x ≡ x
  gather-whole {x} h =
      ext 64 (gather-lt m x 64) h λ p l. rw (rank-own p (omega arith)) at (bit-gather 64 m x p l (all-marked p l))

  scatter-whole : {x : ℕ} → x < 2 ^ 64 → scatter_of 64 m x ≡ x
  scatter-whole {x} h =
      ext 64 (scatter-lt m x 64) h λ p l.
      bit-scatter 64 m x p l ∙ rw (rank-own p (omega arith)) (omega (arith, all-marked p l, bit-lt x p))

  -- the copy is what is packed
  pub copied-packed : (ws old : List ℕ) → ((i : ℕ) → get_or ws i 0 < 2 ^ 64) → ws ++ drop (length ws) old ≡ pack_into m ws old
  unfolding pack_into word_at
  copied-packed ws old fit =
      let s = stream_of m ws in
      let n : needed (size_of m * length ws) ≡ length ws = rw e (omega arith) in
      rw n
      (ap (λ (l : List ℕ). l ++ drop (length ws) old)
      (up_to-own ws
      ∙ up_to-same (length ws) (λ i. get_or ws i 0) (word_at s)
      (λ i h. sym (gather-whole (fit i)) ∙ field-bits m ws old i h ∙ ap (λ (k : ℕ). of_bits k (λ j. s (k * i + j))) e)))

  -- and what is unpacked

  taken-unpacked : (ps : List ℕ) (n : ℕ) → ((i : ℕ) → get_or ps i 0 < 2 ^ 64) → n ≤ length ps → take n ps ≡ up_to n (scattered_at m ps)
  taken-unpacked ps n fit l =
      ext_get_or 0 (take n ps) (up_to n (scattered_at m ps)) (length-take n ps ∙ omega (arith, length-up_to (scattered_at m ps) n))
      (λ f h.
      let b : f < n = omega (arith, h, length-take n ps) in
      let k : 64 * f ≡ f * size_of m = rw e (omega arith) in
      let r : Reads ps (64 * f) (size_of m) (get_or ps f 0) =
      record { bits = λ i u. ap (λ (x : ℕ). bit x i) (word-bits ps f (fit f)) ∙ bit-packed ps 64 (64 * f) i (omega arith) }
      in
      get_or-take n ps f 0 b ∙ sym (scatter-whole (fit f)) ∙ scatter-read ps m f k r ∙ sym (get_or-up_to (scattered_at m ps) n f b))

  pub copied-unpacked : (ps old : List ℕ) → ((i : ℕ) → get_or ps i 0 < 2 ^ 64) → length old ≤ length ps
      → take (length old) ps ++ drop (length (take (length old) ps)) old ≡ up_to (length old) (scattered_at m ps)
  copied-unpacked ps old fit l =
      let n = length old in
      ap (λ (ys : List ℕ). take n ps ++ ys) (drop_of_length-le old {i = length (take n ps)} (omega (arith, length-take n ps)))
      ∙ append-nil (take n ps)
      ∙ taken-unpacked ps n fit l
