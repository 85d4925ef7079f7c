-- Theorems on pack and unpack: the refusals, the count and the number of bits, the stream bit by bit. Assumes nothing.
use mathlib.Core.Path.{◌≡◌, sym, ◌∙◌, ap}
use mathlib.Core.List.{List}
use Prim.Native.Nat.{ℕ, zero, suc, ◌+◌, ◌-◌, ◌*◌, ◌/◌, ◌%◌, ◌<◌, ◌≤◌}
use native.Mathlib.Omega.{arith}
use native.Mathlib.Nat.{zero-mul, mod-lt, div-add-mod', div-lt_iff_lt-mul}
use lib.ListN.{length, get_or, drop, length-map, get_or-append}
use lib.Seq.{get_or-take, get_or-drop}
use Rattle.bits.specs.Bit.{bit, marked, up_to}
use Rattle.bits.specs.Refusal.{AnswersLowest}
use Rattle.bits.proofs.Word.{bit-mod-two, bit-of_bits}
use Rattle.bits.proofs.Rank.{rank-le}
use Rattle.bits.proofs.Places.{length_marked}
use Rattle.bits.proofs.UpTo.{length-up_to, get_or-up_to}
use Rattle.gather.specs.Gather.{gather_of}
use Rattle.pack.specs.declared.Packed.{Packed}
use Rattle.pack.specs.Fields.{size_of, needed, cut, fields_of, stream_of, word_at, pack_into, packed_bit, spare_bits, unpack_into}
use Rattle.pack.specs.Calls.{fields_conditions, fields_refusal, unpack_conditions, unpack_refusal, pack_answer, packed_out, unpack_answer, unpacked_out}
use Rattle.pack.proofs.SpareWords.{spare-bits}
use Rattle.pack.proofs.Turns.{stream-word, stream_end, next_field}
use Rattle.pack.proofs.FieldAnswers.{fields-lowest, answer-bits, answer-count, answer-count-le, length_cut}

-- Demand 1, of each call, with the words lent to it. Of every answer, refused or not: the bits are the count for each word from a up to b. Req 01: the count
-- is the length of the list of marked places if the call is carried out, and 0 to 64.
module _ (m : ℕ) (first : List ℕ) (a b : ℕ) (out : List ℕ) where
  -- the refusal of each call
  abbrev packs : ℕ
  packs = fields_refusal (size_of m) a b (length first) (length out)

  abbrev unpacks : ℕ
  unpacks = unpack_refusal (size_of m) a b (length out) first

  pub pack-lowest : AnswersLowest {A = Packed × List ℕ} (fields_conditions (size_of m) a b (length first) (length out)) (λ r. r.0.refusal)
      (λ n. (record { refusal = n; count = 0; bits = 0 }, out)) (pack_answer m first a b out, packed_out m first a b out)
  unfolding fields_refusal
  pack-lowest =
      fields-lowest (fields_conditions (size_of m) a b (length first) (length out)) (omega arith) (size_of m) a b (pack_into m (cut a b first) out) out

  pub unpack-lowest : AnswersLowest {A = Packed × List ℕ} (unpack_conditions (size_of m) a b (length out) first) (λ r. r.0.refusal)
      (λ n. (record { refusal = n; count = 0; bits = 0 }, out)) (unpack_answer m first a b out, unpacked_out m first a b out)
  unfolding unpack_refusal
  unpack-lowest = fields-lowest (unpack_conditions (size_of m) a b (length out) first) (omega arith) (size_of m) a b (unpack_into m first a b out) out

  pub pack-bits : (pack_answer m first a b out).bits ≡ (pack_answer m first a b out).count * (b - a)
  pack-bits = answer-bits packs (size_of m) a b

  pub pack-count : (pack_answer m first a b out).refusal ≡ 0 → (pack_answer m first a b out).count ≡ length (marked m 64)
  pack-count h = answer-count packs (size_of m) a b h ∙ sym (length_marked m 64)

  pub pack-count-le : (pack_answer m first a b out).count ≤ 64
  pack-count-le = omega (arith, answer-count-le packs (size_of m) a b, rank-le m 64)

  pub unpack-bits : (unpack_answer m first a b out).bits ≡ (unpack_answer m first a b out).count * (b - a)
  unpack-bits = answer-bits unpacks (size_of m) a b

  pub unpack-count : (unpack_answer m first a b out).refusal ≡ 0 → (unpack_answer m first a b out).count ≡ length (marked m 64)
  unpack-count h = answer-count unpacks (size_of m) a b h ∙ sym (length_marked m 64)

  pub unpack-count-le : (unpack_answer m first a b out).count ≤ 64
  unpack-count-le = omega (arith, answer-count-le unpacks (size_of m) a b, rank-le m 64)

-- bit n of d fields of k bits is bit n mod k of field n / k
pub field-place : (k d n : ℕ) → n < k * d → (n / k < d) × (n % k < k) × (n ≡ k * (n / k) + n % k)
field-place zero d n h = absurd (omega (arith, zero-mul d))
field-place (suc k) d n h =
    let z : 0 < suc k = omega arith in
    ((div-lt_iff_lt-mul {k = suc k} {x = n} {y = d} z).1 (omega arith), mod-lt n z, omega (arith, div-add-mod' n (suc k)))

-- bit n of the packed words is bit n of the stream

module _ (m : ℕ) (ws out : List ℕ) where
  packed-stream : (n : ℕ) → n < 64 * needed (size_of m * length ws) → packed_bit (pack_into m ws out) n ≡ stream_of m ws n % 2
  unfolding pack_into packed_bit word_at
  packed-stream n h =
      let s = stream_of m ws in
      let c = needed (size_of m * length ws) in
      let l : n / 64 < c = omega arith in
      let e : 64 * (n / 64) + n % 64 ≡ n = omega arith in
      ap (λ (x : ℕ). bit x (n % 64))
      (get_or-append (up_to c (word_at s)) (drop c out) 0 (n / 64) (omega (arith, length-up_to (word_at s) c)) ∙ get_or-up_to (word_at s) c (n / 64) l)
      ∙ bit-of_bits 64 (λ i. s (64 * (n / 64) + i)) (n % 64) (omega arith)
      ∙ ap (λ (a : ℕ). s a % 2) e

  pub packed-bit : (f i : ℕ) → f < length ws → i < size_of m
      → packed_bit (pack_into m ws out) (size_of m * f + i) ≡ bit (gather_of 64 m (get_or ws f 0)) i
  packed-bit f i h l =
      packed-stream (size_of m * f + i) (omega (arith, next_field (size_of m) f (length ws) h))
      ∙ ap (λ (n : ℕ). n % 2) (stream-word m ws out f i h l)
      ∙ bit-mod-two (gather_of 64 m (get_or ws f 0)) i

-- Bit n of the packed words is bit n mod k of the gathered word number a + n / k; spare bits are zero.
module _ (m a b : ℕ) (ws out : List ℕ) (h : a ≤ b) (l : b ≤ length ws) where
  total : size_of m * length (cut a b ws) ≡ size_of m * (b - a)
  total = ap (λ (d : ℕ). size_of m * d) (length_cut a b ws h l)

  pub pack-bit : (n : ℕ) → n < size_of m * (b - a)
      → packed_bit (pack_into m (cut a b ws) out) n ≡ bit (gather_of 64 m (get_or ws (a + n / size_of m) 0)) (n % size_of m)
  pack-bit n u =
      let k = size_of m in
      let q = n / k in
      let p = field-place k (b - a) n u in
      let v : q < length (cut a b ws) = omega (arith, length_cut a b ws h l) in
      let w : get_or (cut a b ws) q 0 ≡ get_or ws (a + q) 0 = get_or-take (b - a) (drop a ws) q 0 p.0 ∙ get_or-drop a ws q 0 in
      ap (packed_bit (pack_into m (cut a b ws) out)) p.2
      ∙ packed-bit m (cut a b ws) out q (n % k) v p.1
      ∙ ap (λ (x : ℕ). bit (gather_of 64 m x) (n % k)) w

  pub pack-spare : spare_bits (size_of m * (b - a)) (pack_into m (cut a b ws) out) ≡ 0
  pack-spare =
      spare-bits (size_of m * (b - a)) (pack_into m (cut a b ws) out)
      (λ n u v.
      packed-stream m (cut a b ws) out n (omega (arith, total))
      ∙ ap (λ (x : ℕ). x % 2)
      (stream_end (size_of m) (fields_of m (cut a b ws)) n
      (omega (arith, total, ap (λ (d : ℕ). size_of m * d) (length-map (cut a b ws) (gather_of 64 m))))))
