-- One field more, in the loops over the fields: the cursor's place, the room for it, and what is left when the last one is done. Assumes nothing.
use mathlib.Core.Path.{◌≡◌, refl, sym, ◌∙◌, ap, ap₂}
use mathlib.Core.List.{List}
use Prim.Native.Nat.{ℕ, ◌+◌, ◌-◌, ◌*◌, ◌/◌, ◌%◌, ◌^◌, ◌<◌, ◌≤◌}
use native.Mathlib.Omega.{arith}
use native.Mathlib.Decide.{ℕ_discrete}
use native.Mathlib.Nat.{mul-le-mul_left}
use lib.Arith.{digits_lt, digits_div, digits_mod}
use lib.ListN.{length, get_or, length-map}
use borrow.Author.Tests.{lt-ltb, le-ltb, eq-eqb, ne_eqb}
use Rattle.bits.specs.Bit.{bit, of_bits, overwritten}
use Rattle.bits.proofs.Word.{bit-mod-two, bit-of_bits, of_bits-lt, of_bits-same, of_bits-add, ext}
use Rattle.bits.proofs.Places.{pick-marked-lt}
use Rattle.bits.proofs.UpTo.{map_at}
use Rattle.gather.specs.Gather.{gather_of, scatter_of}
use Rattle.pack.specs.declared.Cursor.{Cursor}
use Rattle.pack.specs.declared.Pair.{Pair}
use Rattle.pack.specs.Fields.{size_of, needed, fields_of, stream_bit, stream_of, word_at, pack_into, scattered_at}
use Rattle.pack.specs.Cursor.{IsStart, Holds, Puts, PutsPair, Gathers, finished, Awaits, Takes}
use Rattle.bits.proofs.FilledLists.{length-overwritten, fill_none, fill-next}
use Rattle.pack.proofs.Stream.{of_bits-none}
use Rattle.pack.proofs.Reading.{scatter-read}

-- the stream of a list of fields

module _ (k : ℕ) (fs : List ℕ) where
  pub stream_at : (f i : ℕ) → f < length fs → i < k → stream_bit k fs (k * f + i) ≡ bit (get_or fs f 0) i
  unfolding stream_bit
  stream_at f i h l =
      let e : k * f + i ≡ f * k + i = omega arith in
      let b : k * f + i < k * length fs = omega (arith, digits_lt h l) in
      rw (lt-ltb (k * f + i) (k * length fs) b)
      (ap₂ (λ (d m : ℕ). bit (get_or fs d 0) m) (ap (λ (n : ℕ). n / k) e ∙ digits_div f l) (ap (λ (n : ℕ). n % k) e ∙ digits_mod f l))

  pub stream_end : (n : ℕ) → k * length fs ≤ n → stream_bit k fs n ≡ 0
  unfolding stream_bit
  stream_end n h = rw (le-ltb n (k * length fs) h)

-- room for all fields is room for the next one
pub next_field : (k i len : ℕ) → i < len → k * i + k ≤ k * len
next_field k i len h = let l : i + 1 ≤ len = omega arith in omega (arith, mul-le-mul_left k l)

-- Packing.

module _ (m : ℕ) (ws old : List ℕ) where
  abbrev stream : ℕ → ℕ
  stream = stream_of m ws

  pub pack-starts : {c : Cursor} → IsStart c → Holds stream (size_of m * 0) c old old
  unfolding of_bits
  pack-starts {c} s = record {
    at = omega (arith, s.word, s.held);
    bits = rw (s.pending, s.held) refl;
    words = rw s.word (fill_none (word_at stream) old);
  }

  pub stream-word : (f i : ℕ) → f < length ws → i < size_of m → stream (size_of m * f + i) ≡ bit (gather_of 64 m (get_or ws f 0)) i
  stream-word f i h l =
      stream_at (size_of m) (fields_of m ws) f i (omega (arith, length-map ws (gather_of 64 m))) l
      ∙ ap (λ (x : ℕ). bit x i) (map_at (gather_of 64 m) ws f h)

  pub field-bits : (f : ℕ) → f < length ws → gather_of 64 m (get_or ws f 0) ≡ of_bits (size_of m) (λ i. stream (size_of m * f + i))
  unfolding gather_of
  field-bits f h =
      let g : ℕ → ℕ = λ i. stream (size_of m * f + i) in
      ext (size_of m) (pick-marked-lt m 64 (get_or ws f 0)) (of_bits-lt (size_of m) g)
      (λ i l.
      sym
      (bit-of_bits (size_of m) g i l ∙ ap (λ (n : ℕ). n % 2) (stream-word f i h l) ∙ bit-mod-two (gather_of 64 m (get_or ws f 0)) i))

  -- the first word's field, in a cursor that has written nothing
  pub pack-begins : {size field : ℕ} → 0 < length ws → size ≡ size_of m → (w : size < 64) → field ≡ gather_of 64 m (get_or ws 0 0)
      → Holds stream (size_of m * 1) (record { word = 0; held = size; pending = field; within = w }) old old
  pack-begins {size} h e w f = record {
    at = omega arith;
    bits = f ∙ rw (e) (field-bits 0 h ∙ of_bits-same (size_of m) (λ i. stream (size_of m * 0 + i)) (λ i. stream (64 * 0 + i))
        (λ i _. let q : size_of m * 0 + i ≡ 64 * 0 + i = omega arith in ap stream q));
    words = fill_none (word_at stream) old;
  }

  pub pack-turn : {i : ℕ} {c r : Cursor} {size field : ℕ} {before after : List ℕ} → i < length ws → Holds stream (size_of m * i) c old before
      → size ≡ size_of m → field ≡ gather_of 64 m (get_or ws i 0) → Puts c size field before r after → Holds stream (size_of m * (i + 1)) r old after
  pack-turn {i} {c} {r} {size} {field} {before} {after} h inv e f p =
      let n : size_of m * i + size ≡ size_of m * (i + 1) = omega arith in
      rw n at (p.next stream (size_of m * i) old inv (f ∙ rw e (field-bits i h)))

  pub pair_turn : {i : ℕ} {c r : Cursor} {size : ℕ} {pair : Pair} {before after : List ℕ} → i + 1 < length ws → Holds stream (size_of m * i) c old before
      → size ≡ size_of m → Gathers m ws i pair → PutsPair c size pair before r after → Holds stream (size_of m * (i + 2)) r old after
  pair_turn {i} h inv e g p =
      let n : i + 1 + 1 ≡ i + 2 = omega arith in
      rw n at (pack-turn h (pack-turn (omega arith) inv e g.low p.low) e g.high p.high)

  module _ (fits : needed (size_of m * length ws) ≤ length old) where
    -- room for two fields
    pub pair-room : (i : ℕ) {c : Cursor} {size : ℕ} {out : List ℕ} → i + 1 < length ws → Holds stream (size_of m * i) c old out → size ≡ size_of m
        → 64 * c.word + c.held + (size + size) ≤ 64 * length out
    pair-room i {c} h inv e =
        omega (
          arith,
          inv.at,
          next_field (size_of m) i (length ws) (omega arith),
          next_field (size_of m) (i + 1) (length ws) h,
          length-overwritten (word_at stream) c.word old,
          ap length inv.words,
        )

    module _ {c : Cursor} {out : List ℕ} (inv : Holds stream (size_of m * length ws) c old out) where
      pub last-room : (c.held ≡ 0 → ⊥) → c.word < length out
      last-room z = omega (arith, inv.at, z, length-overwritten (word_at stream) c.word old, ap length inv.words)

      -- the last word is filled up with zeros
      last_word : c.pending ≡ word_at stream c.word
      unfolding word_at
      last_word =
          let g : ℕ → ℕ = λ i. stream (64 * c.word + i) in
          let e : c.held + (64 - c.held) ≡ 64 = omega (arith, c.within) in
          let z = of_bits-none (64 - c.held) (λ i. g (c.held + i))
          (λ i _. stream_end (size_of m) (fields_of m ws) (64 * c.word + (c.held + i))
          (omega (arith, inv.at, ap (λ (n : ℕ). size_of m * n) (length-map ws (gather_of 64 m)))))
          in
          inv.bits
          ∙ sym
          (ap (λ (n : ℕ). of_bits n g) (sym e)
          ∙ of_bits-add c.held (64 - c.held) g
          ∙ omega (arith, ap (λ (n : ℕ). n * 2 ^ c.held) z))

      -- the last word is full, or written now
      pub pack-finished : finished c out ≡ pack_into m ws old
      unfolding pack_into
      pack-finished = by_cases (ℕ_discrete c.held 0)
        where
          by_cases : Dec (c.held ≡ 0) → finished c out ≡ pack_into m ws old
          by_cases (yes z) =
              let n : c.word ≡ needed (size_of m * length ws) = omega (arith, inv.at) in
              rw (eq-eqb c.held 0 z) (inv.words ∙ ap (λ (j : ℕ). overwritten j (word_at stream) old) n)
          by_cases (no z) =
              let n : c.word + 1 ≡ needed (size_of m * length ws) = omega (arith, inv.at, c.within, z) in
              rw (ne_eqb c.held 0 z)
              (fill-next (word_at stream) c.word old (last-room z) inv.words last_word
              ∙ ap (λ (j : ℕ). overwritten j (word_at stream) old) n)

-- Unpacking.

module _ (m : ℕ) (ps : List ℕ) where
  pub unpack-starts : {c : Cursor} → IsStart c → Awaits ps (size_of m * 0) c
  unfolding of_bits
  unpack-starts {c} s = record { at = omega (arith, s.word, s.held); bits = rw (s.pending, s.held) refl }

  pub unpack-room : {len i : ℕ} {c : Cursor} {size : ℕ} → needed (size_of m * len) ≤ length ps → i < len → Awaits ps (size_of m * i) c → size ≡ size_of m
      → c.held < size → c.word < length ps
  unpack-room {len} {i} {c} fits h inv e l = omega (arith, inv.at, next_field (size_of m) i len h)

  module _ (i : ℕ) {c : Cursor} {size x : ℕ} {r : Cursor} (inv : Awaits ps (size_of m * i) c) (e : size ≡ size_of m) (t : Takes ps c size x r) where
    pub unpack-turn : Awaits ps (size_of m * (i + 1)) r
    unpack-turn =
        let n : size_of m * i + size ≡ size_of m * (i + 1) = omega arith in
        rw n at (t.next (size_of m * i) inv)

    pub unpack-field : scatter_of 64 m x ≡ scattered_at m ps i
    unpack-field =
        let n : size_of m * i ≡ i * size_of m = omega arith in
        scatter-read ps m i n (rw e at (t.field (size_of m * i) inv))
