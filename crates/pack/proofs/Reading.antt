-- Taking a field from packed words. Assumes nothing.
use mathlib.Core.Path.{◌≡◌, sym, ◌∙◌, ap, ap₂}
use mathlib.Core.Logic.{◌⊎◌, inl, inr}
use mathlib.Core.List.{List}
use Prim.Native.Nat.{ℕ, ◌+◌, ◌-◌, ◌*◌, ◌/◌, ◌%◌, ◌^◌, ◌<◌, ◌≤◌, min}
use native.Mathlib.Omega.{arith}
use lib.Bits.{bit_or}
use lib.ListN.{get_or}
use Rattle.bits.specs.Bit.{bit, rank, of_bits}
use Rattle.bits.proofs.Word.{bit-mod, bit-mod-two, bit-cases, bit-of_bits, of_bits-lt, of_bits-same, ext}
use Rattle.bits.proofs.Rank.{rank_lt}
use Rattle.gather.specs.Gather.{scatter_of}
use Rattle.gather.proofs.AnyWidth.{scatter-lt}
use Rattle.gather.proofs.Theorems.{bit-scatter}
use Rattle.pack.specs.declared.Cursor.{Cursor}
use Rattle.pack.specs.Fields.{size_of, packed_bit, field_at, scattered_at}
use Rattle.pack.specs.Cursor.{Awaits, Reads}
use Rattle.pack.proofs.Stream.{upper, join-bits, shr-two}

module _ (ps : List ℕ) where
  packed-mod-two : (n : ℕ) → packed_bit ps n % 2 ≡ packed_bit ps n
  unfolding packed_bit
  packed-mod-two n = bit-mod-two (get_or ps (n / 64) 0) (n % 64)

  pub bit-packed : (w n i : ℕ) → i < w → bit (of_bits w (λ j. packed_bit ps (n + j))) i ≡ packed_bit ps (n + i)
  bit-packed w n i h = bit-of_bits w (λ j. packed_bit ps (n + j)) i h ∙ packed-mod-two (n + i)

  -- a word as bits of the stream
  pub word-bits : (j : ℕ) → get_or ps j 0 < 2 ^ 64 → get_or ps j 0 ≡ of_bits 64 (λ i. packed_bit ps (64 * j + i))
  unfolding packed_bit
  word-bits j h =
      ext 64 h (of_bits-lt 64 (λ i. packed_bit ps (64 * j + i)))
      (λ i l.
      let d : j ≡ (64 * j + i) / 64 = omega arith in
      let m : i ≡ (64 * j + i) % 64 = omega arith in
      ap₂ (λ (a b : ℕ). bit (get_or ps a 0) b) d m ∙ sym (bit-packed 64 (64 * j) i l))

  module _ (c : Cursor) (n : ℕ) (h : Awaits ps n c) (size : ℕ) where
    here : ℕ → ℕ
    here i = packed_bit ps (n + i)

    -- the bits held suffice
    module _ (l : size ≤ c.held) where
      pub take-held : (w : c.held - size < 64) → Awaits ps (n + size) (record { word = c.word; held = c.held - size; pending = c.pending / 2 ^ size; within = w })
      unfolding here
      take-held w =
          let r = c.held - size in
          let q : c.held ≡ size + r = omega arith in
          record {
            at = omega (arith, h.at);
            bits = upper size r here (λ i. packed_bit ps (n + size + i)) q h.bits
                (λ i. let v : n + (size + i) ≡ n + size + i = omega arith in ap (packed_bit ps) v);
          }

      pub take-low : Reads ps n size c.pending
      take-low = record { bits = λ i k. ap (λ (x : ℕ). bit x i) h.bits ∙ bit-packed c.held n i (omega arith) }

    -- a further word x is read
    module _ (l : c.held < size) (u : size ≤ 64) {x : ℕ} (e : x ≡ get_or ps c.word 0) (b : x < 2 ^ 64) where
      above : x ≡ of_bits 64 (λ i. here (c.held + i))
      unfolding here
      above =
          e ∙ word-bits c.word (rw e at b)
          ∙ of_bits-same 64 (λ i. packed_bit ps (64 * c.word + i)) (λ i. packed_bit ps (n + (c.held + i)))
          (λ i _. let v : 64 * c.word + i ≡ n + (c.held + i) = omega (arith, h.at) in ap (packed_bit ps) v)

      pub take_next : (w : c.held + 64 - size < 64) → Awaits ps (n + size)
          (record { word = c.word + 1; held = c.held + 64 - size; pending = x / 2 ^ 1 / 2 ^ (size - c.held - 1); within = w })
      unfolding here
      take_next w =
          let d = size - c.held in
          let r = c.held + 64 - size in
          let q : 64 ≡ d + r = omega arith in
          record {
            at = omega (arith, h.at);
            bits = shr-two x d (size - c.held - 1) (omega arith)
                ∙ upper d r (λ i. here (c.held + i)) (λ i. packed_bit ps (n + size + i)) q above
                (λ i. let v : n + (c.held + (d + i)) ≡ n + size + i = omega arith in ap (packed_bit ps) v);
          }

      pub take-joined : Reads ps n size (bit_or c.pending (x * 2 ^ c.held % 2 ^ 64))
      unfolding here
      take-joined =
          let j = ap₂ (λ (p y : ℕ). bit_or p (y * 2 ^ c.held % 2 ^ 64)) h.bits above ∙ join-bits c.held 64 here (omega (arith, c.within)) in
          record {
            bits = λ i k.
                ap (λ (y : ℕ). bit y i) j
                ∙ bit-mod (of_bits (c.held + 64) here) 64 i (omega arith)
                ∙ bit-packed (c.held + 64) n i (omega arith);
          }

  -- Scatter looks at as many bits as the mask marks: those of the field.
  pub scatter-read : (m f : ℕ) {n x : ℕ} → n ≡ f * size_of m → Reads ps n (size_of m) x → scatter_of 64 m x ≡ scattered_at m ps f
  unfolding scattered_at field_at
  scatter-read m f {n} {x} e r =
      ext 64 (scatter-lt m x 64) (scatter-lt m (field_at (size_of m) ps f) 64)
      (λ p l.
      bit-scatter 64 m x p l
      ∙ same p l (bit-cases m p)
      ∙ sym (bit-scatter 64 m (field_at (size_of m) ps f) p l))
    where
      same : (p : ℕ) → p < 64 → (bit m p ≡ 0) ⊎ (bit m p ≡ 1)
          → min (bit m p) (bit x (rank m p)) ≡ min (bit m p) (bit (field_at (size_of m) ps f) (rank m p))
      same p l (inl z) = omega arith
      same p l (inr o) =
          let k = rank_lt m {p = p} {w = 64} o l in
          omega (
            arith,
            r.bits (rank m p) k,
            bit-packed (size_of m) (f * size_of m) (rank m p) k,
            ap (λ (a : ℕ). packed_bit ps (a + rank m p)) e,
          )
