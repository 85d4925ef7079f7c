-- Theorems on pack and unpack: unpack after pack, pack after unpack, and what of the packed words unpack tells apart. Assumes nothing.
use mathlib.Core.Path.{◌≡◌, sym, ◌∙◌, ap, ap₂}
use mathlib.Core.Bool.{not, ◌||◌}
use mathlib.Core.List.{List, [], ◌∷◌, ◌++◌, append-nil, map}
use Prim.Native.Nat.{ℕ, ◌+◌, ◌-◌, ◌*◌, ◌/◌, ◌%◌, ◌^◌, ◌<◌, ◌≤◌}
use native.Mathlib.Omega.{arith}
use native.Mathlib.Decide.{dec_lt}
use native.Mathlib.Nat.{mod-eq_of_lt}
use lib.Bits.{bit_and}
use lib.Dec.{eqb, ltb}
use lib.ListN.{length, get_or, take, drop, length-map, length-append, length-drop, drop_of_length-le}
use lib.Seq.{ext_get_or, get_or-take, take_at, drop_at, length-take-le}
use borrow.Author.Tests.{le-ltb}
use Rattle.bits.specs.Bit.{bit, up_to, overwritten}
use Rattle.bits.specs.Refusal.{lowest, left_of}
use Rattle.bits.proofs.Word.{of_bits-lt, of_bits-same, ext}
use Rattle.bits.proofs.Places.{pick-marked-lt}
use Rattle.bits.proofs.UpTo.{length-up_to, get_or-up_to, up_to-same, map_at}
use Rattle.gather.specs.Gather.{gather_of, scatter_of}
use Rattle.gather.proofs.Theorems.{scatter-gather, gather-scatter}
use Rattle.pack.specs.Fields.{size_of, needed, cut, fields_of, stream_of, word_at, pack_into, packed_bit, spare_bits, field_at, scattered_at, unpack_into}
use Rattle.pack.specs.Calls.{fields_refusal, unpack_refusal, fields_answer, pack_answer, packed_out, unpack_answer, unpacked_out}
use Rattle.bits.proofs.FilledLists.{length-overwritten}
use Rattle.bits.proofs.Refusals.{left-done}
use Rattle.pack.proofs.Reading.{bit-packed, word-bits}
use Rattle.pack.proofs.SpareWords.{spare-bit}
use Rattle.pack.proofs.Turns.{stream-word, stream_end, next_field}
use Rattle.pack.proofs.FieldAnswers.{InLimits, within, by-none, unpack-within, by-none-spare, answer-done, answer-refusal, length_cut, cut-room}
use Rattle.pack.proofs.Theorems.{field-place, packed-bit, pack-spare}

module _ (m : ℕ) (ws out : List ℕ) where
  -- a field is read as it was written
  field_back : (f : ℕ) → f < length ws → field_at (size_of m) (pack_into m ws out) f ≡ gather_of 64 m (get_or ws f 0)
  unfolding field_at gather_of
  field_back f h =
      let ps = pack_into m ws out in
      ext (size_of m) (of_bits-lt (size_of m) (λ i. packed_bit ps (f * size_of m + i))) (pick-marked-lt m 64 (get_or ws f 0))
      (λ i l.
      let e : f * size_of m + i ≡ size_of m * f + i = omega arith in
      bit-packed ps (size_of m) (f * size_of m) i l ∙ ap (packed_bit ps) e ∙ packed-bit m ws out f i h l)

  -- and comes back scattered
  words_back : m < 2 ^ 64 → up_to (length ws) (scattered_at m (pack_into m ws out)) ≡ map (λ x. bit_and x m) ws
  unfolding scattered_at
  words_back hm =
      let ps = pack_into m ws out in
      ext_get_or 0 (up_to (length ws) (scattered_at m ps)) (map (λ x. bit_and x m) ws)
      (length-up_to (scattered_at m ps) (length ws) ∙ sym (length-map ws (λ x. bit_and x m)))
      (λ f h.
      let l : f < length ws = omega (arith, length-up_to (scattered_at m ps) (length ws)) in
      get_or-up_to (scattered_at m ps) (length ws) f l
      ∙ ap (scatter_of 64 m) (field_back f l)
      ∙ scatter-gather 64 m (get_or ws f 0) hm
      ∙ sym (map_at (λ x. bit_and x m) ws f l))

-- Unpack after pack on the same mask, a and b: words a to b-1 are those packed with unmarked bits zero, whatever stood there and among the packed words
-- before; the other words are as they were.
pub unpack-pack : (m : ℕ) → m < 2 ^ 64 → (a b : ℕ) (ws : List ℕ) → a ≤ b → b ≤ length ws → (out ys : List ℕ)
    → unpack_into m (pack_into m (cut a b ws) out) a b ys ≡ take a ys ++ (map (λ x. bit_and x m) (cut a b ws) ++ drop b ys)
unfolding unpack_into
unpack-pack m hm a b ws h l out ys =
    let n = length_cut a b ws h l in
    ap (λ (zs : List ℕ). take a ys ++ (zs ++ drop b ys))
    (ap (λ (c : ℕ). up_to c (scattered_at m (pack_into m (cut a b ws) out))) (sym n) ∙ words_back m (cut a b ws) out hm)

-- The same of the calls, with the answers: if pack is carried out, unpack of what it left, into words that b and the limit allow, is carried out too.
module _ (m : ℕ) (hm : m < 2 ^ 64) (ws out : List ℕ) (a b : ℕ) (h : (pack_answer m ws a b out).refusal ≡ 0) where
  number : fields_refusal (size_of m) a b (length ws) (length out) ≡ 0
  number = sym (answer-refusal (fields_refusal (size_of m) a b (length ws) (length out)) (size_of m) a b) ∙ h

  allowed : InLimits (size_of m) a b (length ws) (length out)
  allowed = within (size_of m) a b (length ws) (length out) number

  packed-is : packed_out m ws a b out ≡ pack_into m (cut a b ws) out
  packed-is = left-done number (pack_into m (cut a b ws) out) out

  -- pack leaves as many words as there were
  length-packed : length (packed_out m ws a b out) ≡ length out
  unfolding pack_into
  length-packed =
      let w = allowed in
      let s = word_at (stream_of m (cut a b ws)) in
      let r = cut-room a b ws w.start w.end (size_of m) w.room in
      ap length packed-is ∙ length-overwritten s (needed (size_of m * length (cut a b ws))) out ∙ omega arith

  pub calls-unpack-pack : (ys : List ℕ) → b ≤ length ys → length ys ≤ 2048
      → (unpack_answer m (packed_out m ws a b out) a b ys ≡ record { refusal = 0; count = size_of m; bits = size_of m * (b - a) })
      × (unpacked_out m (packed_out m ws a b out) a b ys ≡ take a ys ++ (map (λ x. bit_and x m) (cut a b ws) ++ drop b ys))
  calls-unpack-pack ys l u =
      let w = allowed in
      let ps = packed_out m ws a b out in
      let z : unpack_refusal (size_of m) a b (length ys) ps ≡ 0 =
      sym
      (by-none-spare (size_of m) a b (length ys) ps
      (record { start = w.start; end = l; own-limit = u; other-limit = omega (arith, length-packed, w.other-limit); room = omega (arith, length-packed, w.room) })
      (ap (spare_bits (size_of m * (b - a))) packed-is ∙ pack-spare m a b ws out w.start w.end))
      in (
        sym (answer-done (unpack_refusal (size_of m) a b (length ys) ps) (size_of m) a b z),
        left-done z (unpack_into m ps a b ys) ys
            ∙ ap (λ (qs : List ℕ). unpack_into m qs a b ys) packed-is
            ∙ unpack-pack m hm a b ws w.start w.end out ys,
      )

-- how many words the fields of words a to b-1 need: those that unpack reads
abbrev pub words_read : ℕ → ℕ → ℕ → ℕ
words_read m a b = needed (size_of m * (b - a))

-- Req 02: "pack after unpack, with the same mask, a and b, returns the words read", whatever stood after them and where they come.

module _ (m : ℕ) (ps : List ℕ) (fit : (j : ℕ) → get_or ps j 0 < 2 ^ 64) where
  -- d fields read and written, where the spare bits are zero
  module _ (d : ℕ) (l : needed (size_of m * d) ≤ length ps) (clean : spare_bits (size_of m * d) ps ≡ 0) where
    abbrev written : List ℕ
    written = up_to d (scattered_at m ps)

    -- gathered, a field is as it was read
    gathered-back : (f : ℕ) → gather_of 64 m (scattered_at m ps f) ≡ field_at (size_of m) ps f
    unfolding scattered_at field_at
    gathered-back f =
        gather-scatter 64 m (field_at (size_of m) ps f) ∙ mod-eq_of_lt (of_bits-lt (size_of m) (λ i. packed_bit ps (f * size_of m + i)))

    -- the stream of the words written is that of the words read, to the end of the last one
    stream-back : (n : ℕ) → n < 64 * needed (size_of m * d) → stream_of m written n ≡ packed_bit ps n
    unfolding field_at
    stream-back n h = by (dec_lt n (size_of m * d))
      where
        by : Dec (n < size_of m * d) → stream_of m written n ≡ packed_bit ps n
        by (yes u) =
            let k = size_of m in
            let q = n / k in
            let p = field-place k d n u in
            let v : q < length written = omega (arith, length-up_to (scattered_at m ps) d, p.0) in
            let e : q * k + n % k ≡ n = omega (arith, p.2) in
            ap (stream_of m written) p.2
            ∙ stream-word m written [] q (n % k) v p.1
            ∙ ap (λ (x : ℕ). bit (gather_of 64 m x) (n % k)) (get_or-up_to (scattered_at m ps) d q p.0)
            ∙ ap (λ (x : ℕ). bit x (n % k)) (gathered-back q)
            ∙ bit-packed ps k (q * k) (n % k) p.1
            ∙ ap (packed_bit ps) e
        by (no u) =
            let e = ap (λ (c : ℕ). size_of m * c) (length-map written (gather_of 64 m) ∙ length-up_to (scattered_at m ps) d) in
            stream_end (size_of m) (fields_of m written) n (omega (arith, e))
            ∙ sym (spare-bit (size_of m * d) ps clean n (omega arith) h)

    -- so each word is
    word_back : (j : ℕ) → j < needed (size_of m * d) → word_at (stream_of m written) j ≡ get_or ps j 0
    unfolding word_at
    word_back j h =
        of_bits-same 64 (λ i. stream_of m written (64 * j + i)) (λ i. packed_bit ps (64 * j + i)) (λ i u. stream-back (64 * j + i) (omega arith))
        ∙ sym (word-bits ps j (fit j))

    read_back : (ys : List ℕ) → pack_into m written ys ≡ take (needed (size_of m * d)) ps ++ drop (needed (size_of m * d)) ys
    unfolding pack_into
    read_back ys =
        let c = needed (size_of m * d) in
        let s = word_at (stream_of m written) in
        let t = length-take-le c ps l in
        ap (λ (n : ℕ). overwritten (needed (size_of m * n)) s ys) (length-up_to (scattered_at m ps) d)
        ∙ ap (λ (zs : List ℕ). zs ++ drop c ys)
        (ext_get_or 0 (up_to c s) (take c ps) (length-up_to s c ∙ sym t)
        (λ j h.
        let u : j < c = omega (arith, length-up_to s c) in
        get_or-up_to s c j u ∙ word_back j u ∙ sym (get_or-take c ps j 0 u)))

  module _ (a b : ℕ) (out : List ℕ) (h : a ≤ b) (l : b ≤ length out) where
    -- what unpack leaves from a up to b
    cut-unpacked : cut a b (unpack_into m ps a b out) ≡ up_to (b - a) (scattered_at m ps)
    unfolding unpack_into
    cut-unpacked =
        let f = scattered_at m ps in
        ap (take (b - a)) (drop_at (take a out) (up_to (b - a) f ++ drop b out) a (length-take-le a out (omega arith)))
        ∙ take_at (up_to (b - a) f) (drop b out) (b - a) (length-up_to f (b - a))

    length-unpacked : length (unpack_into m ps a b out) ≡ length out
    unfolding unpack_into
    length-unpacked =
        let f = scattered_at m ps in
        length-append (take a out) (up_to (b - a) f ++ drop b out)
        ∙ omega (arith, length-take-le a out (omega arith), length-append (up_to (b - a) f) (drop b out), length-up_to f (b - a), length-drop b out)

    pub pack-unpack : words_read m a b ≤ length ps → spare_bits (size_of m * (b - a)) ps ≡ 0 → (ys : List ℕ)
        → pack_into m (cut a b (unpack_into m ps a b out)) ys ≡ take (words_read m a b) ps ++ drop (words_read m a b) ys
    pack-unpack r clean ys = ap (λ (ws : List ℕ). pack_into m ws ys) cut-unpacked ∙ read_back (b - a) r clean ys

  -- The same of the calls: if unpack is carried out, so is pack of what it left, into words enough, and answers what unpack answered.
  module _ (a b : ℕ) (out : List ℕ) (h : (unpack_answer m ps a b out).refusal ≡ 0) where
    unpack-number-is : unpack_refusal (size_of m) a b (length out) ps ≡ 0
    unpack-number-is = sym (answer-refusal (unpack_refusal (size_of m) a b (length out) ps) (size_of m) a b) ∙ h

    unpack-allowed : InLimits (size_of m) a b (length out) (length ps) × (spare_bits (size_of m * (b - a)) ps ≡ 0)
    unpack-allowed = unpack-within (size_of m) a b (length out) ps unpack-number-is

    unpacked-is : unpacked_out m ps a b out ≡ unpack_into m ps a b out
    unpacked-is = left-done unpack-number-is (unpack_into m ps a b out) out

    pack-back : (ys : List ℕ)
        → pack_into m (cut a b (unpacked_out m ps a b out)) ys ≡ take (words_read m a b) ps ++ drop (words_read m a b) ys
    pack-back ys =
        let w = unpack-allowed in
        ap (λ (ws : List ℕ). pack_into m (cut a b ws) ys) unpacked-is
        ∙ pack-unpack a b out w.0.start w.0.end w.0.room w.1 ys

    pub calls-pack-unpack : (ys : List ℕ) → words_read m a b ≤ length ys → length ys ≤ 2048
        → (pack_answer m (unpacked_out m ps a b out) a b ys ≡ unpack_answer m ps a b out)
        × (packed_out m (unpacked_out m ps a b out) a b ys ≡ take (words_read m a b) ps ++ drop (words_read m a b) ys)
    calls-pack-unpack ys r u =
        let w = unpack-allowed.0 in
        let ws = unpacked_out m ps a b out in
        let e = ap length unpacked-is ∙ length-unpacked a b out w.start w.end in
        let z : fields_refusal (size_of m) a b (length ws) (length ys) ≡ 0 =
        sym
        (by-none (size_of m) a b (length ws) (length ys)
        (record { start = w.start; end = omega (arith, e, w.end); own-limit = omega (arith, e, w.own-limit); other-limit = u; room = r }))
        in
        (ap (λ (n : ℕ). fields_answer n (size_of m) a b) (z ∙ sym unpack-number-is), left-done z (pack_into m (cut a b ws) ys) ys ∙ pack-back ys)

-- Unpack is injective on what it accepts: packed words that it accepts by one mask, a and b, and that leave the same words from a up to b, agree in every word
-- read.
pub calls-unpack-injective : (m a b : ℕ) (ps : List ℕ) → ((j : ℕ) → get_or ps j 0 < 2 ^ 64) → (qs : List ℕ) → ((j : ℕ) → get_or qs j 0 < 2 ^ 64)
    → (out ys : List ℕ) → (unpack_answer m ps a b out).refusal ≡ 0 → (unpack_answer m qs a b ys).refusal ≡ 0
    → cut a b (unpacked_out m ps a b out) ≡ cut a b (unpacked_out m qs a b ys)
    → take (words_read m a b) ps ≡ take (words_read m a b) qs
calls-unpack-injective m a b ps f qs g out ys h k e =
    let c = words_read m a b in
    let none : (zs : List ℕ) → zs ++ drop c [] ≡ zs = λ zs. ap (λ (l : List ℕ). zs ++ l) (drop_of_length-le [] {i = c} (omega arith)) ∙ append-nil zs in
    sym (none (take c ps))
    ∙ sym (pack-back m ps f a b out h [])
    ∙ ap (λ (ws : List ℕ). pack_into m ws []) e
    ∙ pack-back m qs g a b ys k []
    ∙ none (take c qs)

-- "Words beyond the last one read stay free": of the packed words unpack's outcome, refused or not, depends on those read alone, if there are as many and none
-- too many.
module _ (m a b : ℕ) (ps qs : List ℕ) (e : take (words_read m a b) ps ≡ take (words_read m a b) qs) where
  same_bit : (n : ℕ) → n < 64 * words_read m a b → packed_bit ps n ≡ packed_bit qs n
  unfolding packed_bit
  same_bit n h =
      let c = words_read m a b in
      let l : n / 64 < c = omega arith in
      ap (λ (x : ℕ). bit x (n % 64))
      (sym (get_or-take c ps (n / 64) 0 l) ∙ ap (λ (ws : List ℕ). get_or ws (n / 64) 0) e ∙ get_or-take c qs (n / 64) 0 l)

  same-spare : spare_bits (size_of m * (b - a)) ps ≡ spare_bits (size_of m * (b - a)) qs
  unfolding spare_bits
  same-spare =
      let n = size_of m * (b - a) in
      of_bits-same (64 * needed n - n) (λ i. packed_bit ps (n + i)) (λ i. packed_bit qs (n + i)) (λ i l. same_bit (n + i) (omega arith))

  same-fields : (out : List ℕ) → unpack_into m ps a b out ≡ unpack_into m qs a b out
  unfolding unpack_into scattered_at field_at
  same-fields out =
      ap (λ (l : List ℕ). take a out ++ (l ++ drop b out))
      (up_to-same (b - a) (scattered_at m ps) (scattered_at m qs)
      (λ f h.
      ap (scatter_of 64 m)
      (of_bits-same (size_of m) (λ i. packed_bit ps (f * size_of m + i)) (λ i. packed_bit qs (f * size_of m + i))
      (λ i l. same_bit (f * size_of m + i) (omega (arith, next_field (size_of m) f (b - a) h))))))

  module _ (out : List ℕ) (h : words_read m a b ≤ length ps) (k : words_read m a b ≤ length qs) (u : length ps ≤ 2048) (v : length qs ≤ 2048) where
    same-refusal : unpack_refusal (size_of m) a b (length out) ps ≡ unpack_refusal (size_of m) a b (length out) qs
    unfolding unpack_refusal
    same-refusal =
        let c = words_read m a b in
        let long = le-ltb 2048 (length ps) u ∙ sym (le-ltb 2048 (length qs) v) in
        let short = le-ltb (length ps) c h ∙ sym (le-ltb (length qs) c k) in
        λ i. lowest
        ((9, ltb b a || (ltb (length out) b || (ltb 2048 (length out) || long i))) ∷ (10, short i) ∷ (11, not (eqb (same-spare i) 0)) ∷ [])

    pub calls-unpack-beyond : (unpack_answer m ps a b out ≡ unpack_answer m qs a b out) × (unpacked_out m ps a b out ≡ unpacked_out m qs a b out)
    calls-unpack-beyond = (
      ap (λ (n : ℕ). fields_answer n (size_of m) a b) same-refusal,
      ap₂ (λ (n : ℕ) (l : List ℕ). left_of n l out) same-refusal (same-fields out),
    )
