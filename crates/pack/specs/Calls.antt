-- What pack and unpack answer, and what they leave in the words lent to them, refused calls included. Assumes nothing.
use Rattle.std.specs.Prelude.{ℕ, ◌-◌, ◌*◌, Bool, not, cond, ◌||◌, List, [], ◌∷◌, ◌++◌, eqb, ltb, length}
use Rattle.bits.specs.Refusal.{lowest, left_of}
use Rattle.pack.specs.declared.Packed.{Packed}
use Rattle.pack.specs.Fields.{size_of, needed, cut, pack_into, spare_bits, unpack_into}

-- 'Calls turned back', for fields of k bits, `own` words that a and b cut, and `other` in the other list:
-- 9, "a above b, b above the length of the strip that a and b cut, or either strip above 2,048 words"; 10, "the other strip shorter than its bits need"
abbrev pub fields_conditions : ℕ → ℕ → ℕ → ℕ → ℕ → List (ℕ × Bool)
fields_conditions k a b own other =
    (9, ltb b a || (ltb own b || (ltb 2048 own || ltb 2048 other))) ∷ (10, ltb other (needed (k * (b - a)))) ∷ []

unfoldable pub fields_refusal : ℕ → ℕ → ℕ → ℕ → ℕ → ℕ
fields_refusal k a b own other = lowest (fields_conditions k a b own other)

-- Unpack, of the packed words ps. Paper 02, Req 02: "the spare bits of the last word that unpack reads must be zero. [..] Words beyond the last one read stay
-- free. New numbers: 11, a spare bit is one, after 10."
abbrev pub unpack_conditions : ℕ → ℕ → ℕ → ℕ → List ℕ → List (ℕ × Bool)
unpack_conditions k a b own ps = fields_conditions k a b own (length ps) ++ ((11, not (eqb (spare_bits (k * (b - a)) ps) 0)) ∷ [])

unfoldable pub unpack_refusal : ℕ → ℕ → ℕ → ℕ → List ℕ → ℕ
unpack_refusal k a b own ps = lowest (unpack_conditions k a b own ps)

-- The answer of a call with refusal n. "The answer is the count of bits, k×(b-a)." Paper 02, Req 01: "Pack and unpack answer [the count of marked lines] too,
-- beside the bits. A refused call shows 0."
unfoldable pub fields_answer : ℕ → ℕ → ℕ → ℕ → Packed
fields_answer n k a b =
    cond (eqb n 0) (record { refusal = 0; count = k; bits = k * (b - a) }) (record { refusal = n; count = 0; bits = 0 })

-- pack: a and b cut the words read
abbrev pub pack_answer : ℕ → List ℕ → ℕ → ℕ → List ℕ → Packed
pack_answer m ws a b out = fields_answer (fields_refusal (size_of m) a b (length ws) (length out)) (size_of m) a b

abbrev pub packed_out : ℕ → List ℕ → ℕ → ℕ → List ℕ → List ℕ
packed_out m ws a b out = left_of (fields_refusal (size_of m) a b (length ws) (length out)) (pack_into m (cut a b ws) out) out

-- unpack: a and b cut the words written
abbrev pub unpack_answer : ℕ → List ℕ → ℕ → ℕ → List ℕ → Packed
unpack_answer m ps a b out = fields_answer (unpack_refusal (size_of m) a b (length out) ps) (size_of m) a b

abbrev pub unpacked_out : ℕ → List ℕ → ℕ → ℕ → List ℕ → List ℕ
unpacked_out m ps a b out = left_of (unpack_refusal (size_of m) a b (length out) ps) (unpack_into m ps a b out) out
