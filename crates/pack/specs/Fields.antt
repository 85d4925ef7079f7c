-- Packed fields of paper 01, 'Strips' (a "strip" is a list of words here). Assumes nothing.
use Rattle.std.specs.Prelude.{ℕ, ◌+◌, ◌-◌, ◌*◌, ◌/◌, ◌%◌, cond, List, ◌++◌, map, ltb, length, get_or, take, drop}
use Rattle.bits.specs.Bit.{bit, of_bits, rank, up_to, overwritten}
use Rattle.gather.specs.Gather.{gather_of, scatter_of}

-- k, how many bits a field of the mask has
abbrev pub size_of : ℕ → ℕ
size_of m = rank m 64

-- how many words n bits need
abbrev pub needed : ℕ → ℕ
needed n = (n + 63) / 64

-- "It reads the words from number a up to, not including, number b."
abbrev pub cut : ℕ → ℕ → List ℕ → List ℕ
cut a b ws = take (b - a) (drop a ws)

-- "Each word's k gathered bits form a field."
abbrev pub fields_of : ℕ → List ℕ → List ℕ
fields_of m ws = map (gather_of 64 m) ws

-- "Field 0 begins at bit 0 of word 0 of the second strip. The next field begins at the bit after the last one": bit n of the stream of fields of k
-- bits is bit n % k of field n / k; zero after the last field
unfoldable pub stream_bit : ℕ → List ℕ → ℕ → ℕ
stream_bit k fs n = cond (ltb n (k * length fs)) (bit (get_or fs (n / k) 0) (n % k)) 0

-- the stream of the fields of the words
abbrev pub stream_of : ℕ → List ℕ → ℕ → ℕ
stream_of m ws = stream_bit (size_of m) (fields_of m ws)

-- ".. crossing into the next word where needed": bit n stands in word n / 64 at place n % 64, so this is word j of a stream s
unfoldable pub word_at : (ℕ → ℕ) → ℕ → ℕ
word_at s j = of_bits 64 (λ i. s (64 * j + i))

-- bit n of packed words
unfoldable pub packed_bit : List ℕ → ℕ → ℕ
packed_bit ps n = bit (get_or ps (n / 64) 0) (n % 64)

-- The words `out` after pack of the words ws. "Spare bits of the last word written become zero; words after it keep their values."
unfoldable pub pack_into : ℕ → List ℕ → List ℕ → List ℕ
pack_into m ws out = overwritten (needed (size_of m * length ws)) (word_at (stream_of m ws)) out

-- "Spare bits of the last word" (papers 01 and 02) of those that hold n bits, as a number: the bits from n to its end. There are none if n is a multiple of 64.
unfoldable pub spare_bits : ℕ → List ℕ → ℕ
spare_bits n ps = of_bits (64 * needed n - n) (λ i. packed_bit ps (n + i))

-- "Unpack reads fields so laid from the first strip": field f of k bits
unfoldable pub field_at : ℕ → List ℕ → ℕ → ℕ
field_at k ps f = of_bits k (λ i. packed_bit ps (f * k + i))

-- field f scattered
unfoldable pub scattered_at : ℕ → List ℕ → ℕ → ℕ
scattered_at m ps f = scatter_of 64 m (field_at (size_of m) ps f)

-- The words `out` after unpack, which "writes each scattered into words a to b-1 of the second, and keeps its other words"
unfoldable pub unpack_into : ℕ → List ℕ → ℕ → ℕ → List ℕ → List ℕ
unpack_into m ps a b out = take a out ++ (up_to (b - a) (scattered_at m ps) ++ drop b out)
