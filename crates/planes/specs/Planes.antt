-- Bit planes of paper 02, Req 03. Assumes nothing.
use Rattle.std.specs.Prelude.{ℕ, ◌+◌, ◌*◌, ◌/◌, ◌%◌, ◌^◌, List, get_or}
use Rattle.bits.specs.Bit.{bit, of_bits, up_to}

-- "Take eight words, sixty-four bytes, byte 0 in the low end of word 0": byte n is byte n % 8 of word n / 8, counted from its low end
unfoldable pub byte_of : List ℕ → ℕ → ℕ
byte_of ws n = get_or ws (n / 8) 0 / 2 ^ (8 * (n % 8)) % 2 ^ 8

-- "Bit p of byte n becomes line n of plane p": bit n of plane p is bit p of byte n
unfoldable pub planes_of : List ℕ → List ℕ
planes_of ws = up_to 8 (λ p. of_bits 64 (λ n. bit (byte_of ws n) p))

-- "and the way back is wanted too": bit i of word k is bit i % 8 of byte 8×k + i / 8, so it comes from plane i % 8, bit 8×k + i / 8
unfoldable pub words_of_planes : List ℕ → List ℕ
words_of_planes ps = up_to 8 (λ k. of_bits 64 (λ i. bit (get_or ps (i % 8) 0) (8 * k + i / 8)))
