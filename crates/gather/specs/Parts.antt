-- Words in parts of equal size, and what gather and scatter compute on all parts at once. Internal: no answer of a call cites it; `gather-bytes` and
-- `scatter-bytes` do. Assumes nothing.
use Rattle.std.specs.Prelude.{ℕ, zero, suc, ◌+◌, ◌-◌, ◌*◌, ◌/◌, ◌%◌, ◌^◌}
use Rattle.std.specs.Int.Bits.{bit_and, bit_or, bit_xor}
use Rattle.bits.specs.Bit.{rank}
use Rattle.gather.specs.Gather.{gather_of, scatter_of}

-- the word of n parts of k bits whose part j is f of what is left of m and x from bit k×j up
unfoldable pub in_parts : ℕ → ℕ → (ℕ → ℕ → ℕ) → ℕ → ℕ → ℕ
in_parts k zero f m x = zero
in_parts k (suc n) f m x = in_parts k n f (m / 2 ^ k) (x / 2 ^ k) * 2 ^ k + f m x

-- the marked places of each part of s bits
abbrev pub counts_of : ℕ → ℕ → ℕ → ℕ
counts_of s n m = in_parts s n (λ m x. rank m s) m 0

-- in parts of 2s bits, the unmarked places of each lower half: so far down the upper half moves
abbrev pub gaps_of : ℕ → ℕ → ℕ → ℕ
gaps_of s n m = in_parts (s + s) n (λ m x. s - rank m s) m 0

-- each part of s bits gathered by its part of the mask, or scattered
abbrev pub gather_parts : ℕ → ℕ → ℕ → ℕ → ℕ
gather_parts s n m x = in_parts s n (gather_of s) m x

abbrev pub scatter_parts : ℕ → ℕ → ℕ → ℕ → ℕ
scatter_parts s n m x = in_parts s n (scatter_of s) m x

-- n bytes: each begins with the bits of x that its part of the mask is to take, whatever follows them
unfoldable pub dealt : ℕ → ℕ → ℕ → ℕ
dealt zero m x = zero
dealt (suc n) m x = dealt n (m / 2 ^ 8) (x / 2 ^ rank m 8) * 2 ^ 8 + x % 2 ^ 8

-- the bits of x that w marks, d places down; the places that w marks take the bits of x that are d places below
abbrev pub down : ℕ → ℕ → ℕ → ℕ
down d w x = bit_or (bit_xor x (bit_and x w)) (bit_and x w / 2 ^ d)

abbrev pub up : ℕ → ℕ → ℕ → ℕ
up d w x = bit_xor x (bit_and (bit_xor x (x * 2 ^ d % 2 ^ 64)) w)
