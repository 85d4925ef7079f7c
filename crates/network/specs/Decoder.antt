-- The decoder of paper 01, from a mask to the controls of both networks. Assumes nothing.
use Rattle.std.specs.Prelude.{ℕ, zero, suc, ◌+◌, ◌-◌, ◌*◌, ◌/◌, ◌%◌, ◌^◌, List, map, reverse, drop, get_or}
use Rattle.bits.specs.Bit.{bit, of_bits, rank}
use Rattle.network.specs.Stage.{falling}

-- "each step moves the top bit to the bottom and complements it": d bits turned one step to the left
unfoldable pub turn : ℕ → ℕ → ℕ
turn d x = x % 2 ^ (d - 1) * 2 + (1 - bit x (d - 1))

-- "d zeros turned left c steps"
unfoldable pub turned : ℕ → ℕ → ℕ
turned d zero = zero
turned d (suc c) = turn d (turned d c)

-- "Take a column of distance d and its local right half of number j, lines 2×j×d to 2×j×d + d - 1. Let c be the count of ones of the mask in
-- lines 0 to 2×j×d + d - 1. The d setting bits are d zeros turned left c steps": switch j×d + t is bit t of them
unfoldable pub control_at : ℕ → ℕ → ℕ → ℕ
control_at d m s = bit (turned d (rank m (2 * (s / d) * d + d))) (s % d)

-- the same, by the counts of ones below each bit
abbrev pub control_by : ℕ → List ℕ → ℕ → ℕ
control_by d counts s = bit (turned d (get_or counts (2 * (s / d) * d + d) 0)) (s % d)

-- the control bits of one stage; "a column uses w/2 bits"
unfoldable pub decoded_stage : ℕ → ℕ → ℕ → ℕ
decoded_stage w m d = of_bits (w / 2) (control_at d m)

-- the butterfly's controls in the direction of travel
unfoldable pub decode_of : ℕ → ℕ → List ℕ
decode_of L m = map (decoded_stage (2 ^ L) m) (falling L)

-- of the controls at width 64 the last L stages, and of each the bits in use
abbrev pub in_use : ℕ → List ℕ → List ℕ
in_use L cs = map (λ c. c % 2 ^ 2 ^ (L - 1)) (drop (6 - L) cs)

-- "The inverse gets the same columns in reversed order, each column's bits as they are."
unfoldable pub decode_inverse_of : ℕ → ℕ → List ℕ
decode_inverse_of L m = reverse (decode_of L m)
