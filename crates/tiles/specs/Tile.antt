-- Tiles of 8 by 8 bits, of paper 02, Req 05. Assumes nothing.
use Rattle.std.specs.Prelude.{◌≡◌, ℕ, ◌+◌, ◌-◌, ◌*◌, ◌/◌, ◌%◌, ◌<◌}
use Rattle.bits.specs.Bit.{up_to, put}

-- A rule: the row and the column to which the bit of row r, column c goes
abbrev pub Rule : Type 0
Rule = ℕ → ℕ → ℕ × ℕ

-- "Row r, column c goes to row c, column r in transpose"
abbrev pub transpose_rule : Rule
transpose_rule r c = (c, r)

-- "to row c, column 7 - r in the left turn"
abbrev pub left_rule : Rule
left_rule r c = (c, 7 - r)

-- "to row 7 - c, column r in the right turn"
abbrev pub right_rule : Rule
right_rule r c = (7 - c, r)

-- "The mirrors replace c by 7 - c"
abbrev pub columns_rule : Rule
columns_rule r c = (r, 7 - c)

-- "or r by 7 - r"
abbrev pub rows_rule : Rule
rows_rule r c = (7 - r, c)

-- "A tile is one word; row r is byte r counted from the right, row 0 on top, and column c is line c of that byte, column 7 at the left": the place of a bit
abbrev pub place_in : ℕ × ℕ → ℕ
place_in at = 8 * at.0 + at.1

-- the place to which a rule takes the bit at place p
abbrev pub goes_to : Rule → ℕ → ℕ
goes_to f p = place_in (f (p / 8) (p % 8))

-- the tile whose bit at the row and column that f gives for r and c is bit 8×r + c of x
unfoldable pub moved : Rule → ℕ → ℕ
moved f x = put (up_to 64 (goes_to f)) x

-- one rule and then another
abbrev pub after : Rule → Rule → Rule
after g f r c = g (f r c).0 (f r c).1

-- f keeps every bit in the tile, and g takes each back to where it was
abbrev pub TakesBack : Rule → Rule → Type 0
TakesBack g f = (r c : ℕ) → r < 8 → c < 8 → ((f r c).0 < 8) × ((f r c).1 < 8) × (after g f r c ≡ (r, c))

abbrev pub Inverse : Rule → Rule → Type 0
Inverse f g = TakesBack g f × TakesBack f g
