-- What moving a window on does. Internal: no answer of a call cites it. Assumes nothing.
use Rattle.std.specs.Prelude.{◌≡◌, List, ℕ, ◌+◌, ◌-◌, ◌*◌, ◌%◌, ◌^◌, ◌<◌, ◌≤◌, length, get_or}
use Rattle.bits.specs.Bit.{bit, of_bits}
use Rattle.despeckle.specs.Plane.{window, lit_rule}

-- the entries are those of the rule
pub record IsTable (t : List ℕ) : Type 0 where
  pub entry : (n : ℕ) → n < 512 → get_or t n 0 ≡ lit_rule n

-- the words are h rows of v words, neither many
pub record IsPlane (ws : List ℕ) (h v : ℕ) : Type 0 where
  pub rows-limit : h ≤ 2048
  pub words-limit : v ≤ 2048
  pub whole : v * h ≡ length ws

-- the lowest bits of three words at bits 6, 3 and 0
abbrev pub column_of : ℕ → ℕ → ℕ → ℕ
column_of above own below = above % 2 * 2 ^ 6 + (own % 2 * 2 ^ 3 + below % 2)

-- Whatever the pixels g: a window and the column after it make the window one column on.
pub record Slides (number column r : ℕ) : Type 0 where
  pub next : (g : ℕ → ℕ → ℕ) (y x : ℕ) → number ≡ window g y x → column ≡ column_of (g y (x + 3)) (g (y + 1) (x + 3)) (g (y + 2) (x + 3))
      → r ≡ window g y (x + 1)

-- the low n bits of three words are n columns of g from x on, the leftmost in the highest
pub record Columns (n : ℕ) (g : ℕ → ℕ → ℕ) (y x above own below : ℕ) : Type 0 where
  pub above_at : (i : ℕ) → i < n → bit above i ≡ g y (x + (n - 1 - i))
  pub own_at : (i : ℕ) → i < n → bit own i ≡ g (y + 1) (x + (n - 1 - i))
  pub below_at : (i : ℕ) → i < n → bit below i ≡ g (y + 2) (x + (n - 1 - i))

-- A window moved on by n columns, which stand in the low bits of three words: its number there, and the new pixels of the columns passed.
pub record Passes (n start above own below number word : ℕ) : Type 0 where
  pub fits : word < 2 ^ n
  pub passed : (g : ℕ → ℕ → ℕ) (y x : ℕ) → start ≡ window g y x → Columns n g y (x + 3) above own below
      → (number ≡ window g y (x + n)) × (word ≡ of_bits n (λ i. lit_rule (window g y (x + (n - 1 - i)))))
