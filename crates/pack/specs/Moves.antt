-- What pack and unpack compute from a mask: how far down each marked bit is gathered, by powers of two. Assumes nothing.
use Rattle.std.specs.Prelude.{◌≡◌, List, ℕ, suc, ◌-◌, ◌%◌, ◌<◌, get_or}
use Rattle.bits.specs.Bit.{bit, rank}

-- bit q of y is the parity of bits 0 to q of x
pub record Parities (x y : ℕ) : Type 0 where
  pub at : (q : ℕ) → q < 64 → bit y q ≡ rank x (suc q) % 2

-- the number of unmarked places below q: a marked bit at q is gathered that far down
unfoldable pub gaps : ℕ → ℕ → ℕ
gaps m q = q - rank m q

-- y marks the places whose gaps have bit i: they move by 2 ^ i
pub record Move (m i y : ℕ) : Type 0 where
  pub at : (q : ℕ) → q < 64 → bit y q ≡ bit (gaps m q) i

-- the first n words of the list are the moves
pub record Moves (m n : ℕ) (ys : List ℕ) : Type 0 where
  pub move : (i : ℕ) → i < n → Move m i (get_or ys i 0)
