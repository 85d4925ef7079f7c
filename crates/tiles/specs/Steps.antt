-- What the code's inner function cites. Internal: no answer of a call cites it. Assumes nothing.
use Rattle.std.specs.Prelude.{ℕ, zero, suc, ◌+◌, ◌-◌, ◌^◌}
use Rattle.subwords.specs.Subword.{exchange_pairs_of}

-- pairs exchanged at n sizes, the distances of the networks' table from index `first` on, the smallest first
unfoldable pub exchanges_of : ℕ → ℕ → ℕ → ℕ
exchanges_of first zero x = x
exchanges_of first (suc n) x = exchanges_of first n (exchange_pairs_of (2 ^ (5 - (first + n))) x)

-- at three sizes
unfoldable pub mirror_of : ℕ → ℕ → ℕ
mirror_of first x = exchanges_of first 3 x
