-- What the code's inner function cites: the operations by the halves of pairs. Internal: no answer of a call cites it. Assumes nothing.
use Rattle.std.specs.Prelude.{ℕ, ◌+◌, ◌-◌}
use Rattle.subwords.specs.declared.Half.{Half}
use Rattle.subwords.specs.declared.Half.TheVariants.{Left, Right}
use Rattle.subwords.specs.Subword.{subword, woven}

-- a half by its place in a pair
abbrev pub place_of : Half → ℕ
place_of Left = 0
place_of Right = 1

-- half h of every pair of x (0 the left one, 1 the right one) to the left, half k of every pair of y to the right
unfoldable pub halves_of : ℕ → ℕ → ℕ → ℕ → ℕ → ℕ
halves_of z x h y k = woven z (λ i. subword z x (i + h)) (λ i. subword z y (i - 1 + k))
