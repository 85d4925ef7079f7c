-- Both mirrors by three exchanges, compared with their rules over 64 places. Assumes nothing.
use mathlib.Core.Path.{◌≡◌, refl}
use mathlib.Core.Bool.{Bool, true}
use Prim.Native.Nat.{ℕ}
use lib.Dec.{eqb}
use Rattle.bits.proofs.Computed.{every}
use Rattle.network.specs.Stage.{partner}
use Rattle.subwords.specs.Subword.{exchange_pairs_of, is_size}
use Rattle.tiles.specs.Tile.{Rule, columns_rule, rows_rule, goes_to, moved, Inverse}
use Rattle.tiles.specs.Steps.{exchanges_of, mirror_of}
use Rattle.tiles.proofs.MarkedPlaces.{sent-pairs}
use Rattle.tiles.proofs.Moves.{sent-three}
use Rattle.tiles.proofs.Theorems.{columns-inverse, rows-inverse}

-- exchanges at sizes a, b and c in turn take every place where the rule has it from
abbrev exchanges_go : Rule → ℕ → ℕ → ℕ → Bool
exchanges_go f a b c = every 64 (λ q. eqb (partner a (partner b (partner c q))) (goes_to f q))

exchanges-move : (f : Rule) → Inverse f f → (a b c : ℕ) → is_size a ≡ true → is_size b ≡ true → is_size c ≡ true → exchanges_go f a b c ≡ true → (x : ℕ)
    → exchange_pairs_of c (exchange_pairs_of b (exchange_pairs_of a x)) ≡ moved f x
exchanges-move f i a b c ha hb hc t x =
    sent-three f f i (partner a) (partner b) (partner c) t x _ _ _ (sent-pairs a ha x) (sent-pairs b hb _) (sent-pairs c hc _)

pub rows-mirrored : (x : ℕ) → mirror_of 0 x ≡ moved rows_rule x
unfolding mirror_of exchanges_of every partner
rows-mirrored = exchanges-move rows_rule rows-inverse 8 16 32 refl refl refl refl

pub columns-mirrored : (x : ℕ) → mirror_of 3 x ≡ moved columns_rule x
unfolding mirror_of exchanges_of every partner
columns-mirrored = exchanges-move columns_rule columns-inverse 1 2 4 refl refl refl refl
