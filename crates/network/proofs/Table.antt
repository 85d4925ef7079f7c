-- The rule of the constant table of distances and pair masks: one computed test over the whole table, read at each entry. Assumes nothing.
use mathlib.Core.Path.{◌≡◌, refl}
use mathlib.Core.List.{List, [], ◌∷◌}
use Prim.Native.Nat.{ℕ, ◌-◌, ◌^◌, ◌<◌}
use lib.ListN.{get_or}
use Rattle.bits.specs.Bit.{of_bits, up_to}
use Rattle.bits.proofs.Computed.{entries}
use Rattle.network.specs.Word.{at_lower, pairs}

-- the code's tables
abbrev pub distance_table : List ℕ
distance_table = 32 ∷ 16 ∷ 8 ∷ 4 ∷ 2 ∷ 1 ∷ []

abbrev pub pair_table : List ℕ
pair_table =
    0x00000000FFFFFFFF
    ∷ 0x0000FFFF0000FFFF
    ∷ 0x00FF00FF00FF00FF
    ∷ 0x0F0F0F0F0F0F0F0F
    ∷ 0x3333333333333333
    ∷ 0x5555555555555555
    ∷ []

distances-are : distance_table ≡ up_to 6 (λ k. 2 ^ (5 - k))
unfolding up_to
distances-are = refl

pairs-are : pair_table ≡ up_to 6 (λ k. pairs (2 ^ (5 - k)))
unfolding up_to at_lower of_bits
pairs-are = refl

module _ (k : ℕ) (h : k < 6) where
  pub distance-at : get_or distance_table k 0 ≡ 2 ^ (5 - k)
  distance-at = entries (λ i. 2 ^ (5 - i)) 6 distances-are k h

  pub pair-at : get_or pair_table k 0 ≡ pairs (2 ^ (5 - k))
  pair-at = entries (λ i. pairs (2 ^ (5 - i))) 6 pairs-are k h
