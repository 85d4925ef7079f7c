-- The three levels of 64 bits: their lists of moves pass the computed tests, and so the code's moves gather and scatter within bytes. Assumes nothing.
use mathlib.Core.Path.{◌≡◌, refl, sym, ◌∙◌, ap, ap₂}
use mathlib.Core.Bool.{true, ◌&&◌}
use mathlib.Core.List.{[], ◌∷◌}
use Prim.Native.Nat.{ℕ, ◌+◌, ◌*◌, ◌/◌, ◌%◌, ◌^◌, ◌<◌, ◌≤◌, ◌-◌, min}
use native.Mathlib.Omega.{arith}
use native.Mathlib.Nat.{mod-lt}
use lib.Bits.{bit_and, and_mod}
use Rattle.bits.specs.Bit.{bit, rank, places, of_bits, pick, put}
use Rattle.bits.proofs.Computed.{every}
use Rattle.bits.proofs.Refusals.{both}
use Rattle.bits.proofs.Word.{bit-zero, bit-and}
use Rattle.bits.proofs.Places.{pick-marked-suc, put-marked-suc}
use Rattle.gather.specs.Gather.{gather_of, scatter_of}
use Rattle.gather.specs.Parts.{in_parts, counts_of, gaps_of, gather_parts, scatter_parts, down, up}
use Rattle.gather.proofs.Parts.{every_part, parts-ext, parts-and, parts_first, parts-second}
use Rattle.gather.proofs.Counting.{lower_of, lower_by, sum_by, gaps-by, counts_bits}
use Rattle.gather.proofs.Moving.{Shifts, downs, ups, down_all, up_all, inside, joins_at, joins, splits_at, splits, gather-level, scatter-level, up_lt}

-- the moves of a level: the distance, and the factor that makes of it the places that move
abbrev shifts1 : Shifts
shifts1 = (1, 2) ∷ []

abbrev shifts2 : Shifts
shifts2 = (1, 12) ∷ (2, 6) ∷ []

abbrev shifts4 : Shifts
shifts4 = (1, 240) ∷ (2, 124) ∷ (4, 60) ∷ []

-- at each level they join and split every part
abbrev Settles : ℕ → Shifts → Type 0
Settles s ps = (joins s ps && splits s ps) ≡ true

level1 : Settles 1 shifts1
unfolding joins joins_at splits splits_at every inside downs ups
level1 = refl

level2 : Settles 2 shifts2
unfolding joins joins_at splits splits_at every inside downs ups
level2 = refl

level4 : Settles 4 shifts4
unfolding joins joins_at splits splits_at every inside downs ups
level4 = refl

gathers : (s n : ℕ) (ps : Shifts) → Settles s ps → (m x : ℕ) → down_all (s + s) n ps (gaps_of s n m) (gather_parts s (n + n) m x) ≡ gather_parts (s + s) n m x
gathers s n ps t = gather-level s n ps (both (joins s ps) (splits s ps) t).0

module _ (s n : ℕ) (ps : Shifts) (t : Settles s ps) (e : (s + s) * n ≡ 64) (m : ℕ) {y : ℕ} (l : y < 2 ^ 64) where
  scatters : scatter_parts s (n + n) m (up_all (s + s) n ps (gaps_of s n m) y) ≡ scatter_parts (s + s) n m y
  scatters = scatter-level s ps (both (joins s ps) (splits s ps) t).1 n e m l

  ups-lt : up_all (s + s) n ps (gaps_of s n m) y < 2 ^ 64
  ups-lt = up_lt s ps (both (joins s ps) (splits s ps) t).1 n e m l

-- in parts of one bit both are the marked bits

and-bit : (m x : ℕ) → bit_and (x % 2 ^ 1) (m % 2 ^ 1) ≡ min (bit m 0) (bit x 0)
and-bit m x = sym (and_mod x m 1) ∙ omega (arith, bit-zero (bit_and x m), bit-and x m 0)

module _ {m x : ℕ} (l : m < 2 ^ 64) (h : x < 2 ^ 64) where
  and_parts : bit_and x m ≡ in_parts 1 64 (λ m x. bit_and (x % 2 ^ 1) (m % 2 ^ 1)) m x
  and_parts =
      ap₂ bit_and (sym (parts-second 1 64 h m)) (sym (parts_first 1 64 l x))
      ∙ parts-and 1 (λ m x. mod-lt x (omega arith)) (λ m x. mod-lt m (omega arith)) 64 m x

  gather-bits : bit_and x m ≡ gather_parts 1 64 m x
  unfolding gather_of rank places pick of_bits
  gather-bits = and_parts ∙ parts-ext 1 (λ m x. and-bit m x ∙ omega (arith, pick-marked-suc m 0 x)) 64 m x

  scatter-bits : bit_and x m ≡ scatter_parts 1 64 m x
  unfolding scatter_of rank places put
  scatter-bits = and_parts ∙ parts-ext 1 (λ m x. and-bit m x ∙ omega (arith, put-marked-suc m 0 x)) 64 m x

-- the code's constants are a number in every part, and its moves those of the lists

down1 : (g y : ℕ) → down 1 (bit_and g 0x5555555555555555 * 2) y ≡ down_all 2 32 shifts1 g y
unfolding down_all every_part in_parts
down1 g y = refl

down2 : (g y : ℕ) → down 2 (bit_and g 0x2222222222222222 * 6) (down 1 (bit_and g 0x1111111111111111 * 12) y) ≡ down_all 4 16 shifts2 g y
unfolding down_all every_part in_parts
down2 g y = refl

down4 : (g y : ℕ)
    → down 4 (bit_and g 0x0404040404040404 * 60) (down 2 (bit_and g 0x0202020202020202 * 124) (down 1 (bit_and g 0x0101010101010101 * 240) y)) ≡ down_all 8 8 shifts4 g y
unfolding down_all every_part in_parts
down4 g y = refl

up1 : (g y : ℕ) → up 1 (bit_and g 0x5555555555555555 * 2) y ≡ up_all 2 32 shifts1 g y
unfolding up_all every_part in_parts
up1 g y = refl

up2 : (g y : ℕ) → up 1 (bit_and g 0x1111111111111111 * 12) (up 2 (bit_and g 0x2222222222222222 * 6) y) ≡ up_all 4 16 shifts2 g y
unfolding up_all every_part in_parts
up2 g y = refl

up4 : (g y : ℕ)
    → up 1 (bit_and g 0x0101010101010101 * 240) (up 2 (bit_and g 0x0202020202020202 * 124) (up 4 (bit_and g 0x0404040404040404 * 60) y)) ≡ up_all 8 8 shifts4 g y
unfolding up_all every_part in_parts
up4 g y = refl

-- counting, by the code's steps: each count of parts is the sum of its lower halves and of what is above them

module _ {m : ℕ} (l : m < 2 ^ 64) where
  lower1 : bit_and m 0x5555555555555555 ≡ lower_of 1 32 m
  unfolding every_part in_parts
  lower1 = lower_by 1 32 m (sym (counts_bits 64 l)) refl

  pub gaps1 : 0x5555555555555555 - bit_and m 0x5555555555555555 ≡ gaps_of 1 32 m
  unfolding every_part in_parts
  gaps1 = (gaps-by 1 32 m refl lower1).1

  module _ {c2 : ℕ} (e2 : let lower = bit_and m 0x5555555555555555 in c2 ≡ lower + (m - lower) / 2 ^ 1) where
    counts2 : c2 ≡ counts_of 2 32 m
    counts2 = sum_by 1 32 m (sym (counts_bits 64 l)) lower1 e2

    lower2 : bit_and c2 0x3333333333333333 ≡ lower_of 2 16 m
    unfolding every_part in_parts
    lower2 = lower_by 2 16 m counts2 refl

    pub gaps2 : let lower = bit_and c2 0x3333333333333333 in (lower ≤ 0x2222222222222222) × (0x2222222222222222 - lower ≡ gaps_of 2 16 m)
    unfolding every_part in_parts
    gaps2 = gaps-by 2 16 m refl lower2

    module _ {c4 : ℕ} (e4 : let lower = bit_and c2 0x3333333333333333 in c4 ≡ lower + (c2 - lower) / 2 ^ 2) where
      counts4 : c4 ≡ counts_of 4 16 m
      counts4 = sum_by 2 16 m counts2 lower2 e4

      lower4 : bit_and c4 0x0F0F0F0F0F0F0F0F ≡ lower_of 4 8 m
      unfolding every_part in_parts
      lower4 = lower_by 4 8 m counts4 refl

      pub gaps4 : let lower = bit_and c4 0x0F0F0F0F0F0F0F0F in (lower ≤ 0x0404040404040404) × (0x0404040404040404 - lower ≡ gaps_of 4 8 m)
      unfolding every_part in_parts
      gaps4 = gaps-by 4 8 m refl lower4

      pub counts8 : {c8 : ℕ} → (let lower = bit_and c4 0x0F0F0F0F0F0F0F0F in c8 ≡ lower + (c4 - lower) / 2 ^ 4) → c8 ≡ counts_of 8 8 m
      counts8 e8 = sum_by 4 8 m counts4 lower4 e8

module _ (m x : ℕ) (l : m < 2 ^ 64) (h : x < 2 ^ 64) {g1 g2 g4 : ℕ} (e : (g1 ≡ gaps_of 1 32 m) × (g2 ≡ gaps_of 2 16 m) × (g4 ≡ gaps_of 4 8 m)) where
  pub gather-bytes : {y1 y2 y3 y4 y5 y6 : ℕ} → y1 ≡ down 1 (bit_and g1 0x5555555555555555 * 2) (bit_and x m)
      → y2 ≡ down 1 (bit_and g2 0x1111111111111111 * 12) y1 → y3 ≡ down 2 (bit_and g2 0x2222222222222222 * 6) y2
      → y4 ≡ down 1 (bit_and g4 0x0101010101010101 * 240) y3 → y5 ≡ down 2 (bit_and g4 0x0202020202020202 * 124) y4
      → y6 ≡ down 4 (bit_and g4 0x0404040404040404 * 60) y5 → y6 ≡ gather_parts 8 8 m x
  gather-bytes {y1} {y2} {y3} {y4} {y5} {y6} e1 e2 e3 e4 e5 e6 =
      let twos : y1 ≡ gather_parts 2 32 m x = rw (e1, e.0) (down1 _ _ ∙ ap (down_all 2 32 shifts1 (gaps_of 1 32 m)) (gather-bits l h) ∙ gathers 1 32 shifts1 level1 m x) in
      let fours : y3 ≡ gather_parts 4 16 m x = rw (e3, e2, twos, e.1) (down2 _ _ ∙ gathers 2 16 shifts2 level2 m x) in
      rw (e6, e5, e4, fours, e.2) (down4 _ _ ∙ gathers 4 8 shifts4 level4 m x)

  pub scatter-bytes : {y1 y2 y3 y4 y5 y6 : ℕ} → y1 ≡ up 4 (bit_and g4 0x0404040404040404 * 60) x
      → y2 ≡ up 2 (bit_and g4 0x0202020202020202 * 124) y1 → y3 ≡ up 1 (bit_and g4 0x0101010101010101 * 240) y2
      → y4 ≡ up 2 (bit_and g2 0x2222222222222222 * 6) y3 → y5 ≡ up 1 (bit_and g2 0x1111111111111111 * 12) y4
      → y6 ≡ up 1 (bit_and g1 0x5555555555555555 * 2) y5 → bit_and y6 m ≡ scatter_parts 8 8 m x
  scatter-bytes {y1} {y2} {y3} {y4} {y5} {y6} e1 e2 e3 e4 e5 e6 =
      let eight : y3 ≡ up_all 8 8 shifts4 (gaps_of 4 8 m) x = rw (e3, e2, e1, e.2) (up4 _ _) in
      let four : y5 ≡ up_all 4 16 shifts2 (gaps_of 2 16 m) y3 = rw (e5, e4, e.1) (up2 _ _) in
      let two : y6 ≡ up_all 2 32 shifts1 (gaps_of 1 32 m) y5 = rw (e6, e.0) (up1 _ _) in
      let l3 : y3 < 2 ^ 64 = rw eight (ups-lt 4 8 shifts4 level4 refl m h) in
      let l5 : y5 < 2 ^ 64 = rw four (ups-lt 2 16 shifts2 level2 refl m l3) in
      let l6 : y6 < 2 ^ 64 = rw two (ups-lt 1 32 shifts1 level1 refl m l5) in
      scatter-bits l l6
      ∙ ap (scatter_parts 1 64 m) two ∙ scatters 1 32 shifts1 level1 refl m l5
      ∙ ap (scatter_parts 2 32 m) four ∙ scatters 2 16 shifts2 level2 refl m l3
      ∙ ap (scatter_parts 4 16 m) eight ∙ scatters 4 8 shifts4 level4 refl m h
