-- What the decoded controls do: the bit that comes to a marked place is the one whose number is the place's rank. Assumes nothing.
use mathlib.Core.Path.{◌≡◌, sym, ◌∙◌, ap}
use mathlib.Core.Logic.{◌⊎◌, inl, inr}
use mathlib.Core.List.{map}
use Prim.Native.Nat.{ℕ, zero, suc, ◌+◌, ◌-◌, ◌*◌, ◌/◌, ◌%◌, ◌^◌, ◌<◌, ◌≤◌, min}
use native.Mathlib.Omega.{arith}
use native.Mathlib.Decide.{dec_lt}
use native.Mathlib.Nat.{div-add-mod', mod-lt, mod-eq_of_lt, div-eq_of_lt, pow-succ', add-mul-div_right}
use lib.Arith.{digits_div, digits_mod, digits_lt, mod-mul}
use lib.Bits.{bit_and, and_le_r}
use Rattle.bits.specs.Bit.{bit, rank}
use Rattle.bits.proofs.Word.{bit-lt, bit-cases, bit-mod-two, bit-of_bits, bit-and, ext}
use Rattle.bits.proofs.Rank.{rank-le, rank_lt, rank_between, select}
use Rattle.gather.specs.Gather.{gather_of}
use Rattle.gather.proofs.AnyWidth.{gather-lt}
use Rattle.network.specs.Stage.{source, falling, butterfly_of}
use Rattle.network.specs.Decoder.{turned, control_at, decoded_stage, decode_of}
use Rattle.gather.proofs.Theorems.{bit-gather, bit-gather-above}
use Rattle.network.proofs.Index.{place_at, on-places, block-lt, half_of, source-at}
use Rattle.network.proofs.Turn.{turned_bit}
use Rattle.network.proofs.Travel.{Fits, origin, origin-injective, travel-lt, bit-travel, pow-fits, falling-fit}

-- the turn count of block J: the marked places up to the middle of the block
abbrev count : ℕ → ℕ → ℕ → ℕ
count d m J = rank m (2 * J * d + d)

-- at a marked place of half e, the count (with e halves added) is above the place's rank, by at most a half
count-near : (d m J e u : ℕ) → e < 2 → u < d → bit m (place_at d J e u) ≡ 1
    → (rank m (place_at d J e u) < count d m J + e * d) × (count d m J + e * d ≤ rank m (place_at d J e u) + d)
count-near d m J zero u he hu b =
    let z = rank_between m (place_at d J 0 u) (2 * J * d + d) (omega arith) in
    (omega (arith, rank_lt m {w = 2 * J * d + d} b (omega arith)), omega (arith, z))
count-near d m J (suc zero) u he hu b =
    let z = rank_between m (2 * J * d + d) (place_at d J 1 u) (omega arith) in
    (omega (arith, z), omega (arith, z))
count-near d m J (suc (suc e)) u he hu b = absurd (omega arith)

-- then the turned bit at offset r % d says in which half of its block place r lies, seen from half e
turns_near : (d r c e : ℕ) → 0 < d → r < c + e * d → c + e * d ≤ r + d → (c + (d - 1 - r % d)) / d + e ≡ r / d + 1
turns_near d r c e pos lo hi =
    let s : c + (d - 1 - r % d) + e * d ≡ (r / d + 1) * d + (c + e * d - 1 - r) = omega (arith, div-add-mod' r d, mod-lt r pos) in
    sym (add-mul-div_right (c + (d - 1 - r % d)) e pos) ∙ ap (λ (n : ℕ). n / d) s ∙ digits_div (r / d + 1) (omega arith)

module _ {w d : ℕ} (f : Fits w d) (m : ℕ) where
  bit-decoded-stage : (J t : ℕ) → J < f.blocks → t < d → bit (decoded_stage w m d) (J * d + t) ≡ (count d m J + (d - 1 - t)) / d % 2
  unfolding decoded_stage control_at
  bit-decoded-stage J t h_j ht =
      let used : J * d + t < w / 2 = omega (arith, f.whole, digits_lt h_j ht) in
      bit-of_bits (w / 2) (control_at d m) (J * d + t) used
      ∙ rw (digits_div J ht, digits_mod J ht) (bit-mod-two (turned d (count d m J)) t)
      ∙ turned_bit d (count d m J) t ht

  -- one stage more undone: from offset (rank mod d) of the marked place's half to offset (rank mod 2d) of its block
  source-marked : (p : ℕ) → p < w → bit m p ≡ 1
      → source d (decoded_stage w m d) (p / d * d + rank m p % d) ≡ p / (2 * d) * (2 * d) + rank m p % (2 * d)
  source-marked = on-places f.positive _ at
    where
      at : (J e u : ℕ) → e < 2 → u < d → place_at d J e u < w → bit m (place_at d J e u) ≡ 1
          → source d (decoded_stage w m d) (place_at d J e u / d * d + rank m (place_at d J e u) % d)
          ≡ place_at d J e u / (2 * d) * (2 * d) + rank m (place_at d J e u) % (2 * d)
      at J e u he hu h b =
          let p = place_at d J e u in
          let r = rank m p in
          let t = r % d in
          let ht : t < d = mod-lt r f.positive in
          let h_j : J < f.blocks = block-lt d J e u f.blocks (rw f.whole at h) in
          let near = count-near d m J e u he hu b in
          let turns = turns_near d r (count d m J) e f.positive near.0 near.1 in
          let side : (e + bit (decoded_stage w m d) (J * d + t) + 1) % 2 ≡ r / d % 2 = omega (arith, bit-decoded-stage J t h_j ht, turns) in
          let whole : p ≡ J * (2 * d) + (e * d + u) = omega arith in
          let block : p / (2 * d) ≡ J = ap (λ (n : ℕ). n / (2 * d)) whole ∙ digits_div J (digits_lt he hu) in
          ap (λ (n : ℕ). source d (decoded_stage w m d) (n * d + t)) (half_of d J e u he hu)
          ∙ source-at d J e t he ht (decoded_stage w m d)
          ∙ omega (arith, ap (λ (n : ℕ). n * d) side, ap (λ (n : ℕ). n * d) block, mod-mul r {m = 2} {c = d} (omega arith) f.positive)

module _ (L m p : ℕ) (h : p < 2 ^ L) where
  -- after the last n stages are undone
  origin-marked : bit m p ≡ 1 → (n : ℕ) → n ≤ L
      → origin (falling n) (map (decoded_stage (2 ^ L) m) (falling n)) p ≡ p / 2 ^ n * 2 ^ n + rank m p % 2 ^ n
  unfolding falling origin
  origin-marked b zero l = omega arith
  origin-marked b (suc n) l =
      ap (source (2 ^ n) (decoded_stage (2 ^ L) m (2 ^ n))) (origin-marked b n (omega arith))
      ∙ source-marked (pow-fits l) m p h b
      ∙ ap (λ (d : ℕ). p / d * d + rank m p % d) (sym (pow-succ' 2 n))

  origin-rank : bit m p ≡ 1 → origin (falling L) (decode_of L m) p ≡ rank m p
  unfolding decode_of
  origin-rank b =
      let below : rank m p < 2 ^ L = omega (arith, rank-le m p) in
      origin-marked b L (omega arith) ∙ omega (arith, ap (λ (n : ℕ). n * 2 ^ L) (div-eq_of_lt h), mod-eq_of_lt below)

-- the bits below the count go to marked places, so an unmarked place gets another
origin-unmarked : (L m p : ℕ) → p < 2 ^ L → bit m p ≡ 0 → rank m (2 ^ L) ≤ origin (falling L) (decode_of L m) p
origin-unmarked L m p h b = by_cases (dec_lt (origin (falling L) (decode_of L m) p) (rank m (2 ^ L)))
  where
    by_cases : Dec (origin (falling L) (decode_of L m) p < rank m (2 ^ L)) → rank m (2 ^ L) ≤ origin (falling L) (decode_of L m) p
    by_cases (no n) = omega arith
    by_cases (yes l) =
        let z = select m (origin (falling L) (decode_of L m) p) (2 ^ L) l in
        let same : z.0 ≡ p =
        origin-injective (2 ^ L) (falling L) (decode_of L m) (falling-fit L (omega arith)) z.0 p
        (origin-rank L m z.0 z.1 z.2 ∙ z.3)
        in
        absurd (omega (arith, ap (bit m) same, z.2))

-- a word through the butterfly on decoded controls

module _ (L m x p : ℕ) (h : p < 2 ^ L) where
  bit-routed : bit (butterfly_of L (decode_of L m) x) p ≡ bit x (origin (falling L) (decode_of L m) p)
  unfolding butterfly_of
  bit-routed = bit-travel (2 ^ L) (falling L) (decode_of L m) (falling-fit L (omega arith)) x p h

  routed-marked : bit m p ≡ 1 → bit (butterfly_of L (decode_of L m) x) p ≡ bit x (rank m p)
  routed-marked b = bit-routed ∙ ap (bit x) (origin-rank L m p h b)

  pub routed-masked : min (bit (butterfly_of L (decode_of L m) x) p) (bit m p) ≡ min (bit m p) (bit x (rank m p))
  routed-masked = by_cases (bit-cases m p)
    where
      by_cases : (bit m p ≡ 0) ⊎ (bit m p ≡ 1) → min (bit (butterfly_of L (decode_of L m) x) p) (bit m p) ≡ min (bit m p) (bit x (rank m p))
      by_cases (inl b) = omega arith
      by_cases (inr b) = omega (arith, routed-marked b)

-- the gathered bits go back to their places, and zeros to the unmarked ones
pub routed-gather : (L m x : ℕ) → m < 2 ^ 2 ^ L → butterfly_of L (decode_of L m) (gather_of (2 ^ L) m x) ≡ bit_and x m
unfolding butterfly_of
routed-gather L m x hm =
    ext (2 ^ L) (travel-lt (2 ^ L) (falling L) (decode_of L m) (gather-lt m x (2 ^ L))) (omega (arith, and_le_r x m))
    (λ p h. by_cases p h (bit-cases m p) ∙ sym (bit-and x m p))
  where
    by_cases : (p : ℕ) → p < 2 ^ L → (bit m p ≡ 0) ⊎ (bit m p ≡ 1)
        → bit (butterfly_of L (decode_of L m) (gather_of (2 ^ L) m x)) p ≡ min (bit x p) (bit m p)
    by_cases p h (inl b) =
        bit-routed L m (gather_of (2 ^ L) m x) p h
        ∙ bit-gather-above (2 ^ L) m x (origin (falling L) (decode_of L m) p) (origin-unmarked L m p h b)
        ∙ omega arith
    by_cases p h (inr b) =
        routed-marked L m (gather_of (2 ^ L) m x) p h b ∙ bit-gather (2 ^ L) m x p h b ∙ omega (arith, bit-lt x p)
