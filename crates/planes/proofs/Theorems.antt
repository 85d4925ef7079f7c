-- Req 03's theorems: planes and bytes bit by bit, and each way undoes the other. That the lists of steps give them is in PlaneRules. Assumes nothing.
use mathlib.Core.Path.{◌≡◌, refl, sym, ◌∙◌, ap, ap₂}
use mathlib.Core.List.{List, [], ◌∷◌}
use Prim.Native.Nat.{ℕ, ◌+◌, ◌*◌, ◌/◌, ◌%◌, ◌^◌, ◌<◌}
use native.Mathlib.Omega.{arith}
use lib.ListN.{length, get_or}
use lib.Seq.{ext_get_or}
use Rattle.bits.specs.Bit.{bit, of_bits, up_to}
use Rattle.bits.proofs.Word.{bit-mod-two, bit-of_bits, ext, of_bits-lt}
use Rattle.bits.proofs.UpTo.{length-up_to, get_or-up_to}
use Rattle.planes.specs.Planes.{byte_of, planes_of, words_of_planes}
use Rattle.planes.proofs.PlaneRules.{byte-in-word}

-- a list of eight words of 64 bits, each made from its bits
module _ (f : ℕ → ℕ → ℕ) where
  abbrev made : List ℕ
  made = up_to 8 (λ k. of_bits 64 (f k))

  length-made : length made ≡ 8
  length-made = length-up_to (λ k. of_bits 64 (f k)) 8

  bit-made : (k i : ℕ) → k < 8 → i < 64 → bit (get_or made k 0) i ≡ f k i % 2
  bit-made k i hk hi = ap (λ (x : ℕ). bit x i) (get_or-up_to (λ k. of_bits 64 (f k)) 8 k hk) ∙ bit-of_bits 64 (f k) i hi

  made-same : (ws : List ℕ) → length ws ≡ 8 → ((k : ℕ) → get_or ws k 0 < 2 ^ 64) → ((k i : ℕ) → k < 8 → i < 64 → f k i ≡ bit (get_or ws k 0) i) → made ≡ ws
  made-same ws eight fits e =
      ext_get_or 0 made ws (length-made ∙ sym eight)
      (λ k h.
      let hk : k < 8 = omega (arith, length-made) in
      get_or-up_to (λ k. of_bits 64 (f k)) 8 k hk
      ∙ ext 64 (of_bits-lt 64 (f k)) (fits k)
      (λ i hi. bit-of_bits 64 (f k) i hi ∙ ap (λ (b : ℕ). b % 2) (e k i hk hi) ∙ bit-mod-two (get_or ws k 0) i))

-- bit n of plane p is bit p of byte n
pub plane-bit : (ws : List ℕ) (p n : ℕ) → p < 8 → n < 64 → bit (get_or (planes_of ws) p 0) n ≡ bit (byte_of ws n) p
unfolding planes_of
plane-bit ws p n hp hn = bit-made (λ p n. bit (byte_of ws n) p) p n hp hn ∙ bit-mod-two (byte_of ws n) p

word-bit : (ps : List ℕ) (k i : ℕ) → k < 8 → i < 64 → bit (get_or (words_of_planes ps) k 0) i ≡ bit (get_or ps (i % 8) 0) (8 * k + i / 8)
unfolding words_of_planes
word-bit ps k i hk hi = bit-made (λ k i. bit (get_or ps (i % 8) 0) (8 * k + i / 8)) k i hk hi ∙ bit-mod-two (get_or ps (i % 8) 0) (8 * k + i / 8)

-- and back: bit p of byte n is bit n of plane p
pub byte-bit : (ps : List ℕ) (n p : ℕ) → n < 64 → p < 8 → bit (byte_of (words_of_planes ps) n) p ≡ bit (get_or ps p 0) n
byte-bit ps n p hn hp =
    let m : (8 * (n % 8) + p) % 8 ≡ p = omega arith in
    let d : 8 * (n / 8) + (8 * (n % 8) + p) / 8 ≡ n = omega arith in
    byte-in-word (words_of_planes ps) n p hp
    ∙ word-bit ps (n / 8) (8 * (n % 8) + p) (omega arith) (omega arith)
    ∙ ap₂ (λ (q i : ℕ). bit (get_or ps q 0) i) m d

-- Each way undoes the other, for every eight words.
module _ (ws : List ℕ) (eight : length ws ≡ 8) (fits : (k : ℕ) → get_or ws k 0 < 2 ^ 64) where
  pub from-to-planes : words_of_planes (planes_of ws) ≡ ws
  unfolding words_of_planes
  from-to-planes = made-same (λ k i. bit (get_or (planes_of ws) (i % 8) 0) (8 * k + i / 8)) ws eight fits same
    where
      same : (k i : ℕ) → k < 8 → i < 64 → bit (get_or (planes_of ws) (i % 8) 0) (8 * k + i / 8) ≡ bit (get_or ws k 0) i
      same k i hk hi =
          let n = 8 * k + i / 8 in
          let d : (8 * k + i / 8) / 8 ≡ k = omega arith in
          let m : 8 * ((8 * k + i / 8) % 8) + i % 8 ≡ i = omega arith in
          plane-bit ws (i % 8) n (omega arith) (omega arith)
          ∙ byte-in-word ws n (i % 8) (omega arith)
          ∙ ap₂ (λ (q j : ℕ). bit (get_or ws q 0) j) d m

  pub to-from-planes : planes_of (words_of_planes ws) ≡ ws
  unfolding planes_of
  to-from-planes = made-same (λ p n. bit (byte_of (words_of_planes ws) n) p) ws eight fits (λ p n hp hn. byte-bit ws n p hn hp)

-- The bytes 0 to 63: bit n of plane p is bit p of the number n.

abbrev counting : List ℕ
counting =
    0x0706050403020100
    ∷ 0x0F0E0D0C0B0A0908
    ∷ 0x1716151413121110
    ∷ 0x1F1E1D1C1B1A1918
    ∷ 0x2726252423222120
    ∷ 0x2F2E2D2C2B2A2928
    ∷ 0x3736353433323130
    ∷ 0x3F3E3D3C3B3A3938
    ∷ []

pub counting-planes : planes_of counting
    ≡ 0xAAAAAAAAAAAAAAAA
    ∷ 0xCCCCCCCCCCCCCCCC
    ∷ 0xF0F0F0F0F0F0F0F0
    ∷ 0xFF00FF00FF00FF00
    ∷ 0xFFFF0000FFFF0000
    ∷ 0xFFFFFFFF00000000
    ∷ 0
    ∷ 0
    ∷ []
unfolding planes_of up_to of_bits byte_of bit
counting-planes = refl
