-- What the decoder's code computes: turned zeros as a window on ones, the control bits of a stage block by block, the stages of a width.
-- Assumes nothing.
use mathlib.Core.Path.{◌≡◌, sym, ◌∙◌, ap}
use mathlib.Core.List.{List}
use Prim.Native.Nat.{ℕ, zero, suc, ◌+◌, ◌-◌, ◌*◌, ◌/◌, ◌%◌, ◌^◌, ◌<◌, ◌≤◌}
use native.Mathlib.Omega.{arith}
use native.Mathlib.Decide.{dec_lt}
use native.Mathlib.Nat.{mod-lt, mod-eq_of_lt, div-add-mod', add-mul-div_right, mul-le-mul_left, mul-le-mul_right, div-lt_iff_lt-mul, pow-succ', one-mul, zero-add}
use lib.Arith.{digits_div, digits_mod}
use lib.ListN.{get_or}
use lib.Bits.{bit_and, and_le_r}
use lib.Pow.{pow_pos, pow_mono, pow-add, pow-lt, shl_exact, ones_lt}
use Rattle.bits.specs.Bit.{bit, of_bits, rank, counts_below}
use Rattle.bits.proofs.Word.{bit-lt, bit-shr, bit-shl-below, bit-shl-from, bit-and, bit-mod-two, bit-of_bits, bit-ones, bit-ones-above, of_bits-same, of_bits-add, of_bits-lt, ext}
use Rattle.bits.proofs.ByteCounts.{count-below}
use Rattle.bits.proofs.UpTo.{map_at}
use Rattle.network.specs.Stage.{falling}
use Rattle.network.specs.Decoder.{turn, turned, control_at, control_by, decoded_stage, decode_of}
use Rattle.network.proofs.Turn.{turned_bit}
use Rattle.network.proofs.Travel.{length-falling}
use Rattle.network.proofs.TableSteps.{falling-at}

pub shl_one : (k : ℕ) → k < 64 → 1 * 2 ^ k % 2 ^ 64 ≡ 2 ^ k
shl_one k h = rw one-mul (mod-eq_of_lt (pow-lt h))

pub turned_lt : {d : ℕ} → 0 < d → (c : ℕ) → turned d c < 2 ^ d
unfolding turned turn
turned_lt {d} h zero = pow_pos d
turned_lt {d} h (suc c) =
    let e : suc (d - 1) ≡ d = omega arith in
    omega (arith, mod-lt (turned d c) (pow_pos (d - 1)), pow-succ' 2 (d - 1), ap (λ (n : ℕ). 2 ^ n) e)

-- only the steps modulo 2d count
module _ {d : ℕ} (pos : 0 < d) (c : ℕ) where
  steps-bit : (t : ℕ) → t < d → bit (turned d c) t ≡ (c % (2 * d) + (d - 1 - t)) / d % 2
  steps-bit t h =
      let s : c + (d - 1 - t) ≡ (c % (2 * d) + (d - 1 - t)) + (2 * (c / (2 * d))) * d = omega (arith, div-add-mod' c (2 * d)) in
      turned_bit d c t h
      ∙ omega (arith, ap (λ (n : ℕ). n / d) s, add-mul-div_right (c % (2 * d) + (d - 1 - t)) (2 * (c / (2 * d))) pos)

  -- a quotient known by its bounds
  quotient : (n k : ℕ) → k * d ≤ n → n < k * d + d → n / d ≡ k
  quotient n k lo hi =
      let e : n ≡ k * d + (n - k * d) = omega arith in ap (λ (i : ℕ). i / d) e ∙ digits_div k (omega arith)

  -- a window of d places on as many ones, moved to the left by these steps
  pub turned-window : d ≤ 32 → bit_and ((2 ^ d - 1) * 2 ^ (c % (2 * d)) % 2 ^ 64 / 2 ^ d) (2 ^ d - 1) ≡ turned d c
  turned-window small =
      ext d (omega (arith, and_le_r ((2 ^ d - 1) * 2 ^ (c % (2 * d)) % 2 ^ 64 / 2 ^ d) (2 ^ d - 1), ones_lt d)) (turned_lt pos c)
      (λ t l. in_window t l ∙ same t l (dec_lt (d + t) (c % (2 * d))) (dec_lt t (c % (2 * d))) ∙ sym (steps-bit t l))
    where
      steps : c % (2 * d) < 2 * d
      steps = mod-lt c (omega arith)

      in_window : (t : ℕ) → t < d
          → bit (bit_and ((2 ^ d - 1) * 2 ^ (c % (2 * d)) % 2 ^ 64 / 2 ^ d) (2 ^ d - 1)) t ≡ bit ((2 ^ d - 1) * 2 ^ (c % (2 * d)) % 2 ^ 64) (d + t)
      in_window t l =
          let whole = (2 ^ d - 1) * 2 ^ (c % (2 * d)) % 2 ^ 64 in
          bit-and (whole / 2 ^ d) (2 ^ d - 1) t
          ∙ omega (arith, bit-ones d t l, bit-lt (whole / 2 ^ d) t)
          ∙ bit-shr whole d t

      same : (t : ℕ) → t < d → Dec (d + t < c % (2 * d)) → Dec (t < c % (2 * d))
          → bit ((2 ^ d - 1) * 2 ^ (c % (2 * d)) % 2 ^ 64) (d + t) ≡ (c % (2 * d) + (d - 1 - t)) / d % 2
      same t l (yes k) m =
          bit-shl-below (2 ^ d - 1) (c % (2 * d)) {w = 64} (d + t) (omega arith) k
          ∙ omega (arith, quotient (c % (2 * d) + (d - 1 - t)) 2 (omega arith) (omega (arith, steps)))
      same t l (no n) (yes m) =
          bit-shl-from (2 ^ d - 1) (c % (2 * d)) {w = 64} (d + t) (d + t - c % (2 * d)) (omega arith) (omega arith)
          ∙ bit-ones d (d + t - c % (2 * d)) (omega arith)
          ∙ omega (arith, quotient (c % (2 * d) + (d - 1 - t)) 1 (omega arith) (omega arith))
      same t l (no n) (no m) =
          bit-shl-from (2 ^ d - 1) (c % (2 * d)) {w = 64} (d + t) (d + t - c % (2 * d)) (omega arith) (omega arith)
          ∙ bit-ones-above d (d + t - c % (2 * d)) (omega arith)
          ∙ omega (arith, quotient (c % (2 * d) + (d - 1 - t)) 0 (omega arith) (omega arith))

-- what keeps the code's numbers small

pub block-small : (d j n : ℕ) → 0 < d → d * n ≤ 32 → j < n → (d * (j + 1) ≤ 32) × (j < 32) × (d ≤ 32)
block-small d j n pos h l =
    let a : d * (j + 1) ≤ d * n = mul-le-mul_left d (omega arith) in
    let b : 1 * j ≤ d * j = mul-le-mul_right j pos in
    (omega arith, omega arith, omega arith)

-- the control bits of one block more, by the counts below each place

module _ (d : ℕ) (cs : List ℕ) (j : ℕ) (pos : 0 < d) (small : d * (j + 1) ≤ 32) where
  abbrev block : ℕ
  block = turned d (get_or cs (2 * j * d + d) 0)

  block-bits : of_bits d (λ t. control_by d cs (d * j + t)) ≡ block
  block-bits =
      ext d (of_bits-lt d (λ t. control_by d cs (d * j + t))) (turned_lt pos (get_or cs (2 * j * d + d) 0))
      (λ t h. bit-of_bits d (λ i. control_by d cs (d * j + i)) t h ∙ at t h)
    where
      at : (t : ℕ) → t < d → control_by d cs (d * j + t) % 2 ≡ bit block t
      at t h =
          let e : d * j + t ≡ j * d + t = omega arith in
          rw (e, digits_div j h, digits_mod j h) (bit-mod-two block t)

  pub stage-turn : {out v : ℕ} → out ≡ of_bits (d * j) (control_by d cs) → v ≡ block
      → out + v * 2 ^ (d * j) % 2 ^ 64 ≡ of_bits (d * (j + 1)) (control_by d cs)
  stage-turn {out} {v} o t =
      let w : v ≡ of_bits d (λ i. control_by d cs (d * j + i)) = t ∙ sym block-bits in
      let b : d + d * j ≤ 64 = omega arith in
      let q : v * 2 ^ (d * j) % 2 ^ 64 ≡ v * 2 ^ (d * j) = shl_exact {a = v} d (d * j) 64 (omega (arith, w, of_bits-lt d (λ i. control_by d cs (d * j + i)))) b in
      let s : d * (j + 1) ≡ d * j + d = omega arith in
      rw (q, s, of_bits-add (d * j) d (control_by d cs), o, w) (omega arith)

  pub stage-fits : of_bits (d * (j + 1)) (control_by d cs) < 2 ^ 64
  stage-fits = omega (arith, of_bits-lt (d * (j + 1)) (control_by d cs), pow_mono small)

-- the counts of a mask make its controls
pub controls-counted : (d n m : ℕ) → 0 < d → d * n ≤ 32 → {cs : List ℕ} → cs ≡ counts_below m 0
    → of_bits (d * n) (control_by d cs) ≡ of_bits (d * n) (control_at d m)
unfolding control_at
controls-counted d n m pos small {cs} e = of_bits-same (d * n) (control_by d cs) (control_at d m) (λ s h. ap (λ (c : ℕ). bit (turned d c) (s % d)) (counted s h))
  where
    counted : (s : ℕ) → s < d * n → get_or cs (2 * (s / d) * d + d) 0 ≡ rank m (2 * (s / d) * d + d)
    counted s h =
        let p = 2 * (s / d) * d + d in
        let inside : s / d < n = (div-lt_iff_lt-mul pos).1 (omega arith) in
        let z = block-small d (s / d) n pos small inside in
        ap (λ (l : List ℕ). get_or l p 0) e ∙ count-below m 0 p (omega (arith, z)) ∙ zero-add (rank m p)

-- the stages of the decoder: distance and number of blocks of stage number i, by the table

module _ (L i : ℕ) (h : i < L) (l : L ≤ 6) where
  abbrev distance : ℕ
  distance = 1 * 2 ^ (L - 1 - i) % 2 ^ 64

  abbrev blocks : ℕ
  blocks = 1 * 2 ^ i % 2 ^ 64

  distance_is : distance ≡ get_or (falling L) i 0
  distance_is = shl_one (L - 1 - i) (omega arith) ∙ sym (falling-at L i h)

  switches : distance * blocks ≡ 2 ^ L / 2
  switches =
      let e : L - 1 - i + i ≡ L - 1 = omega arith in
      let s : suc (L - 1) ≡ L = omega arith in
      rw (distance_is, falling-at L i h, shl_one i (omega arith), ← pow-add 2 (L - 1 - i) i, e)
      (omega (arith, pow-succ' 2 (L - 1), ap (λ (n : ℕ). 2 ^ n) s))

  pub stage-size : (0 < distance) × (distance * blocks ≤ 32)
  stage-size = (rw (distance_is, falling-at L i h) (pow_pos (L - 1 - i)), omega (arith, switches, pow_mono l))

  pub decoded-at : (m : ℕ) {v : ℕ} → v ≡ of_bits (distance * blocks) (control_at distance m) → v ≡ get_or (decode_of L m) i 0
  unfolding decode_of decoded_stage
  decoded-at m e =
      e
      ∙ ap (λ (n : ℕ). of_bits n (control_at distance m)) switches
      ∙ ap (λ (d : ℕ). of_bits (2 ^ L / 2) (control_at d m)) distance_is
      ∙ sym (map_at (decoded_stage (2 ^ L) m) (falling L) i (omega (arith, length-falling L)))

  pub decoded-lt : (m : ℕ) → of_bits (distance * blocks) (control_at distance m) < 2 ^ 32
  decoded-lt m = omega (arith, of_bits-lt (distance * blocks) (control_at distance m), pow_mono stage-size.1)
