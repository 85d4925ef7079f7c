-- The decoded controls of each width are those of width 64: the last stages, and of each the bits in use. Assumes nothing.
use mathlib.Core.Path.{◌≡◌, refl, sym, ◌∙◌, ap, ap₂}
use mathlib.Core.List.{List, [], ◌∷◌, map}
use Prim.Native.Nat.{ℕ, zero, suc, ◌+◌, ◌-◌, ◌*◌, ◌/◌, ◌%◌, ◌^◌, ◌<◌, ◌≤◌}
use native.Mathlib.Omega.{arith}
use native.Mathlib.Nat.{pow-succ'}
use lib.ListN.{length, get_or, drop, length-map, length-drop}
use lib.Pow.{pow_mono}
use Rattle.bits.specs.Bit.{of_bits}
use Rattle.bits.proofs.Word.{of_bits-low}
use Rattle.bits.proofs.UpTo.{map_at}
use Rattle.network.specs.Stage.{falling}
use Rattle.network.specs.Decoder.{control_at, decoded_stage, decode_of, in_use}
use Rattle.network.proofs.Travel.{drop-falling}
use Rattle.network.proofs.StageBlocks.{shl_one}

module _ (L : ℕ) (pos : 0 < L) (l : L ≤ 6) where
  half : 2 ^ L / 2 ≡ 2 ^ (L - 1)
  half = let e : suc (L - 1) ≡ L = omega arith in omega (arith, pow-succ' 2 (L - 1), ap (λ (n : ℕ). 2 ^ n) e)

  pub half_le : 2 ^ (L - 1) ≤ 32
  half_le = let h : L - 1 ≤ 5 = omega arith in pow_mono h

  -- as the code shifts
  pub used-is : 1 * 2 ^ (1 * 2 ^ (L - 1) % 2 ^ 64) % 2 ^ 64 ≡ 2 ^ 2 ^ (L - 1)
  used-is =
      ap (λ (n : ℕ). 1 * 2 ^ n % 2 ^ 64) (shl_one (L - 1) (omega arith)) ∙ shl_one (2 ^ (L - 1)) (omega (arith, half_le))

  pub length-in-use : (cs : List ℕ) → length cs ≡ 6 → length (in_use L cs) ≡ L
  length-in-use cs e = length-map (drop (6 - L) cs) _ ∙ length-drop (6 - L) cs ∙ omega (arith, e)

  pub in-use-at : (cs : List ℕ) → length cs ≡ 6 → (i : ℕ) → i < L → get_or (drop (6 - L) cs) i 0 % 2 ^ 2 ^ (L - 1) ≡ get_or (in_use L cs) i 0
  in-use-at cs e i h = sym (map_at (λ c. c % 2 ^ 2 ^ (L - 1)) (drop (6 - L) cs) i (omega (arith, length-drop (6 - L) cs, e)))

  module _ (m : ℕ) where
    stage-narrower : (d : ℕ) → decoded_stage 64 m d % 2 ^ 2 ^ (L - 1) ≡ decoded_stage (2 ^ L) m d
    unfolding decoded_stage
    stage-narrower d =
        let e : 32 ≡ 2 ^ (L - 1) + (32 - 2 ^ (L - 1)) = omega (arith, half_le) in
        ap (λ (n : ℕ). of_bits n (control_at d m) % 2 ^ 2 ^ (L - 1)) e
        ∙ of_bits-low (2 ^ (L - 1)) (32 - 2 ^ (L - 1)) (control_at d m)
        ∙ ap (λ (n : ℕ). of_bits n (control_at d m)) (sym half)

    stages-narrower : (ds : List ℕ) → map (λ c. c % 2 ^ 2 ^ (L - 1)) (map (decoded_stage 64 m) ds) ≡ map (decoded_stage (2 ^ L) m) ds
    stages-narrower [] = refl
    stages-narrower (d ∷ ds) = ap₂ ◌∷◌ (stage-narrower d) (stages-narrower ds)

    pub decode-narrower : in_use L (decode_of 6 m) ≡ decode_of L m
    unfolding decode_of
    decode-narrower =
        let e : 6 ≡ 6 - L + L = omega arith in
        ap (map (λ c. c % 2 ^ 2 ^ (L - 1))) (drop-map (decoded_stage 64 m) (6 - L) (falling 6)
        ∙ ap (map (decoded_stage 64 m)) (ap (λ (n : ℕ). drop (6 - L) (falling n)) e ∙ drop-falling (6 - L) L))
        ∙ stages-narrower (falling L)
      where
        drop-map : (f : ℕ → ℕ) (k : ℕ) (xs : List ℕ) → drop k (map f xs) ≡ map f (drop k xs)
        drop-map f zero xs = refl
        drop-map f (suc k) [] = refl
        drop-map f (suc k) (x ∷ xs) = drop-map f k xs
