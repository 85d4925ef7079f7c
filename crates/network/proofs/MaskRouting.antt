-- Mask routing, over every exponent: the networks undo each other, and on decoded controls they are scatter and gather. Assumes nothing.
use mathlib.Core.Path.{◌≡◌, sym, ◌∙◌, ap}
use mathlib.Core.Bool.{Bool, true, false, not}
use mathlib.Core.List.{List, reverse}
use Prim.Native.Nat.{ℕ, ◌/◌, ◌^◌, ◌<◌}
use native.Mathlib.Omega.{arith}
use lib.Bits.{bit_and, and_le_r}
use lib.ListN.{length, length-map}
use Rattle.bits.proofs.Word.{bit-and, of_bits-lt, ext}
use Rattle.gather.specs.Gather.{gather_of, scatter_of}
use Rattle.gather.proofs.AnyWidth.{gather-lt, scatter-lt}
use Rattle.gather.proofs.Theorems.{bit-scatter}
use Rattle.network.specs.Stage.{falling, butterfly_of, inverse_of}
use Rattle.network.specs.Word.{distances, travel_of}
use Rattle.network.specs.Decoder.{decoded_stage, control_at, decode_of, decode_inverse_of}
use Rattle.network.proofs.Travel.{travel-lt, travel-back, distances-fit, reverse-distances, length-distances, length-falling}
use Rattle.network.proofs.Decoding.{routed-masked, routed-gather}

module _ (b : Bool) (L : ℕ) (cs : List ℕ) where
  pub travel-of-lt : {x : ℕ} → x < 2 ^ 2 ^ L → travel_of b L cs x < 2 ^ 2 ^ L
  unfolding travel_of
  travel-of-lt h = travel-lt (2 ^ L) (distances b L) cs h

  -- each network on reversed stages undoes the other, for any controls
  pub undoes : length cs ≡ L → (x : ℕ) → x < 2 ^ 2 ^ L → travel_of (not b) L (reverse cs) (travel_of b L cs x) ≡ x
  unfolding travel_of
  undoes e x h =
      rw (← reverse-distances b L) (travel-back (2 ^ L) (distances b L) cs (e ∙ sym (length-distances b L)) (distances-fit b L (omega arith)) h)

module _ (L : ℕ) (cs : List ℕ) where
  pub butterfly-lt : {x : ℕ} → x < 2 ^ 2 ^ L → butterfly_of L cs x < 2 ^ 2 ^ L
  unfolding butterfly_of travel_of
  butterfly-lt = travel-of-lt false L cs

  pub inverse-lt : {x : ℕ} → x < 2 ^ 2 ^ L → inverse_of L cs x < 2 ^ 2 ^ L
  unfolding inverse_of travel_of
  inverse-lt = travel-of-lt true L cs

  pub undo : length cs ≡ L → (x : ℕ) → x < 2 ^ 2 ^ L → inverse_of L (reverse cs) (butterfly_of L cs x) ≡ x
  unfolding butterfly_of inverse_of travel_of
  undo = undoes false L cs

  pub undo-inverse : length cs ≡ L → (x : ℕ) → x < 2 ^ 2 ^ L → butterfly_of L (reverse cs) (inverse_of L cs x) ≡ x
  unfolding butterfly_of inverse_of travel_of
  undo-inverse = undoes true L cs

-- the decoder answers one word for each stage, in the bits that a stage uses

pub decoded-stage-lt : (w m d : ℕ) → decoded_stage w m d < 2 ^ (w / 2)
unfolding decoded_stage
decoded-stage-lt w m d = of_bits-lt (w / 2) (control_at d m)

pub length-decode : (L m : ℕ) → length (decode_of L m) ≡ L
unfolding decode_of
length-decode L m = length-map (falling L) (decoded_stage (2 ^ L) m) ∙ length-falling L

-- through the butterfly, then masked, is scatter; masked, then through the inverse, is gather

pub mask-routing-scatter : (L m x : ℕ) → m < 2 ^ 2 ^ L → bit_and (butterfly_of L (decode_of L m) x) m ≡ scatter_of (2 ^ L) m x
mask-routing-scatter L m x hm =
    let y = butterfly_of L (decode_of L m) x in
    ext (2 ^ L) (omega (arith, and_le_r y m)) (scatter-lt m x (2 ^ L))
    (λ p h. bit-and y m p ∙ routed-masked L m x p h ∙ sym (bit-scatter (2 ^ L) m x p h))

pub mask-routing-gather : (L m x : ℕ) → m < 2 ^ 2 ^ L → inverse_of L (decode_inverse_of L m) (bit_and x m) ≡ gather_of (2 ^ L) m x
unfolding decode_inverse_of
mask-routing-gather L m x hm =
    ap (inverse_of L (reverse (decode_of L m))) (sym (routed-gather L m x hm))
    ∙ undo L (decode_of L m) (length-decode L m) (gather_of (2 ^ L) m x) (gather-lt m x (2 ^ L))
