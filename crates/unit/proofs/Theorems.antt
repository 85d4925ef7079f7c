-- The register unit's theorems, over its definitions. Assumes nothing.
use mathlib.Core.Path.{◌≡◌, ◌∙◌, ap}
use mathlib.Core.List.{List}
use Prim.Native.Nat.{ℕ, ◌^◌, ◌<◌}
use lib.Bits.{bit_and}
use lib.ListN.{set}
use Rattle.network.specs.Stage.{falling, butterfly_of, inverse_of, reversed_word}
use Rattle.network.specs.Decoder.{decode_of, decode_inverse_of}
use Rattle.network.proofs.Reversal.{zeros-reverse}
use Rattle.network.proofs.MaskRouting.{decoded-stage-lt, mask-routing-gather, mask-routing-scatter}
use Rattle.unit.specs.declared.Registers.{Registers}
use Rattle.unit.specs.Bank.{fresh, register, with_register, stages_of, packed_of}
use Rattle.unit.specs.Operation.{effect_of, step_of}
use Rattle.unit.proofs.Held.{stages-packed}

-- Static kinds after a decode are the variable ones

module _ (m : ℕ) where
  held : stages_of (packed_of (decode_of 6 m)) ≡ decode_of 6 m
  unfolding decode_of falling
  held = stages-packed _ _ _ _ _ _ (decoded-stage-lt 64 m 32) (decoded-stage-lt 64 m 8) (decoded-stage-lt 64 m 2)

  held-inverse : stages_of (packed_of (decode_inverse_of 6 m)) ≡ decode_inverse_of 6 m
  unfolding decode_inverse_of decode_of falling
  held-inverse = stages-packed _ _ _ _ _ _ (decoded-stage-lt 64 m 1) (decoded-stage-lt 64 m 4) (decoded-stage-lt 64 m 16)

-- "A fresh unit's kind 1 reverses the word", whatever its general registers hold.
pub fresh-reverses : (k : Registers) (r1 r2 r3 : ℕ) → k.b ≡ fresh.b → register k r2 < 2 ^ 64 → step_of k 1 r1 r2 r3 ≡ with_register k r1 (reversed_word 64 (register k r2))
unfolding effect_of
fresh-reverses k r1 r2 r3 e h =
    ap (with_register k r1) (ap (λ (rs : List ℕ). butterfly_of 6 (stages_of rs) (register k r2)) e ∙ zeros-reverse 6 (register k r2) h)

module _ (k : Registers) (a b r1 r2 r3 : ℕ) (h : register k r3 < 2 ^ 64) where
  abbrev mask : ℕ
  mask = register k r3

  -- Kind 8, then 3, is kind 6 on the general registers.
  pub decode-then-pex : (step_of (step_of k 8 a b r3) 3 r1 r2 r3).general ≡ (step_of k 6 r1 r2 r3).general
  unfolding effect_of
  decode-then-pex =
      ap (set k.general r1)
      (ap (λ (cs : List ℕ). inverse_of 6 cs (bit_and (register k r2) mask)) (held-inverse mask) ∙ mask-routing-gather 6 mask (register k r2) h)

  -- Kind 9, then 4, is kind 7 on the general registers.
  pub decode-then-pdep : (step_of (step_of k 9 a b r3) 4 r1 r2 r3).general ≡ (step_of k 7 r1 r2 r3).general
  unfolding effect_of
  decode-then-pdep =
      ap (set k.general r1)
      (ap (λ (cs : List ℕ). bit_and (butterfly_of 6 cs (register k r2)) mask) (held mask) ∙ mask-routing-scatter 6 mask (register k r2) h)
