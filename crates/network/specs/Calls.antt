-- What the calls on the networks and the decoder answer. Assumes nothing.
use Rattle.std.specs.Prelude.{◌≡◌, ℕ, suc, ◌-◌, ◌/◌, ◌^◌, ◌<◌, Bool, true, not, cond, ◌&&◌, List, [], ◌∷◌, ◌++◌, eqb, ltb, length, get_or, replicate, reverse, Result, Ok, Err}
use Rattle.bits.specs.declared.Refusal.{Refusal}
use Rattle.bits.specs.Refusal.{number_of, log_of, accepted, fits, lowest}
use Rattle.network.specs.declared.Controls.{Controls}
use Rattle.network.specs.declared.Carried.{Carried}
use Rattle.network.specs.declared.Prepared.{Prepared}
use Rattle.network.specs.declared.Decoded.{Decoded}
use Rattle.network.specs.Word.{prepared_of}
use Rattle.network.specs.Decoder.{decode_of, decode_inverse_of}

-- "a column uses w/2 bits"; "Unused columns and bits are zero": how many bits stage i (from 0) uses at width 2 ^ L
abbrev pub used_bits : ℕ → ℕ → ℕ
used_bits L i = cond (ltb i L) (2 ^ L / 2) 0

-- Controls of one network are a word for each of its L stages, in the direction of travel: 2^L / 2 control bits each, no one in an unused bit.
abbrev pub Uses : ℕ → List ℕ → Type 0
Uses L cs = (length cs ≡ L) × ((i : ℕ) → i < L → get_or cs i 0 < 2 ^ (2 ^ L / 2))

-- stages number i and up have no one in an unused bit
abbrev pub controls_fit : ℕ → ℕ → List ℕ → Bool
controls_fit L i [] = true
controls_fit L i (c ∷ cs) = fits (used_bits L i) c && controls_fit L (suc i) cs

-- 'Calls turned back': 1, the width; 2, a one of the word at bit w or above; 3, "a one in an unused setting bit or column"
abbrev pub network_conditions : ℕ → List ℕ → ℕ → List (ℕ × Bool)
network_conditions w cs x = (1, not (accepted w)) ∷ (2, not (fits w x)) ∷ (3, not (controls_fit (log_of w) 0 cs)) ∷ []

unfoldable pub network_refusal : ℕ → List ℕ → ℕ → ℕ
network_refusal w cs x = lowest (network_conditions w cs x)

-- the whole answer of a call of the network f (butterfly_of or inverse_of)
unfoldable pub network_answer : (ℕ → List ℕ → ℕ → ℕ) → ℕ → Controls → ℕ → Carried
network_answer f w k x =
    cond (eqb (network_refusal w k.stages x) 0) (record { refusal = 0; word = f (log_of w) k.stages x })
    (record { refusal = network_refusal w k.stages x; word = 0 })

-- the same, by its outcome
abbrev pub carried_by : Result ℕ Refusal → Carried
carried_by (Ok word) = record { refusal = 0; word = word }
carried_by (Err refusal) = record { refusal = number_of refusal; word = 0 }

-- the whole answer of a call that prepares the inverse (true) or the butterfly. Refused is what a call on the word zero is, which is of every width:
-- 1, the width; 3, the controls
unfoldable pub prepare_answer : Bool → ℕ → Controls → Prepared
prepare_answer b w k =
    cond (eqb (network_refusal w k.stages 0) 0) (record { refusal = 0; swaps = prepared_of b (log_of w) k.stages })
    (record { refusal = network_refusal w k.stages 0; swaps = replicate 6 0 })

-- 1, the width; 2, a one of the mask at bit w or above
abbrev pub decode_conditions : ℕ → ℕ → List (ℕ × Bool)
decode_conditions w m = (1, not (accepted w)) ∷ (2, not (fits w m)) ∷ []

unfoldable pub decode_refusal : ℕ → ℕ → ℕ
decode_refusal w m = lowest (decode_conditions w m)

-- "Settings are six columns of 32 bits in the direction of travel. Unused columns and bits are zero."
abbrev pub six : List ℕ → List ℕ
six cs = cs ++ replicate (6 - length cs) 0

abbrev pub controls : List ℕ → Controls
controls cs = record { stages = six cs }

-- the answer with the butterfly's controls, and the inverse's
abbrev pub decoded_with : List ℕ → Decoded
decoded_with cs = record { refusal = 0; butterfly = controls cs; inverse = controls (reverse cs) }

-- the answer with a refusal
abbrev pub no_controls : Refusal → Decoded
no_controls refusal = record { refusal = number_of refusal; butterfly = controls []; inverse = controls [] }

-- "One decoder call answers both sets."
unfoldable pub decode_answer : ℕ → ℕ → Decoded
decode_answer w m =
    cond (eqb (decode_refusal w m) 0)
    (record { refusal = 0; butterfly = controls (decode_of (log_of w) m); inverse = controls (decode_inverse_of (log_of w) m) })
    (record { refusal = decode_refusal w m; butterfly = controls []; inverse = controls [] })
