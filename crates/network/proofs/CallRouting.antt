-- Mask routing, the way back and prepared networks, stated for the calls at every accepted width. Assumes nothing.
use mathlib.Core.Path.{◌≡◌, refl, sym, ◌∙◌, ap, ap₂}
use mathlib.Core.Bool.{Bool, true, false, not}
use mathlib.Core.List.{List, ◌++◌, reverse}
use Prim.Native.Nat.{ℕ, zero, suc, ◌+◌, ◌-◌, ◌/◌, ◌%◌, ◌^◌, ◌<◌, ◌≤◌}
use native.Mathlib.Omega.{arith}
use native.Mathlib.Decide.{dec_lt}
use native.Mathlib.Nat.{mod-lt, zero-add}
use lib.Bits.{bit_and, and_le_l, and_le_r}
use lib.ListN.{length, get_or, take, replicate, length-append, length-replicate, length-reverse, get_or-append}
use lib.Pow.{pow_pos}
use lib.Seq.{ext_get_or, get_or-append-add, length-take-le, get_or-take, take_at}
use borrow.Author.Tests.{lt-ltb, le-ltb}
use Rattle.bits.specs.Refusal.{log_of, accepted}
use Rattle.bits.proofs.Refusals.{log-width, log-le}
use Rattle.bits.proofs.UpTo.{map_at}
use Rattle.gather.specs.declared.Gathered.{Gathered}
use Rattle.gather.specs.Gather.{gather_of, scatter_of, refusal_of, answer_of}
use Rattle.gather.proofs.MaskAnswers.{within, carried-out}
use Rattle.network.specs.Stage.{falling, rising, butterfly_of, inverse_of}
use Rattle.network.specs.Decoder.{decoded_stage, decode_of, decode_inverse_of}
use Rattle.network.specs.declared.Controls.{Controls}
use Rattle.network.specs.declared.Prepared.{Prepared}
use Rattle.network.specs.declared.Decoded.{Decoded}
use Rattle.network.specs.Word.{exchanges_of, exchanges, prepared_of, distances, travel_of}
use Rattle.network.specs.Calls.{Uses, used_bits, controls_fit, network_refusal, network_answer, prepare_answer, six, controls, decode_answer}
use Rattle.network.proofs.Travel.{length-falling, length-distances}
use Rattle.network.proofs.Filling.{reverse-at}
use Rattle.network.proofs.MaskRouting.{decoded-stage-lt, length-decode, travel-of-lt, undoes, mask-routing-scatter, mask-routing-gather}
use Rattle.network.proofs.Six.{travel-own, used-only, six-below, six-same}
use Rattle.network.proofs.NetworkAnswers.{each-fit, fit-each, network-refusal-by, network-within, network-is, decode-refusal-by}

get_or-zeros : (n i : ℕ) → ◌≡◌ {A = ℕ} (get_or (replicate n 0) i 0) 0
get_or-zeros zero i = refl
get_or-zeros (suc n) zero = refl
get_or-zeros (suc n) (suc i) = get_or-zeros n i

-- L stages of w/2 control bits each, padded to six, fit
six-fit : (L : ℕ) (cs : List ℕ) → L ≤ 6 → Uses L cs → controls_fit L 0 (six cs) ≡ true
six-fit L cs l u = each-fit L 0 (six cs) (λ i h. rw zero-add (at i (dec_lt i L)))
  where
    at : (i : ℕ) → Dec (i < L) → get_or (six cs) i 0 < 2 ^ used_bits L i
    at i (yes h) = rw (lt-ltb i L h, get_or-append cs (replicate (6 - length cs) 0) 0 i (omega (arith, u.0))) (u.1 i h)
    at i (no n) =
        let k : length cs + (i - length cs) ≡ i = omega (arith, u.0) in
        let z : get_or (six cs) i 0 ≡ 0 =
        ap (λ (j : ℕ). get_or (six cs) j 0) (sym k)
        ∙ get_or-append-add cs (replicate (6 - length cs) 0) (i - length cs) 0
        ∙ get_or-zeros (6 - length cs) (i - length cs)
        in
        rw (le-ltb i L (omega arith)) (omega (arith, z))

-- the stages in use of controls that fit
pub stages-fit : (L : ℕ) (cs : List ℕ) → L ≤ length cs → controls_fit L 0 cs ≡ true → Uses L (take L cs)
stages-fit L cs l g = (length-take-le L cs (omega arith), each)
  where
    each : (i : ℕ) → i < L → get_or (take L cs) i 0 < 2 ^ (2 ^ L / 2)
    each i h = rw get_or-take (rw (zero-add, lt-ltb i L h) at (fit-each L 0 cs g i (omega arith)))

-- and these fix the others, which are zero
stages-same : (L : ℕ) (cs ds : List ℕ) → length cs ≡ length ds → controls_fit L 0 cs ≡ true → controls_fit L 0 ds ≡ true
    → take L cs ≡ take L ds → cs ≡ ds
stages-same L cs ds n f g t = ext_get_or 0 cs ds n (λ i h. at i h (dec_lt i L))
  where
    unused : (es : List ℕ) → controls_fit L 0 es ≡ true → (i : ℕ) → i < length es → L ≤ i → get_or es i 0 ≡ 0
    unused es e i h l = omega (arith, rw (zero-add, le-ltb i L l) at (fit-each L 0 es e i h))

    at : (i : ℕ) → i < length cs → Dec (i < L) → get_or cs i 0 ≡ get_or ds i 0
    at i h (yes l) = sym (get_or-take L cs i 0 l) ∙ ap (λ (es : List ℕ). get_or es i 0) t ∙ get_or-take L ds i 0 l
    at i h (no l) = unused cs f i h (omega arith) ∙ sym (unused ds g i (omega arith) (omega arith))

-- so controls that fit are their stages in use, padded
pub six-in-use : (L : ℕ) (cs : List ℕ) → L ≤ 6 → length cs ≡ 6 → controls_fit L 0 cs ≡ true → six (take L cs) ≡ cs
six-in-use L cs l n f =
    let ds = take L cs in
    let zeros = replicate {A = ℕ} (6 - length ds) 0 in
    let u = stages-fit L cs (omega arith) f in
    let long : length (ds ++ zeros) ≡ length cs = omega (arith, length-append ds zeros, length-replicate {A = ℕ} (6 - length ds) 0, u.0) in
    stages-same L (six ds) cs long (six-fit L ds l u) f (take_at ds zeros L u.0)

reverse-fits : (L : ℕ) (cs : List ℕ) → Uses L cs → Uses L (reverse cs)
reverse-fits L cs f = (
  length-reverse cs ∙ f.0,
  λ i h. rw (reverse-at cs i (omega (arith, f.0)), f.0) (f.1 (L - 1 - i) (omega arith)),
)

decode-fits : (L m : ℕ) → Uses L (decode_of L m)
unfolding decode_of
decode-fits L m = (
  length-decode L m,
  λ i h. rw (map_at (decoded_stage (2 ^ L) m) (falling L) i (omega (arith, length-falling L))) (decoded-stage-lt (2 ^ L) m (get_or (falling L) i 0)),
)

-- a network looks at its own stages only
abbrev pub OwnStages : (ℕ → List ℕ → ℕ → ℕ) → Type 0
OwnStages f = (L : ℕ) (cs es : List ℕ) → length cs ≡ L → (x : ℕ) → f L (cs ++ es) x ≡ f L cs x

own-stages : (b : Bool) → OwnStages (travel_of b)
unfolding travel_of
own-stages b L cs es e x = travel-own (2 ^ L) (distances b L) cs es (e ∙ sym (length-distances b L)) x

pub butterfly-own : OwnStages butterfly_of
unfolding butterfly_of travel_of
butterfly-own = own-stages false

pub inverse-own : OwnStages inverse_of
unfolding inverse_of travel_of
inverse-own = own-stages true

-- a call on L stages that fit
pub on-stages : (f : ℕ → List ℕ → ℕ → ℕ) → OwnStages f → (w : ℕ) (cs : List ℕ) (x : ℕ) → accepted w ≡ true → x < 2 ^ w → Uses (log_of w) cs
    → network_answer f w (controls cs) x ≡ record { refusal = 0; word = f (log_of w) cs x }
on-stages f own w cs x a h u =
    network-is f w (controls cs) x a h (six-fit (log_of w) cs (log-le w) u)
    ∙ ap (λ (y : ℕ). record { refusal = 0; word = y }) (own (log_of w) cs (replicate (6 - length cs) 0) u.0 x)

module _ (w m x : ℕ) (h : refusal_of w m x ≡ 0) where
  limits : (accepted w ≡ true) × (x < 2 ^ w) × (m < 2 ^ w)
  limits = within w m x h

  width_is : w ≡ 2 ^ log_of w
  width_is = (log-width w limits.0).0

  abbrev decoded : Decoded
  decoded = decode_answer w m

  decoded-is : decoded ≡ record { refusal = 0; butterfly = controls (decode_of (log_of w) m); inverse = controls (decode_inverse_of (log_of w) m) }
  unfolding decode_answer
  decoded-is = rw (decode-refusal-by w m limits.0 (lt-ltb m (2 ^ w) limits.2))

  answered : (g : ℕ → ℕ → ℕ → ℕ) → g (2 ^ log_of w) m x ≡ (answer_of g w m x).word
  answered g = ap (λ (v : ℕ). g v m x) (sym width_is) ∙ ap (λ (a : Gathered). a.word) (carried-out w m x g (sym h) refl refl)

  -- The word through the butterfly on the decoded controls, unmarked bits zeroed after, is what the scatter call answers.
  pub calls-route-scatter : ((network_answer butterfly_of w decoded.butterfly x).refusal ≡ 0)
      × (bit_and (network_answer butterfly_of w decoded.butterfly x).word m ≡ (answer_of scatter_of w m x).word)
  calls-route-scatter =
      let c = on-stages butterfly_of butterfly-own w (decode_of (log_of w) m) x limits.0 limits.1 (decode-fits (log_of w) m) in
      rw (decoded-is, c) (refl, mask-routing-scatter (log_of w) m x (rw width_is at limits.2) ∙ answered scatter_of)

  -- The word with unmarked bits zeroed, through the inverse on the controls decoded for it, is what the gather call answers.
  pub calls-route-gather : ((network_answer inverse_of w decoded.inverse (bit_and x m)).refusal ≡ 0)
      × ((network_answer inverse_of w decoded.inverse (bit_and x m)).word ≡ (answer_of gather_of w m x).word)
  unfolding decode_inverse_of
  calls-route-gather =
      let l : bit_and x m < 2 ^ w = omega (arith, and_le_l x m, limits.1) in
      let c = on-stages inverse_of inverse-own w (decode_inverse_of (log_of w) m) (bit_and x m) limits.0 l (reverse-fits (log_of w) (decode_of (log_of w) m) (decode-fits (log_of w) m)) in
      rw (decoded-is, c) (refl, mask-routing-gather (log_of w) m x (rw width_is at limits.2) ∙ answered gather_of)

-- Each network on the reversed stages undoes the other, for any controls that are accepted.

calls_back : (b : Bool) (w : ℕ) (k : Controls) (x : ℕ) → length k.stages ≡ 6 → network_refusal w k.stages x ≡ 0
    → network_answer (travel_of (not b)) w (controls (reverse (take (log_of w) k.stages))) (network_answer (travel_of b) w k x).word ≡ record { refusal = 0; word = x }
calls_back b w k x e h =
    let i = network-within w k.stages x h in
    let n = (log-width w i.0).0 in
    let L = log_of w in
    let cs = take L k.stages in
    let fit = stages-fit L k.stages (omega (arith, log-le w)) i.2 in
    let hx : x < 2 ^ 2 ^ L = rw n at i.1 in
    let y : travel_of b L cs x < 2 ^ w = omega (arith, travel-of-lt b L cs hx, ap (λ (v : ℕ). 2 ^ v) n) in
    rw (network-is (travel_of b) w k x i.0 i.1 i.2, ← used-only L (log-le w) k.stages e b x)
    (on-stages (travel_of (not b)) (own-stages (not b)) w (reverse cs) (travel_of b L cs x) i.0 y (reverse-fits L cs fit)
    ∙ ap (λ (v : ℕ). record { refusal = 0; word = v }) (undoes b L cs fit.0 x hx))

pub calls-undo : (w : ℕ) (k : Controls) (x : ℕ) → length k.stages ≡ 6 → network_refusal w k.stages x ≡ 0
    → network_answer inverse_of w (controls (reverse (take (log_of w) k.stages))) (network_answer butterfly_of w k x).word ≡ record { refusal = 0; word = x }
unfolding butterfly_of inverse_of travel_of
calls-undo = calls_back false

pub calls-undo-inverse : (w : ℕ) (k : Controls) (x : ℕ) → length k.stages ≡ 6 → network_refusal w k.stages x ≡ 0
    → network_answer butterfly_of w (controls (reverse (take (log_of w) k.stages))) (network_answer inverse_of w k x).word ≡ record { refusal = 0; word = x }
unfolding butterfly_of inverse_of travel_of
calls-undo-inverse = calls_back true

-- A prepared network.

module _ (w : ℕ) (k : Controls) (hk : length k.stages ≡ 6) where
  module _ (x : ℕ) (h : network_refusal w k.stages x ≡ 0) where
    prepared-is : (b : Bool) → prepare_answer b w k ≡ record { refusal = 0; swaps = prepared_of b (log_of w) k.stages }
    unfolding prepare_answer
    prepared-is b =
        let i = network-within w k.stages x h in
        rw (network-refusal-by w k.stages 0 i.0 (lt-ltb 0 (2 ^ w) (pow_pos w)) i.2)

    prepared-same : (b : Bool) → ((prepare_answer b w k).refusal ≡ 0) × (exchanges b (prepare_answer b w k).swaps x ≡ (network_answer (travel_of b) w k x).word)
    prepared-same b =
        let i = network-within w k.stages x h in
        let n = (log-width w i.0).0 in
        rw (network-is (travel_of b) w k x i.0 i.1 i.2)
        (ap (λ (a : Prepared). a.refusal) (prepared-is b), ap (λ (a : Prepared). exchanges b a.swaps x) (prepared-is b) ∙ six-same (log_of w) (log-le w) k.stages hk b (rw n at i.1))

    -- Wherever a call of a network is carried out, the prepared network answers the same word.

    pub butterfly-prepared-same : ((prepare_answer false w k).refusal ≡ 0)
        × (exchanges_of (falling 6) (prepare_answer false w k).swaps x ≡ (network_answer butterfly_of w k x).word)
    unfolding butterfly_of travel_of
    butterfly-prepared-same = prepared-same false

    pub inverse-prepared-same : ((prepare_answer true w k).refusal ≡ 0)
        × (exchanges_of (rising 6) (reverse (prepare_answer true w k).swaps) x ≡ (network_answer inverse_of w k x).word)
    unfolding inverse_of travel_of
    inverse-prepared-same = prepared-same true

  module _ (h : network_refusal w k.stages 0 ≡ 0) (x : ℕ) (hx : x < 2 ^ 64) where
    prepared-below : (b : Bool) → exchanges b (prepare_answer b w k).swaps x % 2 ^ w ≡ (network_answer (travel_of b) w k (x % 2 ^ w)).word
    prepared-below b =
        let i = network-within w k.stages 0 h in
        let n = (log-width w i.0).0 in
        let L = log_of w in
        rw (network-is (travel_of b) w k (x % 2 ^ w) i.0 (mod-lt x (pow_pos w)) i.2)
        (ap₂ (λ (a : Prepared) (v : ℕ). exchanges b a.swaps x % 2 ^ v) (prepared-is 0 h b) n
        ∙ six-below L (log-le w) k.stages hk b hx
        ∙ ap (λ (v : ℕ). travel_of b L k.stages (x % 2 ^ v)) (sym n))

    -- Of any word a prepared network sends the bits below the width as the call sends them.

    pub butterfly-prepared-below : exchanges_of (falling 6) (prepare_answer false w k).swaps x % 2 ^ w ≡ (network_answer butterfly_of w k (x % 2 ^ w)).word
    unfolding butterfly_of travel_of
    butterfly-prepared-below = prepared-below false

    pub inverse-prepared-below : exchanges_of (rising 6) (reverse (prepare_answer true w k).swaps) x % 2 ^ w ≡ (network_answer inverse_of w k (x % 2 ^ w)).word
    unfolding inverse_of travel_of
    inverse-prepared-below = prepared-below true

-- A mask's network, decoded and prepared at width 64, gathers and scatters any number of words.
module _ (m : ℕ) (h : m < 2 ^ 64) (x : ℕ) where
  pub prepared-gathers : exchanges_of (rising 6) (reverse (prepared_of true 6 (decode_inverse_of 6 m))) (bit_and x m) ≡ gather_of 64 m x
  unfolding decode_inverse_of travel_of inverse_of
  prepared-gathers =
      let d = decode_of 6 m in
      six-same 6 (omega arith) (reverse d) (length-reverse d ∙ length-decode 6 m) true (omega (arith, and_le_r x m)) ∙ mask-routing-gather 6 m x h

  pub prepared-scatters : x < 2 ^ 64 → bit_and (exchanges_of (falling 6) (prepared_of false 6 (decode_of 6 m)) x) m ≡ scatter_of 64 m x
  unfolding travel_of butterfly_of
  prepared-scatters l = ap (λ (y : ℕ). bit_and y m) (six-same 6 (omega arith) (decode_of 6 m) (length-decode 6 m) false l) ∙ mask-routing-scatter 6 m x h
