-- Controls of zero reverse the word, through either network. Assumes nothing.
use mathlib.Core.Path.{◌≡◌, sym, ◌∙◌, ap}
use mathlib.Core.Bool.{true}
use mathlib.Core.List.{List, [], reverse}
use Prim.Native.Nat.{ℕ, zero, suc, ◌+◌, ◌-◌, ◌*◌, ◌/◌, ◌%◌, ◌^◌, ◌<◌}
use native.Mathlib.Omega.{arith}
use native.Mathlib.Nat.{div-eq_of_lt, mod-eq_of_lt, pow-succ'}
use lib.Arith.{digits_div, digits_mod, digits_lt}
use lib.ListN.{length, replicate, length-reverse, length-replicate, get_or-replicate, replicate-append-replicate}
use lib.Pow.{pow_pos}
use lib.Seq.{ext_get_or}
use Rattle.bits.specs.Bit.{bit}
use Rattle.bits.specs.Refusal.{log_of, accepted}
use Rattle.bits.proofs.Word.{bit-mod-two, bit-of-zero, bit-of_bits, of_bits-lt, ext}
use Rattle.bits.proofs.Refusals.{log-width, log-le}
use Rattle.network.specs.Stage.{source, falling, butterfly_of, inverse_of, reversed_word}
use Rattle.network.specs.declared.Controls.{Controls}
use Rattle.network.specs.Calls.{network_answer, controls}
use Rattle.network.proofs.Index.{place_at, on-places, half_of, source-at}
use Rattle.network.proofs.Travel.{origin, bit-travel, falling-fit}
use Rattle.network.proofs.Filling.{reverse-at}
use Rattle.network.proofs.MaskRouting.{butterfly-lt, undo}
use Rattle.network.proofs.CallRouting.{OwnStages, butterfly-own, inverse-own, on-stages}

-- where each bit comes from: one stage more reverses blocks of twice the size

source-zero : {d : ℕ} → 0 < d → (p : ℕ) → source d 0 (p / d * d + (d - 1 - p % d)) ≡ p / (2 * d) * (2 * d) + (2 * d - 1 - p % (2 * d))
source-zero {d} pos = on-places pos _ at
  where
    at : (J e t : ℕ) → e < 2 → t < d
        → source d 0 (place_at d J e t / d * d + (d - 1 - place_at d J e t % d))
        ≡ place_at d J e t / (2 * d) * (2 * d) + (2 * d - 1 - place_at d J e t % (2 * d))
    at J e t he ht =
        let whole : place_at d J e t ≡ J * (2 * d) + (e * d + t) = omega arith in
        let l : e * d + t < 2 * d = digits_lt he ht in
        let s : (e + 0 + 1) % 2 + e ≡ 1 = omega arith in
        rw (half_of d J e t he ht, digits_mod (J * 2 + e) ht, source-at d J e (d - 1 - t) he (omega arith) 0, bit-of-zero (J * d + (d - 1 - t)), whole, digits_div J l, digits_mod J l)
        (omega (arith, ap (λ (n : ℕ). n * d) s))

origin-zeros : (n p : ℕ) → origin (falling n) (replicate n 0) p ≡ p / 2 ^ n * 2 ^ n + (2 ^ n - 1 - p % 2 ^ n)
unfolding falling origin
origin-zeros zero p = omega arith
origin-zeros (suc n) p =
    ap (source (2 ^ n) 0) (origin-zeros n p) ∙ source-zero (pow_pos n) p ∙ ap (λ (d : ℕ). p / d * d + (d - 1 - p % d)) (sym (pow-succ' 2 n))

-- reversed words

bit-reversed : (w x i : ℕ) → i < w → bit (reversed_word w x) i ≡ bit x (w - 1 - i)
unfolding reversed_word
bit-reversed w x i h = bit-of_bits w (λ j. bit x (w - 1 - j)) i h ∙ bit-mod-two x (w - 1 - i)

reversed-lt : (w x : ℕ) → reversed_word w x < 2 ^ w
unfolding reversed_word
reversed-lt w x = of_bits-lt w (λ i. bit x (w - 1 - i))

pub reversed-twice : (w : ℕ) {x : ℕ} → x < 2 ^ w → reversed_word w (reversed_word w x) ≡ x
reversed-twice w {x} h =
    ext w (reversed-lt w (reversed_word w x)) h
    (λ i l.
    let e : w - 1 - (w - 1 - i) ≡ i = omega arith in
    bit-reversed w (reversed_word w x) i l ∙ bit-reversed w x (w - 1 - i) (omega arith) ∙ ap (bit x) e)

reverse-same : (k a : ℕ) → reverse (replicate k a) ≡ replicate k a
reverse-same k a =
    ext_get_or 0 (reverse (replicate k a)) (replicate k a) (length-reverse (replicate k a))
    (λ i h.
    let n : i < k = omega (arith, length-reverse (replicate k a), length-replicate k a) in
    reverse-at (replicate k a) i (omega (arith, length-replicate k a))
    ∙ get_or-replicate k (length (replicate k a) - 1 - i) a 0 (omega (arith, length-replicate k a))
    ∙ sym (get_or-replicate k i a 0 n))

-- the networks, over every exponent

pub zeros-reverse : (L x : ℕ) → x < 2 ^ 2 ^ L → butterfly_of L (replicate L 0) x ≡ reversed_word (2 ^ L) x
unfolding butterfly_of
zeros-reverse L x h =
    ext (2 ^ L) (butterfly-lt L (replicate L 0) h) (reversed-lt (2 ^ L) x)
    (λ p l.
    let e : p / 2 ^ L * 2 ^ L + (2 ^ L - 1 - p % 2 ^ L) ≡ 2 ^ L - 1 - p = rw (div-eq_of_lt l, mod-eq_of_lt l) (omega arith) in
    bit-travel (2 ^ L) (falling L) (replicate L 0) (falling-fit L (omega arith)) x p l
    ∙ ap (bit x) (origin-zeros L p ∙ e) ∙ sym (bit-reversed (2 ^ L) x p l))

-- and so does the inverse, which undoes it
pub zeros-reverse-inverse : (L x : ℕ) → x < 2 ^ 2 ^ L → inverse_of L (replicate L 0) x ≡ reversed_word (2 ^ L) x
zeros-reverse-inverse L x h =
    let y = reversed_word (2 ^ L) x in
    let there : butterfly_of L (replicate L 0) y ≡ x = zeros-reverse L y (reversed-lt (2 ^ L) x) ∙ reversed-twice (2 ^ L) h in
    ap (inverse_of L (replicate L 0)) (sym there)
    ∙ ap (λ (cs : List ℕ). inverse_of L cs (butterfly_of L (replicate L 0) y)) (sym (reverse-same L 0))
    ∙ undo L (replicate L 0) (length-replicate L 0) y (reversed-lt (2 ^ L) x)

-- the calls, at every accepted width

module _ (w x : ℕ) (a : accepted w ≡ true) (h : x < 2 ^ w) where
  call-reverses : (f : ℕ → List ℕ → ℕ → ℕ) → OwnStages f → ((L y : ℕ) → y < 2 ^ 2 ^ L → f L (replicate L 0) y ≡ reversed_word (2 ^ L) y)
      → network_answer f w (controls []) x ≡ record { refusal = 0; word = reversed_word w x }
  call-reverses f own z =
      let L = log_of w in
      let n = (log-width w a).0 in
      let s : L + (6 - L) ≡ 6 = omega (arith, log-le w) in
      let zeros : controls (replicate L 0) ≡ controls [] =
      ap (λ (cs : List ℕ). record { stages = cs }) (rw (length-replicate {A = ℕ} L 0) (replicate-append-replicate L (6 - L) 0 ∙ ap (λ (k : ℕ). replicate k 0) s))
      in
      ap (λ (k : Controls). network_answer f w k x) (sym zeros)
      ∙ on-stages f own w (replicate L 0) x a h (length-replicate L 0, λ i l. rw (get_or-replicate {A = ℕ} L i 0 0 l) (pow_pos (2 ^ L / 2)))
      ∙ ap (λ (y : ℕ). record { refusal = 0; word = y }) (z L x (rw n at h) ∙ ap (λ (v : ℕ). reversed_word v x) (sym n))

  pub calls-zeros-reverse : (network_answer butterfly_of w (controls []) x ≡ record { refusal = 0; word = reversed_word w x })
      × (network_answer inverse_of w (controls []) x ≡ record { refusal = 0; word = reversed_word w x })
  calls-zeros-reverse = (call-reverses butterfly_of butterfly-own zeros-reverse, call-reverses inverse_of inverse-own zeros-reverse-inverse)
