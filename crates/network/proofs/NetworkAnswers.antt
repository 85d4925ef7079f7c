-- What the calls answer, by the tests that the code makes: whether controls fit, the lowest refusal (demand 1), the networks, prepared ones, the decoder.
-- Assumes nothing.
use mathlib.Core.Path.{◌≡◌, refl, sym, ◌∙◌, ap, ap₂}
use mathlib.Core.Bool.{Bool, true, false, not, cond, ◌&&◌, true≢false}
use mathlib.Core.List.{List, [], ◌∷◌, reverse}
use Prim.Native.Nat.{ℕ, zero, suc, ◌+◌, ◌-◌, ◌*◌, ◌/◌, ◌^◌, ◌<◌, ◌≤◌}
use native.Mathlib.Omega.{arith}
use native.Mathlib.Decide.{dec_lt}
use native.Mathlib.Nat.{pow-succ', zero-add, add-zero}
use native.Mathlib.Numerals.{add-one}
use lib.Dec.{eqb}
use lib.Bits.{bit_or, or_zero_l, or_add_and, and_le_r}
use lib.ListN.{length, get_or, take, drop, replicate}
use lib.Seq.{drop-cons, take_at}
use mir.Val.{Fits}
use mir.Syntax.{w32}
use borrow.Author.Tests.{eq-eqb, ne_eqb, lt-ltb, ltb-true, not-false}
use Rattle.std.specs.Prelude.{Ok, Err}
use Rattle.bits.specs.declared.Refusal.{Refusal}
use Rattle.bits.specs.Refusal.{number_of, log_of, accepted, fits, lowest, AnswersLowest}
use Rattle.bits.proofs.Numbers.{number-refused}
use Rattle.bits.proofs.Refusals.{log-width, is-width, not-width, answers-lowest, none-applies, both, shr-fits}
use Rattle.network.specs.declared.Controls.{Controls}
use Rattle.network.specs.declared.Carried.{Carried}
use Rattle.network.specs.declared.Prepared.{Prepared}
use Rattle.network.specs.declared.Decoded.{Decoded}
use Rattle.network.specs.Word.{prepared_of}
use Rattle.network.specs.Decoder.{decode_of, decode_inverse_of, in_use}
use Rattle.network.specs.Calls.{used_bits, controls_fit, network_conditions, network_refusal, network_answer, carried_by, prepare_answer, six, controls, decoded_with, decode_conditions, decode_refusal, decode_answer, no_controls}
use Rattle.network.proofs.MaskRouting.{length-decode}
use Rattle.network.proofs.Narrower.{decode-narrower}

and_assoc : (a b c : Bool) → ((a && b) && c) ≡ (a && (b && c))
and_assoc true b c = refl
and_assoc false b c = refl

or-none : (a b : ℕ) → eqb (bit_or a b) 0 ≡ (eqb a 0 && eqb b 0)
or-none a b = by (dec_lt 0 a)
  where
    by : Dec (0 < a) → eqb (bit_or a b) 0 ≡ (eqb a 0 && eqb b 0)
    by (yes h) =
        ne_eqb (bit_or a b) 0 (λ e. omega (arith, or_add_and a b, and_le_r a b, e))
        ∙ sym (ap (λ (t : Bool). t && eqb b 0) (ne_eqb a 0 (λ e. omega arith)))
    by (no n) = let z : a ≡ 0 = omega arith in rw (z, or_zero_l b)

-- the control bits in use

module _ (L at : ℕ) where
  fit-step : (cs : List ℕ) → at < length cs
      → controls_fit L at (drop at cs) ≡ (fits (used_bits L at) (get_or cs at 0) && controls_fit L (at + 1) (drop (at + 1) cs))
  fit-step cs h = rw (add-one at, drop-cons cs at 0)

  fit-now : (cs : List ℕ) → at < length cs → {u : ℕ} {b : Bool} → u ≡ used_bits L at → fits u (get_or cs at 0) ≡ b
      → (b && controls_fit L (at + 1) (drop (at + 1) cs)) ≡ controls_fit L at (drop at cs)
  fit-now cs h {u} {b} e f =
      sym (fit-step cs h
      ∙ ap (λ (n : ℕ). fits n (get_or cs at 0) && controls_fit L (at + 1) (drop (at + 1) cs)) (sym e)
      ∙ ap (λ (t : Bool). t && controls_fit L (at + 1) (drop (at + 1) cs)) f)

  -- the unused bits of one stage more, gathered
  pub fit-turn : (cs : List ℕ) → at < length cs → (found : ℕ) {u : ℕ} → u ≡ used_bits L at
      → (eqb (bit_or found (get_or cs at 0 / 2 ^ u)) 0 && controls_fit L (at + 1) (drop (at + 1) cs)) ≡ (eqb found 0 && controls_fit L at (drop at cs))
  fit-turn cs h found {u} e =
      let rest = controls_fit L (at + 1) (drop (at + 1) cs) in
      let unused = get_or cs at 0 / 2 ^ u in
      ap (λ (t : Bool). t && rest) (or-none found unused)
      ∙ and_assoc (eqb found 0) (eqb unused 0) rest
      ∙ ap (λ (t : Bool). eqb found 0 && t) (fit-now cs h e (sym (shr-fits (get_or cs at 0) u)))

-- by the width of each stage
pub each-fit : (L j : ℕ) (cs : List ℕ) → ((i : ℕ) → i < length cs → get_or cs i 0 < 2 ^ used_bits L (j + i)) → controls_fit L j cs ≡ true
each-fit L j [] f = refl
each-fit L j (c ∷ cs) f =
    let h : c < 2 ^ used_bits L j = rw add-zero at (f 0 (omega arith)) in
    ap (λ (b : Bool). b && controls_fit L (suc j) cs) (lt-ltb c (2 ^ used_bits L j) h)
    ∙ each-fit L (suc j) cs (λ i l. let n : j + suc i ≡ suc j + i = omega arith in rw n at (f (suc i) (omega arith)))

pub fit-each : (L j : ℕ) (cs : List ℕ) → controls_fit L j cs ≡ true → (i : ℕ) → i < length cs → get_or cs i 0 < 2 ^ used_bits L (j + i)
fit-each L j [] e i h = absurd (omega arith)
fit-each L j (c ∷ cs) e zero h = rw add-zero (ltb-true c (2 ^ used_bits L j) (both (fits (used_bits L j) c) (controls_fit L (suc j) cs) e).0)
fit-each L j (c ∷ cs) e (suc i) h =
    let n : suc j + i ≡ j + suc i = omega arith in rw n at (fit-each L (suc j) cs (both (fits (used_bits L j) c) (controls_fit L (suc j) cs) e).1 i (omega arith))

pub control-lt : (L : ℕ) → L ≤ 6 → (cs : List ℕ) → length cs ≡ 6 → controls_fit L 0 cs ≡ true → (i : ℕ) → i < L → get_or cs i 0 < 2 ^ 2 ^ (5 - (6 - L))
control-lt L h_l cs n e i h =
    let q : suc (5 - (6 - L)) ≡ L = omega arith in
    let p : 2 ^ L ≡ 2 * 2 ^ (5 - (6 - L)) = ap (λ (k : ℕ). 2 ^ k) (sym q) ∙ pow-succ' 2 (5 - (6 - L)) in
    let u : used_bits L (0 + i) ≡ 2 ^ (5 - (6 - L)) = rw (zero-add i, lt-ltb i L h) (omega (arith, p)) in
    rw u at (fit-each L 0 cs e i (omega arith))

-- the widths

-- neither 8 nor 16
module _ (w : ℕ) (h : accepted w ≡ true) (a : w ≡ 8 → ⊥) (b : w ≡ 16 → ⊥) where
  log-else : {t : Bool} → eqb w 32 ≡ t → log_of w ≡ cond t 5 (cond (eqb w 64) 6 0)
  log-else q = rw (ne_eqb w 8 a, ne_eqb w 16 b, q)

  pub is_64 : (w ≡ 32 → ⊥) → 6 ≡ log_of w
  is_64 n = by (eqb w 64) refl
    where
      by : (t : Bool) → eqb w 64 ≡ t → 6 ≡ log_of w
      by true q = sym (log-else (ne_eqb w 32 n) ∙ rw q)
      by false q = absurd (true≢false (sym h ∙ not-width w (log-else (ne_eqb w 32 n) ∙ rw q)))

-- a call on a network

module _ (w : ℕ) (cs : List ℕ) (x : ℕ) where
  -- the refusal, from the outcomes of the three tests: an accepted width, a word within it, controls that fit
  pub network-refusal-by : {a f g : Bool} → accepted w ≡ a → fits w x ≡ f → controls_fit (log_of w) 0 cs ≡ g
      → network_refusal w cs x ≡ lowest ((1, not a) ∷ (2, not f) ∷ (3, not g) ∷ [])
  unfolding network_refusal
  network-refusal-by p q r = λ i. lowest ((1, not (p i)) ∷ (2, not (q i)) ∷ (3, not (r i)) ∷ [])

  -- of an accepted width, by its logarithm
  pub refusal-by : {l : ℕ} → 0 < l → l ≡ log_of w → {f g : Bool} → fits w x ≡ f → controls_fit l 0 cs ≡ g
      → network_refusal w cs x ≡ lowest ((2, not f) ∷ (3, not g) ∷ [])
  refusal-by h q p r = network-refusal-by {a = true} (is-width w (λ z. omega (arith, q, z))) p (ap (λ (n : ℕ). controls_fit n 0 cs) (sym q) ∙ r)

  -- a call that is carried out is within the limits
  pub network-within : network_refusal w cs x ≡ 0 → (accepted w ≡ true) × (x < 2 ^ w) × (controls_fit (log_of w) 0 cs ≡ true)
  unfolding network_refusal
  network-within e =
      let n = none-applies (network_conditions w cs x) (omega arith) e in
      (not-false _ n.0, ltb-true x (2 ^ w) (not-false _ n.1.0), not-false _ n.1.1.0)

  pub network-limits : {l : ℕ} → 0 ≡ network_refusal w cs x → l ≡ log_of w → (x < 2 ^ 2 ^ l) × (controls_fit l 0 cs ≡ true)
  network-limits e q = let i = network-within (sym e) in (rw q (rw (log-width w i.0).0 at i.1), rw q i.2)

  pub width-refused : log_of w ≡ 0 → 1 ≡ network_refusal w cs x
  width-refused e = sym (network-refusal-by (not-width w e) refl refl)

  -- at width 64 every control bit is used, and every call is carried out
  pub whole-carried : length cs ≡ 6 → ((i : ℕ) → Fits w32 (get_or cs i 0)) → x < 2 ^ 64 → w ≡ 64 → 0 ≡ network_refusal w cs x
  whole-carried n u h e =
      let used = each-fit 6 0 cs (λ i l. rw (zero-add i, lt-ltb i 6 (omega arith)) (u i).fits) in
      sym (network-refusal-by {a = true} {f = true} {g = true} (rw e) (rw e (lt-ltb x (2 ^ 64) h)) (rw e used))

-- demand 1, of both networks
pub network-lowest : (f : ℕ → List ℕ → ℕ → ℕ) (w : ℕ) (k : Controls) (x : ℕ)
    → AnswersLowest (network_conditions w k.stages x) (λ a. a.refusal) (λ n. record { refusal = n; word = 0 }) (network_answer f w k x)
unfolding network_answer network_refusal
network-lowest f w k x =
    answers-lowest (network_conditions w k.stages x) (omega arith) (λ (a : Carried). a.refusal) (λ n. record { refusal = n; word = 0 })
    (record { refusal = 0; word = f (log_of w) k.stages x }) refl (λ n. refl)

module _ (f : ℕ → List ℕ → ℕ → ℕ) (w : ℕ) (k : Controls) (x : ℕ) where
  pub network-is : accepted w ≡ true → x < 2 ^ w → controls_fit (log_of w) 0 k.stages ≡ true
      → network_answer f w k x ≡ record { refusal = 0; word = f (log_of w) k.stages x }
  unfolding network_answer
  network-is a h g = rw (network-refusal-by w k.stages x a (lt-ltb x (2 ^ w) h) g)

  -- by the outcome
  pub network-refused : (r : Refusal) → number_of r ≡ network_refusal w k.stages x → carried_by (Err r) ≡ network_answer f w k x
  unfolding network_answer
  network-refused r e = rw (← e, number-refused r)

  pub network-done : 0 ≡ network_refusal w k.stages x → {l y : ℕ} → l ≡ log_of w → y ≡ f l k.stages x → carried_by (Ok y) ≡ network_answer f w k x
  unfolding network_answer
  network-done e q y = rw (← e, y, q)

-- a call that prepares a network

-- demand 1, of both: its conditions are those of a call on the word zero
pub prepare-lowest : (b : Bool) (w : ℕ) (k : Controls)
    → AnswersLowest (network_conditions w k.stages 0) (λ a. a.refusal) (λ n. record { refusal = n; swaps = replicate 6 0 }) (prepare_answer b w k)
unfolding prepare_answer network_refusal
prepare-lowest b w k =
    answers-lowest (network_conditions w k.stages 0) (omega arith) (λ (a : Prepared). a.refusal) (λ n. record { refusal = n; swaps = replicate 6 0 })
    (record { refusal = 0; swaps = prepared_of b (log_of w) k.stages }) refl (λ n. refl)

module _ (b : Bool) (w : ℕ) (k : Controls) where
  pub prepare-refused : (r : Refusal) → network_refusal w k.stages 0 ≡ number_of r
      → ◌≡◌ {A = Prepared} (record { refusal = number_of r; swaps = replicate 6 0 }) (prepare_answer b w k)
  unfolding prepare_answer
  prepare-refused r e = rw (e, number-refused r)

  pub prepare-done : network_refusal w k.stages 0 ≡ 0 → {ws : List ℕ} → ws ≡ prepared_of b (log_of w) k.stages
      → ◌≡◌ {A = Prepared} (record { refusal = 0; swaps = ws }) (prepare_answer b w k)
  unfolding prepare_answer
  prepare-done e y = rw (e, y)

-- a call of the decoder

module _ (w m : ℕ) where
  pub decode-refusal-by : {a f : Bool} → accepted w ≡ a → fits w m ≡ f → decode_refusal w m ≡ lowest ((1, not a) ∷ (2, not f) ∷ [])
  unfolding decode_refusal
  decode-refusal-by p q = λ i. lowest ((1, not (p i)) ∷ (2, not (q i)) ∷ [])

  -- demand 1, of the decoder
  pub decode-lowest : AnswersLowest (decode_conditions w m) (λ a. a.refusal) (λ n. record { refusal = n; butterfly = controls []; inverse = controls [] }) (decode_answer w m)
  unfolding decode_answer decode_refusal
  decode-lowest =
      answers-lowest (decode_conditions w m) (omega arith) (λ (a : Decoded). a.refusal) (λ n. record { refusal = n; butterfly = controls []; inverse = controls [] })
      (record { refusal = 0; butterfly = controls (decode_of (log_of w) m); inverse = controls (decode_inverse_of (log_of w) m) }) refl (λ n. refl)

  pub decode-refused : (r : Refusal) → number_of r ≡ decode_refusal w m → no_controls r ≡ decode_answer w m
  unfolding decode_answer
  decode-refused r e = rw (← e, number-refused r)

  pub decode-accepted : 0 ≡ decode_refusal w m → accepted w ≡ true
  unfolding decode_refusal
  decode-accepted e = not-false _ (none-applies (decode_conditions w m) (omega arith) (sym e)).0

  pub decode-done : {n : ℕ} → n ≡ decode_refusal w m → n ≡ 0 → {l : ℕ} {r : Decoded} → l ≡ log_of w
      → r ≡ record { refusal = 0; butterfly = controls (decode_of l m); inverse = controls (decode_inverse_of l m) } → r ≡ decode_answer w m
  unfolding decode_answer
  decode-done {n} e z {l} q d =
      d
      ∙ ap (λ (k : ℕ). record { refusal = 0; butterfly = controls (decode_of k m); inverse = controls (decode_inverse_of k m) }) q
      ∙ rw (← e, eq-eqb n 0 z)

  -- the same, from the controls at width 64
  pub decode-in-use : 0 ≡ decode_refusal w m → (l : ℕ) {cs : List ℕ} → l ≡ log_of w → cs ≡ decode_of 6 m → decoded_with (in_use l cs) ≡ decode_answer w m
  unfolding decode_inverse_of
  decode-in-use e l q c =
      let a = log-width w (decode-accepted e) in
      decode-done e refl q (rw (c, decode-narrower l (omega (arith, a.1, q)) (omega (arith, a.2, q)) m))

-- both networks' controls from the butterfly's
pub both-decoded : (l m : ℕ) {cs ds : List ℕ} → cs ≡ six (decode_of l m) → ds ≡ six (reverse (take l cs))
    → ◌≡◌ {A = Decoded} (record { refusal = 0; butterfly = record { stages = cs }; inverse = record { stages = ds } })
    (record { refusal = 0; butterfly = controls (decode_of l m); inverse = controls (decode_inverse_of l m) })
unfolding decode_inverse_of
both-decoded l m c d =
    let t : take l (six (decode_of l m)) ≡ decode_of l m = take_at (decode_of l m) (replicate (6 - length (decode_of l m)) 0) l (length-decode l m) in
    ap₂ (λ (a b : List ℕ). record { refusal = 0; butterfly = record { stages = a }; inverse = record { stages = b } }) c
    (d ∙ ap (λ (xs : List ℕ). six (reverse (take l xs))) c ∙ ap (λ (xs : List ℕ). six (reverse xs)) t)
