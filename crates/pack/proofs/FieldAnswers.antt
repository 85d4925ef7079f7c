-- What the calls' answers come to, by the tests that the code makes. Assumes nothing.
use mathlib.Core.Path.{◌≡◌, refl, sym, ◌∙◌, ap, ap₂}
use mathlib.Core.Bool.{Bool, false, not, cond, ◌||◌}
use mathlib.Core.List.{List, [], ◌∷◌, ◌++◌}
use Prim.Native.Nat.{ℕ, ◌-◌, ◌*◌, ◌≤◌}
use native.Mathlib.Omega.{arith}
use native.Mathlib.Nat.{mul-le-mul_right, zero-mul}
use lib.Dec.{eqb, ltb}
use lib.ListN.{length, take, drop, length-take, length-drop}
use borrow.Rule.Slice.PartMut.{Post-is}
use borrow.Author.Tests.{eq-eqb, ne_eqb, eqb-true, ltb-false, le-ltb, not-false}
use Rattle.bits.specs.declared.Refusal.{Refusal}
use Rattle.bits.specs.Refusal.{number_of, lowest, Rising, AnswersLowest, left_of}
use Rattle.bits.proofs.Numbers.{number-above}
use Rattle.bits.proofs.Refusals.{answers-leaving, left-done, left-refused, every-answer, lowest-more, none-applies, neither}
use Rattle.pack.specs.declared.Packed.{Packed}
use Rattle.bits.specs.Bit.{up_to}
use Rattle.pack.specs.Fields.{needed, cut, spare_bits, scattered_at, unpack_into}
use Rattle.pack.specs.Calls.{fields_conditions, fields_refusal, unpack_conditions, unpack_refusal, fields_answer}

-- the number of bits fits
pub bits-le : {k d : ℕ} → k ≤ 64 → d ≤ 2048 → k * d ≤ 131072
bits-le {k} {d} h l = omega (arith, mul-le-mul_right d h)

-- a call that is carried out is within the limits
pub record InLimits (k a b own other : ℕ) : Type 0 where
  pub start : a ≤ b
  pub end : b ≤ own
  pub own-limit : own ≤ 2048
  pub other-limit : other ≤ 2048
  pub room : needed (k * (b - a)) ≤ other

module _ (k a b own other : ℕ) where
  -- from the conditions of 9 and 10
  limits-hold : (ltb b a || (ltb own b || (ltb 2048 own || ltb 2048 other))) ≡ false → ltb other (needed (k * (b - a))) ≡ false → InLimits k a b own other
  limits-hold range short =
      let o = neither _ _ range in
      let p = neither _ _ o.1 in
      let q = neither _ _ p.1 in
      record {
        start = ltb-false b a o.0;
        end = ltb-false own b p.0;
        own-limit = ltb-false 2048 own q.0;
        other-limit = ltb-false 2048 other q.1;
        room = ltb-false other (needed (k * (b - a))) short;
      }

  pub within : fields_refusal k a b own other ≡ 0 → InLimits k a b own other
  unfolding fields_refusal
  within e =
      let n = none-applies (fields_conditions k a b own other) (omega arith) e in
      limits-hold n.0 n.1.0

  pub by-none : InLimits k a b own other → 0 ≡ fields_refusal k a b own other
  unfolding fields_refusal
  by-none w =
      simp (
        le-ltb b a w.start,
        le-ltb own b w.end,
        le-ltb 2048 own w.own-limit,
        le-ltb 2048 other w.other-limit,
        le-ltb other (needed (k * (b - a))) w.room,
      )

-- unpack: 9 and 10 first, then 11

module _ (k a b own : ℕ) (ps : List ℕ) where
  pub unpack-within : unpack_refusal k a b own ps ≡ 0 → InLimits k a b own (length ps) × (spare_bits (k * (b - a)) ps ≡ 0)
  unfolding unpack_refusal
  unpack-within e =
      let n = none-applies (unpack_conditions k a b own ps) (omega arith) e in
      (limits-hold k a b own (length ps) n.0 n.1.0, eqb-true (spare_bits (k * (b - a)) ps) 0 (not-false _ n.1.1.0))

  -- from the outcomes of the code's two tests
  pub unpack-refusal-by : {n : ℕ} {t : Bool} → n ≡ fields_refusal k a b own (length ps) → t ≡ not (eqb (spare_bits (k * (b - a)) ps) 0)
      → cond (eqb n 0) (cond t 11 0) n ≡ unpack_refusal k a b own ps
  unfolding unpack_refusal fields_refusal
  unpack-refusal-by {n} {t} e f =
      (λ i. cond (eqb (e i) 0) (cond (f i) 11 0) (e i))
      ∙ sym (lowest-more 0 (fields_conditions k a b own (length ps)) ((11, not (eqb (spare_bits (k * (b - a)) ps) 0)) ∷ []) (omega arith))

  -- a refusal by 9 or 10 is the call's
  pub by-fields : (r : Refusal) → number_of r ≡ fields_refusal k a b own (length ps) → number_of r ≡ unpack_refusal k a b own ps
  by-fields r e = rw (ne_eqb (number_of r) 0 (λ (z : number_of r ≡ 0). omega (arith, number-above r, z))) at (unpack-refusal-by e refl)

  pub by-none-spare : InLimits k a b own (length ps) → spare_bits (k * (b - a)) ps ≡ 0 → 0 ≡ unpack_refusal k a b own ps
  by-none-spare w z = unpack-refusal-by (by-none k a b own (length ps) w) (sym (ap not (eq-eqb (spare_bits (k * (b - a)) ps) 0 z)))

-- demand 1 of a rising list of conditions, of the answer and of the words lent

pub fields-lowest : (cs : List (ℕ × Bool)) → Rising 0 cs → (k a b : ℕ) (done out : List ℕ)
    → AnswersLowest {A = Packed × List ℕ} cs (λ r. r.0.refusal) (λ n. (record { refusal = n; count = 0; bits = 0 }, out))
    (fields_answer (lowest cs) k a b, left_of (lowest cs) done out)
unfolding fields_answer
fields-lowest cs rising k a b done out =
    answers-leaving cs rising (λ (r : Packed). r.refusal) (λ n. record { refusal = n; count = 0; bits = 0 })
    (record { refusal = 0; count = k; bits = k * (b - a) }) refl (λ n. refl) done out

-- the answer of a call with refusal n

module _ (n k a b : ℕ) where
  of-answer : (P : Packed → Type 0) → ((n ≡ 0 → ⊥) → P (record { refusal = n; count = 0; bits = 0 }))
      → (n ≡ 0 → P (record { refusal = 0; count = k; bits = k * (b - a) })) → P (fields_answer n k a b)
  unfolding fields_answer
  of-answer P zeros done = every-answer P n (λ r. record { refusal = r; count = 0; bits = 0 }) _ zeros done

  pub answer-refused : (n ≡ 0 → ⊥) → ◌≡◌ {A = Packed} (record { refusal = n; count = 0; bits = 0 }) (fields_answer n k a b)
  unfolding fields_answer
  answer-refused z = rw (ne_eqb n 0 z)

  pub answer-done : n ≡ 0 → ◌≡◌ {A = Packed} (record { refusal = 0; count = k; bits = k * (b - a) }) (fields_answer n k a b)
  unfolding fields_answer
  answer-done z = rw (eq-eqb n 0 z)

  -- its first number is the refusal; the bits are the count for each field, and the count is k where the call is carried out

  pub answer-refusal : (fields_answer n k a b).refusal ≡ n
  answer-refusal = of-answer (λ (r : Packed). r.refusal ≡ n) (λ z. refl) (λ z. sym z)

  pub answer-bits : (fields_answer n k a b).bits ≡ (fields_answer n k a b).count * (b - a)
  answer-bits = of-answer (λ (r : Packed). r.bits ≡ r.count * (b - a)) (λ z. sym (zero-mul (b - a))) (λ z. refl)

  pub answer-count : (fields_answer n k a b).refusal ≡ 0 → (fields_answer n k a b).count ≡ k
  answer-count = of-answer (λ (r : Packed). r.refusal ≡ 0 → r.count ≡ k) (λ z q. absurd (z q)) (λ z q. refl)

  pub answer-count-le : (fields_answer n k a b).count ≤ k
  answer-count-le = of-answer (λ (r : Packed). r.count ≤ k) (λ z. omega arith) (λ z. omega arith)

-- what a call answers and leaves, from what the code counted
module _ {n k : ℕ} (a b : ℕ) {size number : ℕ} {r : Packed} (s : size ≡ k) (e : number ≡ n) (h : r ≡ fields_answer number size a b) (done out : List ℕ) where
  answered : r ≡ fields_answer n k a b
  answered = h ∙ ap₂ (λ (m j : ℕ). fields_answer m j a b) e s

  pub refused : (number ≡ 0 → ⊥) → (r ≡ fields_answer n k a b) × (out ≡ left_of n done out)
  refused z = (answered, sym (left-refused (λ q. z (e ∙ q)) done out))

  pub carried-out : number ≡ 0 → {left : List ℕ} → left ≡ done → (r ≡ fields_answer n k a b) × (left ≡ left_of n done out)
  carried-out z l = (answered, l ∙ sym (left-done (sym e ∙ z) done out))

-- the same, of what the code makes: a refusal's answer, and that of a cut
module _ (n k a b : ℕ) (done out : List ℕ) where
  pub refusal-answered : (r : Refusal) → number_of r ≡ n → {answer : Packed} → answer ≡ record { refusal = number_of r; count = 0; bits = 0 }
      → (answer ≡ fields_answer n k a b) × (out ≡ left_of n done out)
  refusal-answered r e h =
      let z : number_of r ≡ 0 → ⊥ = λ z. omega (arith, number-above r, z) in
      refused a b {size = k} refl e (h ∙ answer-refused (number_of r) k a b z) done out z

  pub cut-answered : n ≡ 0 → {answer : Packed} → answer ≡ fields_answer 0 k a b → {left : List ℕ} → left ≡ done
      → (answer ≡ fields_answer n k a b) × (left ≡ left_of n done out)
  cut-answered z h l = carried-out a b {size = k} refl (sym z) h done out refl l

-- the part of a list from a up to b

module _ (a b : ℕ) (ws : List ℕ) (h : a ≤ b) (l : b ≤ length ws) where
  pub length_cut : length (cut a b ws) ≡ b - a
  length_cut = length-take (b - a) (drop a ws) ∙ omega (arith, length-drop a ws)

  -- room for the fields of the part
  pub cut-room : (k : ℕ) {other : ℕ} → needed (k * (b - a)) ≤ other → needed (k * length (cut a b ws)) ≤ other
  cut-room k r = rw length_cut r

  -- the part is filled
  pub cut-filled : (m : ℕ) (ps : List ℕ) {ys : List ℕ} → ys ≡ up_to (length (cut a b ws)) (scattered_at m ps)
      → take a ws ++ (ys ++ drop (b - a) (drop a ws)) ≡ unpack_into m ps a b ws
  unfolding unpack_into
  cut-filled m ps e = rw (e, length_cut, Post-is a b ws h)
