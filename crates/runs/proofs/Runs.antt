-- A run as one goes through its operations. Assumes nothing.
use mathlib.Core.Path.{◌≡◌, refl, sym, ◌∙◌, ap}
use mathlib.Core.Bool.{Bool, true, false, cond}
use mathlib.Core.List.{List, [], ◌∷◌, ◌++◌}
use Prim.Native.Nat.{ℕ, zero, suc, ◌+◌, ◌-◌, ◌<◌, ◌≤◌}
use native.Mathlib.Omega.{arith}
use native.Mathlib.Decide.{dec_lt}
use lib.Dec.{leb}
use lib.ListN.{length, take, drop}
use lib.Seq.{take-add}
use borrow.Author.Tests.{le-leb, lt-leb}
use Rattle.unit.specs.declared.Registers.{Registers}
use Rattle.unit.specs.Operation.{cycles_of, Operation, step_by}
use Rattle.runs.specs.Run.{steps_of, sum_of, ran_of, reaching, turn_of}

module _ (left : ℕ) (o : Operation) (os : List Operation) where
  pub ran-fits : cycles_of o.0 ≤ left → ran_of left (o ∷ os) ≡ suc (ran_of (left - cycles_of o.0) os)
  unfolding ran_of
  ran-fits h = ap (λ (b : Bool). cond b (suc (ran_of (left - cycles_of o.0) os)) 0) (le-leb (cycles_of o.0) left h)

  pub ran-stops : left < cycles_of o.0 → ran_of left (o ∷ os) ≡ 0
  unfolding ran_of
  ran-stops h = ap (λ (b : Bool). cond b (suc (ran_of (left - cycles_of o.0) os)) 0) (lt-leb (cycles_of o.0) left h)

-- no more are run than there are
pub ran_le : (left : ℕ) (os : List Operation) → ran_of left os ≤ length os
unfolding ran_of
ran_le left [] = omega arith
ran_le left (o ∷ os) = by-test (leb (cycles_of o.0) left) (ran_le (left - cycles_of o.0) os)
  where
    by-test : (b : Bool) → ran_of (left - cycles_of o.0) os ≤ length os → cond b (suc (ran_of (left - cycles_of o.0) os)) 0 ≤ suc (length os)
    by-test true h = omega arith
    by-test false h = omega arith

-- all operations are run if their sum fits
pub ran-ample : (left : ℕ) (os : List Operation) → sum_of os ≤ left → ran_of left os ≡ length os
unfolding sum_of ran_of
ran-ample left [] h = refl
ran-ample left (o ∷ os) h =
    ran-fits left o os (omega arith) ∙ ap suc (ran-ample (left - cycles_of o.0) os (omega arith))

-- the operations run fit
pub ran-within : (left : ℕ) (os : List Operation) → sum_of (take (ran_of left os) os) ≤ left
unfolding sum_of ran_of
ran-within left [] = omega arith
ran-within left (o ∷ os) = by-test (dec_lt left (cycles_of o.0)) (ran-within (left - cycles_of o.0) os)
  where
    by-test : Dec (left < cycles_of o.0) → sum_of (take (ran_of (left - cycles_of o.0) os) os) ≤ left - cycles_of o.0
        → sum_of (take (ran_of left (o ∷ os)) (o ∷ os)) ≤ left
    by-test (yes h) r = rw (ran-stops left o os h) (omega arith)
    by-test (no h) r = rw (ran-fits left o os (omega arith)) (omega arith)

-- and the next one, if there is one, does not: "an operation is left and does not fit"
pub ran-next : (left : ℕ) (os : List Operation) → ran_of left os < length os → left < sum_of (take (suc (ran_of left os)) os)
unfolding sum_of ran_of
ran-next left [] h = absurd (omega arith)
ran-next left (o ∷ os) h = by-test (dec_lt left (cycles_of o.0)) (ran-next (left - cycles_of o.0) os)
  where
    by-test : Dec (left < cycles_of o.0)
        → (ran_of (left - cycles_of o.0) os < length os → left - cycles_of o.0 < sum_of (take (suc (ran_of (left - cycles_of o.0) os)) os))
        → left < sum_of (take (suc (ran_of left (o ∷ os))) (o ∷ os))
    by-test (yes l) r = rw (ran-stops left o os l) (omega arith)
    by-test (no l) r =
        let e = ran-fits left o os (omega arith) in
        let s = r (omega (arith, e)) in
        rw e (omega (arith, s))

-- one list after another
pub sum-append : (os ps : List Operation) → sum_of (os ++ ps) ≡ sum_of os + sum_of ps
unfolding sum_of
sum-append [] ps = omega arith
sum-append (o ∷ os) ps = let e = sum-append os ps in omega (arith, e)

pub steps-append : (k : Registers) (os ps : List Operation) → steps_of k (os ++ ps) ≡ steps_of (steps_of k os) ps
unfolding steps_of
steps-append k [] ps = refl
steps-append k (o ∷ os) ps = steps-append (step_by k o) os ps

-- Two turns in one: the first n operations cost what they cost, and the others are within what is left
pub ran-more : (n r : ℕ) (os : List Operation) → n ≤ length os → ran_of (sum_of (take n os) + r) os ≡ n + ran_of r (drop n os)
unfolding sum_of
ran-more zero r os h =
    let e : 0 + r ≡ r = omega arith in
    let f : ran_of r os ≡ 0 + ran_of r os = omega arith in
    ap (λ (m : ℕ). ran_of m os) e ∙ f
ran-more (suc n) r [] h = absurd (omega arith)
ran-more (suc n) r (o ∷ os) h =
    let c = cycles_of o.0 in
    let s = sum_of (take n os) in
    let e : c + s + r - c ≡ s + r = omega arith in
    let i = ran-more n r os (omega arith) in
    ran-fits (c + s + r) o os (omega arith) ∙ ap (λ (m : ℕ). suc (ran_of m os)) e ∙ omega (arith, i)

-- a turn, and from where it stopped another: one turn, with what the first used and the second is given
pub turn_more : (k : Registers) (os : List Operation) (budget more : ℕ) → let t = turn_of k os budget in let u = turn_of t.1 (drop t.0.ran os) more in
    reaching (record { ran = t.0.ran + u.0.ran; cycles = t.0.cycles + u.0.cycles }) u.1 ≡ turn_of k os (t.0.cycles + more)
turn_more k os budget more =
    let n = ran_of budget os in
    let m = ran_of more (drop n os) in
    let e = ran-more n more os (ran_le budget os) in
    let a = take-add n m os in
    let s = sym (sum-append (take n os) (take m (drop n os))) ∙ ap sum_of (sym a) in
    let j = sym (steps-append k (take n os) (take m (drop n os))) ∙ ap (steps_of k) (sym a) in
    (λ i. reaching (record { ran = n + m; cycles = s i }) (j i)) ∙ ap (λ (x : ℕ). reaching (record { ran = x; cycles = sum_of (take x os) }) (steps_of k (take x os))) (sym e)

-- After n operations of a run on k by os, with `rest` still to come: the registers are j and `left` is left of the budget, and to go on from there comes to the whole run.
pub record Going (k : Registers) (os : List Operation) (budget : ℕ) (j : Registers) (left n : ℕ) (rest : List Operation) : Type 0 where
  pub within : left ≤ budget
  pub counts : n + ran_of left rest ≡ ran_of budget os
  pub sums : (budget - left) + sum_of (take (ran_of left rest) rest) ≡ sum_of (take (ran_of budget os) os)
  pub banks : steps_of j (take (ran_of left rest) rest) ≡ steps_of k (take (ran_of budget os) os)

pub going-none : {k : Registers} {os : List Operation} {budget : ℕ} → Going k os budget k budget 0 os
going-none = record { within = omega arith; counts = omega arith; sums = omega arith; banks = refl }

module _ {k : Registers} {os : List Operation} {budget : ℕ} {j : Registers} {left n : ℕ} where
  pub going_next : {o : Operation} {rest : List Operation} → Going k os budget j left n (o ∷ rest) → {c : ℕ} → c ≡ cycles_of o.0 → c ≤ left
      → {i : Registers} → i ≡ step_by j o → Going k os budget i (left - c) (n + 1) rest
  unfolding sum_of steps_of
  going_next {o} {rest} h {c} e l {i} f =
      let m = ran_of (left - cycles_of o.0) rest in
      let r : ran_of left (o ∷ rest) ≡ suc m = ran-fits left o rest (omega arith) in
      let s : (budget - left) + (cycles_of o.0 + sum_of (take m rest)) ≡ sum_of (take (ran_of budget os) os) = rw r at h.sums in
      let b : steps_of (step_by j o) (take m rest) ≡ steps_of k (take (ran_of budget os) os) = rw r at h.banks in
      let w = h.within in
      let g : Going k os budget (step_by j o) (left - cycles_of o.0) (n + 1) rest =
      record { within = omega arith; counts = omega (arith, h.counts); sums = omega (arith, s); banks = b }
      in
      rw (e, f) g

  -- where none of the rest is run, this is as far as it goes
  reached : {rest : List Operation} → Going k os budget j left n rest → ran_of left rest ≡ 0 → reaching (record { ran = n; cycles = budget - left }) j ≡ turn_of k os budget
  unfolding sum_of steps_of
  reached h r =
      let q : n + 0 ≡ ran_of budget os = rw r at h.counts in
      let s : (budget - left) + 0 ≡ sum_of (take (ran_of budget os) os) = rw r at h.sums in
      let b : j ≡ steps_of k (take (ran_of budget os) os) = rw r at h.banks in
      let p : n ≡ ran_of budget os = omega (arith, q) in
      let t : budget - left ≡ sum_of (take (ran_of budget os) os) = omega (arith, s) in
      λ i. reaching (record { ran = p i; cycles = t i }) (b i)

  pub going-spent : {o : Operation} {rest : List Operation} → Going k os budget j left n (o ∷ rest) → {c : ℕ} → c ≡ cycles_of o.0 → left < c
      → reaching (record { ran = n; cycles = budget - left }) j ≡ turn_of k os budget
  going-spent {o} {rest} h e l = reached h (ran-stops left o rest (omega arith))

  pub going_done : Going k os budget j left n [] → reaching (record { ran = n; cycles = budget - left }) j ≡ turn_of k os budget
  unfolding ran_of
  going_done h = reached h refl
