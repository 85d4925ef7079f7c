-- Req 10: a run and its continuations come to one list of steps. Assumes nothing.
use mathlib.Core.Path.{◌≡◌, refl, sym, ◌∙◌, ap, subst, subst⁻¹}
use mathlib.Core.Bool.{Bool, true, false, not, cond, true≢false}
use mathlib.Core.List.{List, [], ◌∷◌, ◌++◌, map}
use mathlib.Core.Logic.{◌⊎◌, inl, inr}
use Prim.Native.Nat.{ℕ, zero, suc, ◌+◌, ◌*◌, ◌%◌, ◌<◌, ◌≤◌}
use native.Mathlib.Omega.{arith}
use lib.Dec.{eqb, ltb}
use lib.ListN.{length, get_or, take, drop, length-drop, drop_of_length-le}
use lib.Seq.{take-add, take-length}
use borrow.Author.Tests.{ltb-true, ltb-false, eq-eqb, le-leb}
use Rattle.bits.proofs.Refusals.{neither}
use Rattle.unit.specs.declared.Registers.{Registers}
use Rattle.unit.specs.declared.Bank.{Bank}
use Rattle.unit.specs.Bank.{waits, with_registers, with_register}
use Rattle.unit.specs.Operation.{figures, cycles_of, is_kind, used_of, are_registers, Operation, step_by}
use Rattle.unit.specs.Calls.{number_refusal, write_of, write_lent, written}
use Rattle.unit.specs.Lent.{bare}
use Rattle.unit.proofs.Carried.{step-carries}
use Rattle.runs.specs.declared.Outcome.{Outcome}
use Rattle.runs.specs.Run.{operations_of, steps_of, sum_of, ran_of, any_kind, any_register, run_refusal, end_of, noted, remembering, drop_lent, perform_of, run_of, continues, continue_of}
use Rattle.histories.specs.Continued.{remainder_of, Continuation, writes_lent, continued_by, continued_of, budgets_alone, Step, operating, writing, stepped, through_of, operations_in, as_writing, standing, Comes, AtLeastThree, WaitsAlike}
use Rattle.runs.proofs.OperationLists.{run-within, run-accepts, run_alone, operations-after}
use Rattle.runs.proofs.Runs.{ran-fits, ran_le, sum-append, steps-append}
use Rattle.runs.proofs.Ends.{within-list}
use Rattle.histories.proofs.Runs.{perform-is, perform-not, run-ample}
use Rattle.histories.proofs.Waiting.{remainder-exactly, writes_kept, spent-waits}

-- Steps

-- a step sees words alone
stepped-bare : (k : Registers) (s : Step) → bare (stepped k s) ≡ bare (stepped (bare k) s)
unfolding write_of
stepped-bare k (operating o) = ap bare (step-carries k o)
stepped-bare k (writing n v) = by-test (eqb (number_refusal n) 0)
  where
    by-test : (b : Bool) → bare (cond b (written 0 (with_register k n v)) (written (number_refusal n) k)).registers ≡ bare (cond b (written 0 (with_register (bare k) n v)) (written (number_refusal n) (bare k))).registers
    by-test true = refl
    by-test false = refl

through-bare : (k : Registers) (ss : List Step) → bare (through_of k ss) ≡ bare (through_of (bare k) ss)
unfolding through_of
through-bare k [] = refl
through-bare k (s ∷ ss) =
    through-bare (stepped k s) ss ∙ ap (λ (j : Registers). bare (through_of j ss)) (stepped-bare k s) ∙ sym (through-bare (stepped (bare k) s) ss)

-- so registers with the same words come to the same words
through-alike : (k j : Registers) (ss : List Step) → bare k ≡ bare j → bare (through_of k ss) ≡ bare (through_of j ss)
through-alike k j ss e = through-bare k ss ∙ ap (λ (i : Registers). bare (through_of i ss)) e ∙ sym (through-bare j ss)

through-append : (k : Registers) (ss ts : List Step) → through_of k (ss ++ ts) ≡ through_of (through_of k ss) ts
unfolding through_of
through-append k [] ts = refl
through-append k (s ∷ ss) ts = through-append (stepped k s) ss ts

through-operations : (k : Registers) (os : List Operation) → through_of k (map operating os) ≡ steps_of k os
unfolding through_of steps_of
through-operations k [] = refl
through-operations k (o ∷ os) = through-operations (step_by k o) os

through-writes : (k : Bank) (ws : List (ℕ × ℕ)) → through_of k.registers (map as_writing ws) ≡ (writes_lent k ws).registers
unfolding through_of writes_lent
through-writes k [] = refl
through-writes k (w ∷ ws) = through-writes (write_lent k w.0 w.1).1 ws

operations-in-operations : (os : List Operation) (ss : List Step) → operations_in (map operating os ++ ss) ≡ os ++ operations_in ss
unfolding operations_in
operations-in-operations [] ss = refl
operations-in-operations (o ∷ os) ss = ap (λ (ps : List Operation). o ∷ ps) (operations-in-operations os ss)

operations-in-writes : (ws : List (ℕ × ℕ)) (ss : List Step) → operations_in (map as_writing ws ++ ss) ≡ operations_in ss
unfolding operations_in
operations-in-writes [] ss = refl
operations-in-writes (w ∷ ws) ss = operations-in-writes ws ss

operations-in-all : (os : List Operation) → operations_in (map operating os) ≡ os
unfolding operations_in
operations-in-all [] = refl
operations-in-all (o ∷ os) = ap (λ (ps : List Operation). o ∷ ps) (operations-in-all os)

-- The rest of a list that is accepted is accepted

kinds-after : (n : ℕ) (os : List Operation) → any_kind os ≡ false → any_kind (drop n os) ≡ false
unfolding any_kind
kinds-after zero os e = e
kinds-after (suc n) [] e = e
kinds-after (suc n) (o ∷ os) e = kinds-after n os (neither (not (is_kind o.0 o.1)) (any_kind os) e).1

registers-after : (n : ℕ) (os : List Operation) → any_register os ≡ false → any_register (drop n os) ≡ false
unfolding any_register
registers-after zero os e = e
registers-after (suc n) [] e = e
registers-after (suc n) (o ∷ os) e = registers-after n os (neither (not (are_registers (used_of o.0 o.1 o.2 o.3))) (any_register os) e).1

accepted-after : (other : Bool) (bytes : List ℕ) (n : ℕ) → run_refusal other bytes ≡ 0 → 4 * n ≤ length bytes → run_refusal false (drop (4 * n) bytes) ≡ 0
unfolding run_refusal
accepted-after other bytes n e h =
    let w = run-within other bytes e in
    let a = run-accepts other bytes e in
    let l = length-drop (4 * n) bytes in
    let o = operations-after n bytes in
    let p : length (drop (4 * n) bytes) % 4 ≡ 0 = omega (arith, l, w.0, h) in
    let q : length (drop (4 * n) bytes) ≤ 4096 = omega (arith, l, w.1) in
    rw (eq-eqb _ 0 p, le-leb _ 4096 q, o, kinds-after n (operations_of bytes) a.0, registers-after n (operations_of bytes) a.1)

-- What is left: the bank waits for it, or no longer, where that is nothing
pub record Left (k : Bank) (os : List Operation) : Type 0 where
  pub rest : List ℕ
  pub are : operations_of rest ≡ os
  pub accepted : run_refusal false rest ≡ 0
  pub either : ((continues k rest ≡ true) × (0 < length os)) ⊎ ((waits k.registers ≡ false) × (os ≡ []))

-- r is the answer and the bank of going on from the registers k by os within a budget
pub record Came (k : Registers) (os : List Operation) (budget : ℕ) (r : Outcome × Bank) : Type 0 where
  pub ran : r.0.ran ≡ ran_of budget os
  pub cycles : r.0.cycles ≡ sum_of (take (ran_of budget os) os)
  pub words : bare r.1.registers ≡ bare (steps_of k (take (ran_of budget os) os))
  pub left : Left r.1 (drop (ran_of budget os) os)

module _ (other : Bool) (k : Bank) (bytes : List ℕ) (budget : ℕ) (e : run_refusal other bytes ≡ 0) where
  abbrev os : List Operation
  os = operations_of bytes

  abbrev n : ℕ
  n = ran_of budget os

  abbrev r : Outcome × Bank
  r = perform_of other k bytes budget

  ends : r.0.«end» ≡ end_of n os
  ends = ap (λ (a : Outcome × Bank). a.0.«end») (perform-is other k bytes budget e)

  left_after : Left r.1 (drop n os)
  left_after = record {
    rest = drop (4 * n) bytes;
    are = operations-after n bytes;
    accepted = accepted-after other bytes n e (within-list bytes budget (run-within other bytes e).0 refl);
    either = by-test (ltb n (length os)) refl;
  }
    where
      by-test : (b : Bool) → ltb n (length os) ≡ b → ((continues r.1 (drop (4 * n) bytes) ≡ true) × (0 < length (drop n os))) ⊎ ((waits r.1.registers ≡ false) × (drop n os ≡ []))
      by-test true t =
          let q = (spent-waits other k bytes budget e).1 (ends ∙ ap (λ (b : Bool). cond b 2 1) t) in
          let l = length-drop n os in
          let m = ltb-true n (length os) t in
          inl ((remainder-exactly r.1 (drop (4 * n) bytes)).1 (ap (λ (m : ℕ). not (eqb m 0)) q.0, sym q.1, q.2), omega (arith, l, m))
      by-test false t =
          inr ((spent-waits other k bytes budget e).0 ∙ ap (λ (m : ℕ). eqb m 2) (ends ∙ ap (λ (b : Bool). cond b 2 1) t), drop_of_length-le os (ltb-false n (length os) t))

  pub came-performed : Came k.registers os budget r
  came-performed =
      let p = perform-is other k bytes budget e in
      record {
        ran = ap (λ (a : Outcome × Bank). a.0.ran) p;
        cycles = ap (λ (a : Outcome × Bank). a.0.cycles) p;
        words = ap (λ (a : Outcome × Bank). bare a.1.registers) p ∙ by-test (ltb n (length os));
        left = left_after;
      }
    where
      j : Bank
      j = with_registers k (steps_of k.registers (take n os))

      by-test : (b : Bool) → bare (noted (cond b (remembering j (drop (4 * n) bytes)) (drop_lent j)) (end_of n os)).registers ≡ bare j.registers
      by-test true = refl
      by-test false = refl

-- where none waits, a run continued runs nothing
came_refused : (k : Bank) (bytes : List ℕ) (budget : ℕ) → waits k.registers ≡ false → Came k.registers [] budget (continue_of k bytes budget)
unfolding ran_of sum_of steps_of operations_of run_refusal any_kind any_register
came_refused k bytes budget w =
    let t : not (continues k bytes) ≡ true = rw w in
    let p = perform-not (not (continues k bytes)) k bytes budget (λ e. true≢false (sym t ∙ run_alone (not (continues k bytes)) bytes e)) in
    subst⁻¹ (Came k.registers [] budget) p
    (record { ran = refl; cycles = refl; words = refl; left = record { rest = []; are = refl; accepted = refl; either = inr (w, refl) } })

came-next : (k : Bank) (os : List Operation) → Left k os → (c : Continuation) → Came (writes_lent k c.writes).registers os c.budget (continued_by k c)
came-next k os h c = by-case h.either
  where
    j : Bank
    j = writes_lent k c.writes

    a : WaitsAlike k j
    a = writes_kept k c.writes

    alike : waits j.registers ≡ waits k.registers
    alike = ap (λ (m : ℕ). not (eqb m 0)) a.waiting

    by-case : ((continues k h.rest ≡ true) × (0 < length os)) ⊎ ((waits k.registers ≡ false) × (os ≡ [])) → Came j.registers os c.budget (continue_of j (remainder_of j) c.budget)
    by-case (inl t) =
        let e = (remainder-exactly k h.rest).0 t.0 in
        let r : remainder_of j ≡ h.rest = (λ i. take (a.left i) (a.list i)) ∙ e.2 in
        let s : continues j h.rest ≡ true = (remainder-exactly j h.rest).1 (alike ∙ e.0, e.1 ∙ sym a.left, r) in
        let q : perform_of false j h.rest c.budget ≡ continue_of j (remainder_of j) c.budget =
        (λ i. perform_of (not (sym s i)) j h.rest c.budget) ∙ ap (λ (bytes : List ℕ). continue_of j bytes c.budget) (sym r)
        in
        subst (Came j.registers os c.budget) q
        (subst (λ (ps : List Operation). Came j.registers ps c.budget (perform_of false j h.rest c.budget)) h.are (came-performed false j h.rest c.budget h.accepted))
    by-case (inr t) = subst⁻¹ (λ (ps : List Operation). Came j.registers ps c.budget (continue_of j (remainder_of j) c.budget)) t.1 (came_refused j (remainder_of j) c.budget (alike ∙ t.0))

-- All together

module _ (k : Registers) (os : List Operation) (budget : ℕ) (r : Outcome × Bank) (h : Came k os budget r) where
  abbrev m : ℕ
  m = ran_of budget os

  comes-none : Comes k os (standing os budget []) (continued_of r [])
  unfolding continued_of standing
  comes-none = record {
    words = h.words ∙ ap bare (sym (through-operations k (take m os)));
    within = subst⁻¹ (λ (x : ℕ). x ≤ length os) h.ran (ran_le budget os);
    ran = operations-in-all (take m os) ∙ ap (λ (x : ℕ). take x os) (sym h.ran);
    cycles = h.cycles ∙ ap sum_of (sym (operations-in-all (take m os)));
    all = λ w. h.ran ∙ by-case w h.left.either;
  }
    where
      by-case : waits r.1.registers ≡ false → ((continues r.1 h.left.rest ≡ true) × (0 < length (drop m os))) ⊎ ((waits r.1.registers ≡ false) × (drop m os ≡ [])) → m ≡ length os
      by-case w (inl t) = absurd (true≢false (sym ((remainder-exactly r.1 h.left.rest).0 t.0).0 ∙ w))
      by-case w (inr t) =
          let l = sym (length-drop m os) ∙ ap length t.1 in
          let x = ran_le budget os in
          omega (arith, l, x)

  comes-more : (c : Continuation) (cs : List Continuation)
      → Comes (writes_lent r.1 c.writes).registers (drop m os) (standing (drop m os) c.budget cs) (continued_of (continued_by r.1 c) cs)
      → Comes k os (standing os budget (c ∷ cs)) (continued_of r (c ∷ cs))
  unfolding continued_of standing
  comes-more c cs i =
      let ss = standing (drop m os) c.budget cs in
      let ws = map as_writing c.writes in
      let t = continued_of (continued_by r.1 c) cs in
      let l = length-drop m os in
      let x = ran_le budget os in
      let in_all : operations_in (map operating (take m os) ++ (ws ++ ss)) ≡ take m os ++ operations_in ss =
      operations-in-operations (take m os) (ws ++ ss) ∙ ap (λ (ps : List Operation). take m os ++ ps) (operations-in-writes c.writes ss)
      in
      record {
        words = i.words
            ∙ ap (λ (j : Registers). bare (through_of j ss)) (sym (through-writes r.1 c.writes))
            ∙ ap bare (sym (through-append r.1.registers ws ss))
            ∙ through-alike r.1.registers (steps_of k (take m os)) (ws ++ ss) h.words
            ∙ ap (λ (j : Registers). bare (through_of j (ws ++ ss))) (sym (through-operations k (take m os)))
            ∙ ap bare (sym (through-append k (map operating (take m os)) (ws ++ ss)));
        within = omega (arith, l, x, i.within, h.ran);
        ran = in_all ∙ ap (λ (ps : List Operation). take m os ++ ps) i.ran ∙ sym (take-add m t.0.ran os) ∙ ap (λ (y : ℕ). take (y + t.0.ran) os) (sym h.ran);
        cycles = (λ y. h.cycles y + i.cycles y) ∙ sym (sum-append (take m os) (operations_in ss)) ∙ ap sum_of (sym in_all);
        all = λ w. let a = i.all w in omega (arith, l, x, a, h.ran);
      }

comes : (k : Registers) (os : List Operation) (budget : ℕ) (r : Outcome × Bank) → Came k os budget r → (cs : List Continuation) → Comes k os (standing os budget cs) (continued_of r cs)
comes k os budget r h [] = comes-none k os budget r h
comes k os budget r h (c ∷ cs) =
    let rest = drop (ran_of budget os) os in
    comes-more k os budget r h c cs (comes (writes_lent r.1 c.writes).registers rest c.budget (continued_by r.1 c) (came-next r.1 rest h.left c) cs)

-- A new run that is carried out and all that continues it, writes between: they come to the steps in which those writes stand where each continuation took it up.
pub continued-steps : (k : Bank) (bytes : List ℕ) (budget : ℕ) (cs : List Continuation) → run_refusal (waits k.registers) bytes ≡ 0
    → Comes k.registers (operations_of bytes) (standing (operations_of bytes) budget cs) (continued_of (run_of k bytes budget) cs)
continued-steps k bytes budget cs e =
    comes k.registers (operations_of bytes) budget (run_of k bytes budget) (came-performed (waits k.registers) k bytes budget e) cs

-- without writes, the steps are operations
no_writes : (k : Registers) (os : List Operation) (budget : ℕ) (bs : List ℕ) → let ss = standing os budget (budgets_alone bs) in through_of k ss ≡ steps_of k (operations_in ss)
unfolding standing
no_writes k os budget [] = through-operations k (take (ran_of budget os) os) ∙ ap (steps_of k) (sym (operations-in-all (take (ran_of budget os) os)))
no_writes k os budget (b ∷ bs) =
    let n = ran_of budget os in
    let ss = standing (drop n os) b (budgets_alone bs) in
    through-append k (map operating (take n os)) ss
    ∙ ap (λ (j : Registers). through_of j ss) (through-operations k (take n os))
    ∙ no_writes (steps_of k (take n os)) (drop n os) b bs
    ∙ sym (steps-append k (take n os) (operations_in ss))
    ∙ ap (steps_of k) (sym (operations-in-operations (take n os) ss))

-- Without writes, continued until the bank no longer waits, it leaves the general and control registers of one run with an ample budget, and the operations run and
-- their cycles add up to that run's.
pub continued-ample : (k : Bank) (bytes : List ℕ) (budget : ℕ) (bs : List ℕ) (ample : ℕ) → run_refusal (waits k.registers) bytes ≡ 0 → sum_of (operations_of bytes) ≤ ample
    → let t = continued_of (run_of k bytes budget) (budgets_alone bs) in let a = run_of k bytes ample in
    waits t.1.registers ≡ false → (bare t.1.registers ≡ bare a.1.registers) × (t.0.ran ≡ a.0.ran) × (t.0.cycles ≡ a.0.cycles)
continued-ample k bytes budget bs ample e h w =
    let os = operations_of bytes in
    let ss = standing os budget (budgets_alone bs) in
    let t = continued_of (run_of k bytes budget) (budgets_alone bs) in
    let c = continued-steps k bytes budget (budgets_alone bs) e in
    let p = run-ample (waits k.registers) k bytes ample e h in
    let n : t.0.ran ≡ length os = c.all w in
    let o : operations_in ss ≡ os = c.ran ∙ ap (λ (m : ℕ). take m os) n ∙ take-length os in (
      c.words ∙ ap bare (no_writes k.registers os budget bs ∙ ap (steps_of k.registers) o) ∙ sym (ap (λ (a : Outcome × Bank). bare a.1.registers) p),
      n ∙ sym (ap (λ (a : Outcome × Bank). a.0.ran) p),
      c.cycles ∙ ap sum_of o ∙ sym (ap (λ (a : Outcome × Bank). a.0.cycles) p),
    )

-- Continuing ends

-- no kind takes more than three cycles
abbrev AtMostThree : List ℕ → Type 0
AtMostThree [] = Unit
AtMostThree (x ∷ xs) = (x ≤ 3) × AtMostThree xs

at-most-three : (xs : List ℕ) (n : ℕ) → AtMostThree xs → get_or xs n 0 ≤ 3
at-most-three [] n a = omega arith
at-most-three (x ∷ xs) zero a = a.0
at-most-three (x ∷ xs) (suc n) a = at-most-three xs n a.1

cycles-le : (kind : ℕ) → cycles_of kind ≤ 3
unfolding cycles_of
cycles-le kind = at-most-three figures kind (omega arith, (omega arith, (omega arith, (omega arith, (omega arith, (omega arith, (omega arith, (omega arith, (omega arith, (omega arith, (omega arith, tt)))))))))))

-- so three run one of them
pub ran-some : (budget : ℕ) (os : List Operation) → 3 ≤ budget → (length os ≡ 0) ⊎ (1 ≤ ran_of budget os)
ran-some budget [] h = inl refl
ran-some budget (o ∷ os) h =
    let c = cycles-le o.0 in
    let e = ran-fits budget o os (omega (arith, c)) in
    inr (omega (arith, e))

ending : (k : Registers) (os : List Operation) (budget : ℕ) (r : Outcome × Bank) → Came k os budget r → 3 ≤ budget → (cs : List Continuation) → AtLeastThree cs → length os ≤ suc (length cs)
    → waits (continued_of r cs).1.registers ≡ false
unfolding continued_of
ending k os budget r h b [] a l = by-case h.left.either (ran-some budget os b)
  where
    by-case : ((continues r.1 h.left.rest ≡ true) × (0 < length (drop (ran_of budget os) os))) ⊎ ((waits r.1.registers ≡ false) × (drop (ran_of budget os) os ≡ []))
        → (length os ≡ 0) ⊎ (1 ≤ ran_of budget os) → waits r.1.registers ≡ false
    by-case (inl t) (inl z) = let d = length-drop (ran_of budget os) os in absurd (omega (arith, d, t.1, z))
    by-case (inl t) (inr s) = let d = length-drop (ran_of budget os) os in absurd (omega (arith, d, t.1, s, l))
    by-case (inr t) s = t.0
ending k os budget r h b (c ∷ cs) a l =
    let rest = drop (ran_of budget os) os in
    ending (writes_lent r.1 c.writes).registers rest c.budget (continued_by r.1 c) (came-next r.1 rest h.left c) a.0 cs a.1 (fewer (ran-some budget os b))
  where
    fewer : (length os ≡ 0) ⊎ (1 ≤ ran_of budget os) → length (drop (ran_of budget os) os) ≤ suc (length cs)
    fewer (inl z) = let d = length-drop (ran_of budget os) os in omega (arith, d, z)
    fewer (inr s) = let d = length-drop (ran_of budget os) os in omega (arith, d, s, l)

-- Continuing ends: budgets of three cycles or more run at least one operation each, so a list of n operations waits at most n - 1 times, writes or not.
pub continued-ends : (k : Bank) (bytes : List ℕ) (budget : ℕ) (cs : List Continuation) → run_refusal (waits k.registers) bytes ≡ 0 → 3 ≤ budget → AtLeastThree cs
    → length (operations_of bytes) ≤ suc (length cs) → waits (continued_of (run_of k bytes budget) cs).1.registers ≡ false
continued-ends k bytes budget cs e b a l =
    ending k.registers (operations_of bytes) budget (run_of k bytes budget) (came-performed (waits k.registers) k bytes budget e) b cs a l
