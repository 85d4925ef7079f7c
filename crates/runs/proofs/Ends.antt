-- What a run leaves of its list, its end, and a run from the check of its list. Assumes nothing.
use mathlib.Core.Path.{◌≡◌, refl, sym, ◌∙◌, ap, subst}
use mathlib.Core.Bool.{Bool, true, false, cond}
use mathlib.Core.List.{List, ◌++◌}
use Prim.Native.Nat.{ℕ, ◌*◌, ◌%◌, ◌≤◌}
use native.Mathlib.Omega.{arith}
use lib.Dec.{ltb}
use lib.ListN.{length, drop}
use borrow.Author.Tests.{eq-eqb}
use Rattle.std.specs.Prelude.{Result, Ok, Err, MatchResult, IsErrAnd}
use Rattle.bits.specs.declared.Refusal.{Refusal}
use Rattle.bits.specs.Refusal.{number_of}
use Rattle.bits.proofs.Numbers.{number-refused}
use Rattle.unit.specs.declared.Registers.{Registers}
use Rattle.unit.specs.declared.Bank.{Bank}
use Rattle.unit.specs.Bank.{with_status, with_waiting, bank_of, leaving}
use Rattle.unit.specs.Operation.{Operation}
use Rattle.unit.specs.Lent.{bare, carrying}
use Rattle.runs.specs.declared.Turn.{Turn}
use Rattle.runs.specs.declared.Outcome.{Outcome}
use Rattle.runs.specs.declared.Operations.{Operations}
use Rattle.runs.specs.StatusByte.{with_bit}
use Rattle.runs.specs.Run.{operations_of, ran_of, run_refusal, reaching, turn_of, end_of, status_bit, noted, remembering, drop_lent, ended_of, outcome_of, carried_out, refused_of, perform_of}
use Rattle.runs.proofs.OperationLists.{length-operations}
use Rattle.runs.proofs.Runs.{ran_le}
use Rattle.runs.proofs.BytesKept.{turn_by}

-- no more are run than there are bytes for
pub within-list : (bytes : List ℕ) (budget : ℕ) → length bytes % 4 ≡ 0 → {n : ℕ} → n ≡ ran_of budget (operations_of bytes) → 4 * n ≤ length bytes
within-list bytes budget h e =
    let a = ran_le budget (operations_of bytes) in
    let b = length-operations bytes h in
    omega (arith, a, b, e)

module _ (l bytes : List ℕ) where
  abbrev os : List Operation
  os = operations_of bytes

  -- the bank at the end, by the outcome of the test
  abbrev ended_by : Registers → ℕ → Bool → ℕ → Bank
  ended_by k n b e = noted (cond b (remembering (bank_of k l) (drop (4 * n) bytes)) (drop_lent (bank_of k l))) e

  module _ (k : Registers) (n : ℕ) {e : ℕ} (h : e ≡ end_of n os) {s : ℕ} (f : s ≡ with_bit k.status (status_bit e)) where
    by_end : (b : Bool) → ltb n (length os) ≡ b → ended_by k n b e ≡ ended_of (bank_of k l) bytes n
    by_end b t = ap (ended_by k n b) h ∙ ap (λ (c : Bool). ended_by k n c (end_of n os)) (sym t)

    pub ended-done : (e ≡ 2 → ⊥) → bank_of (with_waiting (with_status k s) 0 k.left) l ≡ ended_of (bank_of k l) bytes n
    ended-done p = ap (λ (t : ℕ). bank_of (with_waiting (with_status k t) 0 k.left) l) f ∙ by_end false (by-test (ltb n (length os)) refl)
      where
        by-test : (b : Bool) → ltb n (length os) ≡ b → ltb n (length os) ≡ false
        by-test true t = absurd (p (h ∙ ap (λ (c : Bool). cond c 2 1) t))
        by-test false t = t

    pub ended-spent : e ≡ 2 → {rest x : List ℕ} → rest ≡ drop (4 * n) bytes → x ≡ rest ++ drop (length rest) l
        → bank_of (with_waiting (with_status k s) 1 (length rest)) x ≡ ended_of (bank_of k l) bytes n
    ended-spent p {rest} g q =
        (λ i. bank_of (with_waiting (with_status k (f i)) 1 (length rest)) (q i))
        ∙ ap (λ (xs : List ℕ). noted (remembering (bank_of k l) xs) e) g
        ∙ by_end true (by-test (ltb n (length os)) refl (sym h ∙ p))
      where
        by-test : (b : Bool) → ltb n (length os) ≡ b → ◌≡◌ {A = ℕ} (cond b 2 1) 2 → ltb n (length os) ≡ true
        by-test true t x = t
        by-test false t x = absurd (omega arith)

  -- the end sees marks and list alone: the words that it leaves are those that it finds
  pub ended-marks : (k j : Registers) (n : ℕ) → let a = ended_of (bank_of k l) bytes n in
      bank_of (carrying a.registers j) a.list ≡ ended_of (bank_of (carrying k j) l) bytes n
  ended-marks k j n = by-test (ltb n (length os)) (end_of n os)
    where
      by-test : (b : Bool) (e : ℕ) → let a = ended_by k n b e in bank_of (carrying a.registers j) a.list ≡ ended_by (carrying k j) n b e
      by-test true e = refl
      by-test false e = refl

  -- a run by going on with the words alone, and the end of a bank with the marks of k, whatever its words
  pub carried-out : (k i : Registers) (budget : ℕ) {t : Turn} {j : Registers} → reaching t j ≡ turn_of (bare k) os budget → {e : ℕ} → e ≡ end_of t.ran os
      → {a : Registers} {x : List ℕ} → bank_of a x ≡ ended_of (bank_of (carrying k i) l) bytes t.ran
      → leaving (record { refusal = 0; «end» = e; ran = t.ran; cycles = t.cycles }) (bank_of (carrying a j) x) ≡ outcome_of (bank_of k l) bytes (turn_of k os budget)
  carried-out k i budget {t} {j} h p q =
      (λ y. leaving (record { refusal = 0; «end» = p y; ran = t.ran; cycles = t.cycles }) (bank_of (carrying (q y).registers j) (q y).list))
      ∙ ap (leaving (record { refusal = 0; «end» = end_of t.ran os; ran = t.ran; cycles = t.cycles })) (ended-marks (carrying k i) j t.ran)
      ∙ ap (outcome_of (bank_of k l) bytes) (turn_by k os budget h)

-- what the check lets through is carried out, and what it refuses is refused, by its number
pub performed : (checked : Result Operations Refusal) (numbered : Result Operations ℕ) (other : Bool) (bytes : List ℕ) (k : Bank) (budget : ℕ) {left : Outcome × Bank}
    → MatchResult checked (λ ops. (ops.bytes.now ≡ bytes) × (run_refusal other bytes ≡ 0)) (λ refusal. number_of refusal ≡ run_refusal other bytes)
    → MatchResult checked (λ ops. numbered ≡ Ok ops) (λ refusal. IsErrAnd numbered (λ number. number ≡ number_of refusal))
    → MatchResult numbered (λ ops. left ≡ carried_out k ops.bytes.now budget) (λ number. left ≡ refused_of k number)
    → left ≡ perform_of other k bytes budget
unfolding perform_of
performed (Ok ops) numbered other bytes k budget {left} r n e =
    let p : left ≡ carried_out k ops.bytes.now budget =
    subst (λ (c : Result Operations ℕ). MatchResult c (λ ops. left ≡ carried_out k ops.bytes.now budget) (λ number. left ≡ refused_of k number)) n e
    in
    rw (eq-eqb _ 0 r.1) (p ∙ ap (λ (b : List ℕ). carried_out k b budget) r.0)
performed (Err refusal) (Ok ops) other bytes k budget r n e = absurd n
performed (Err refusal) (Err number) other bytes k budget r n e = rw (← r, number-refused refusal) (e ∙ ap (refused_of k) n)
