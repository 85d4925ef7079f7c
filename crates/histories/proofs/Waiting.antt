-- Req 10: what a bank remembers, and how long. Assumes nothing.
use mathlib.Core.Path.{◌≡◌, refl, sym, ◌∙◌, ap, subst, subst⁻¹}
use mathlib.Core.Bool.{Bool, true, false, not, cond, true≢false}
use mathlib.Core.List.{List, [], ◌∷◌, ◌++◌}
use mathlib.Core.Logic.{◌↔◌}
use Prim.Native.Nat.{ℕ, ◌*◌, ◌<◌}
use native.Mathlib.Omega.{arith}
use lib.Dec.{eqb, ltb}
use lib.ListN.{length, take, drop, length-take}
use lib.Seq.{take-append_seam}
use borrow.Author.Tests.{eq-eqb, eqb-true}
use Rattle.bits.specs.Bit.{bit, of_bits}
use Rattle.bits.proofs.Refusals.{both}
use Rattle.unit.specs.declared.Registers.{Registers}
use Rattle.unit.specs.declared.Bank.{Bank}
use Rattle.unit.specs.Bank.{fresh, fresh_bank, with_words, with_register, waits, with_registers, leaving}
use Rattle.unit.specs.Operation.{cycles_of, operation_refusal, load_of, effect_of, Operation}
use Rattle.unit.specs.Calls.{operate_of, number_refusal, write_of, write_lent}
use Rattle.unit.specs.Lent.{bare, carrying}
use Rattle.unit.proofs.Carried.{operate-words, write-words}
use Rattle.runs.specs.declared.Turn.{Turn}
use Rattle.runs.specs.declared.Outcome.{Outcome}
use Rattle.runs.specs.StatusByte.{with_bit}
use Rattle.runs.specs.Run.{operations_of, steps_of, sum_of, ran_of, any_kind, any_register, run_refusal, turn_of, reaching, end_of, noted, remembering, drop_of, drop_lent, outcome_of, perform_of, run_of, same, is_remainder, continues, continue_of}
use Rattle.histories.specs.BankCalls.{BankCall, call_look, call_operate, call_run, call_continue, call_drop, call_frame, call_write, call_enable, call_acknowledge, left_by}
use Rattle.histories.specs.Continued.{remainder_of, writes_lent, Ending, WaitsAlike}
use Rattle.runs.proofs.OperationLists.{run_alone}
use Rattle.runs.proofs.Remainders.{same-eq, same_refl}
use Rattle.runs.proofs.BytesKept.{steps-carry}
use Rattle.histories.proofs.Runs.{perform-is, perform-not, run-ample}
use Rattle.histories.proofs.Frames.{refused-in}

-- A fresh bank does not wait.
pub fresh-waits-not : waits fresh ≡ false
fresh-waits-not = refl

-- A list continues a run exactly if the bank waits and the list is its remainder: of as many bytes as are left, and each the bank's.
pub remainder-exactly : (k : Bank) (bytes : List ℕ)
    → (continues k bytes ≡ true) ↔ ((waits k.registers ≡ true) × (length bytes ≡ k.registers.left) × (remainder_of k ≡ bytes))
remainder-exactly k bytes = (
  λ e.
      let w = both (waits k.registers) (is_remainder k.registers.left k.list bytes) e in
      let r = both (eqb (length bytes) k.registers.left) (same (remainder_of k) bytes) w.1 in
      (w.0, eqb-true (length bytes) k.registers.left r.0, same-eq (remainder_of k) bytes r.1),
  λ h. rw (h.0, eq-eqb (length bytes) k.registers.left h.1, h.2) (same_refl bytes),
)

-- Where more bytes are left than the bank's list has, no list continues it.
pub too-many-left : (k : Bank) (bytes : List ℕ) → length k.list < k.registers.left → continues k bytes ≡ false
too-many-left k bytes h = by-test (continues k bytes) refl
  where
    by-test : (b : Bool) → continues k bytes ≡ b → b ≡ false
    by-test true e =
        let r = (remainder-exactly k bytes).0 e in
        let l = sym (length-take k.registers.left k.list) ∙ ap length r.2 in
        absurd (omega (arith, l, r.1, h))
    by-test false e = refl

-- Where none is left of a run that waits, the empty list does, and is done.
pub none_left : (k : Bank) (budget : ℕ) → waits k.registers ≡ true → k.registers.left ≡ 0
    → continue_of k [] budget ≡ leaving (record { refusal = 0; «end» = 1; ran = 0; cycles = 0 }) (noted (drop_lent k) 1)
unfolding run_refusal operations_of any_kind any_register sum_of steps_of
none_left k budget w e =
    let c = (remainder-exactly k []).1 (w, sym e, ap (λ (n : ℕ). take n k.list) e) in
    ap (λ (b : Bool). perform_of (not b) k [] budget) c ∙ run-ample false k [] budget refl (omega arith)

-- Worked by hand: three loads, each of one cycle, on registers 2 and 3, and in between 0xFF written to register 2
abbrev hosted : Bank
hosted = with_registers fresh_bank (with_register (with_register fresh 2 0xB6) 3 0xAD)

abbrev turn1 : Outcome × Bank
turn1 = run_of hosted (5 ∷ 1 ∷ 2 ∷ 3 ∷ 5 ∷ 2 ∷ 2 ∷ 0 ∷ 5 ∷ 4 ∷ 3 ∷ 0 ∷ []) 1

abbrev turn2 : Outcome × Bank
turn2 = continue_of (write_lent turn1.1 2 0xFF).1 (5 ∷ 2 ∷ 2 ∷ 0 ∷ 5 ∷ 4 ∷ 3 ∷ 0 ∷ []) 1

abbrev turn3 : Outcome × Bank
turn3 = continue_of turn2.1 (5 ∷ 4 ∷ 3 ∷ 0 ∷ []) 1

-- the answer; status, waiting, left; the list's first nine bytes
abbrev shown : Outcome × Bank → List ℕ
shown r = r.0.refusal ∷ r.0.«end» ∷ r.0.ran ∷ r.0.cycles ∷ r.1.registers.status ∷ r.1.registers.waiting ∷ r.1.registers.left ∷ take 9 r.1.list

-- While it waits: the remainder but for a byte, the whole list, a new run, one of a kind that is not there, an operation, and one of a register that is not there
abbrev turned_away : List ℕ
turned_away =
    (continue_of turn2.1 (5 ∷ 4 ∷ 3 ∷ 1 ∷ []) 9).0.refusal
    ∷ (continue_of turn2.1 (5 ∷ 4 ∷ 3 ∷ 0 ∷ 5 ∷ 4 ∷ 3 ∷ 0 ∷ []) 9).0.refusal
    ∷ (run_of turn2.1 [] 9).0.refusal
    ∷ (run_of turn2.1 (11 ∷ 0 ∷ 0 ∷ 0 ∷ []) 9).0.refusal
    ∷ (operate_of turn2.1.registers 5 4 3 0).answer.refusal
    ∷ (operate_of turn2.1.registers 5 4 16 0).answer.refusal
    ∷ []

pub hand-waiting : (shown turn1 ≡ 0 ∷ 2 ∷ 1 ∷ 1 ∷ 2 ∷ 1 ∷ 8 ∷ 5 ∷ 2 ∷ 2 ∷ 0 ∷ 5 ∷ 4 ∷ 3 ∷ 0 ∷ 0 ∷ [])
    × (shown turn2 ≡ 0 ∷ 2 ∷ 1 ∷ 1 ∷ 2 ∷ 1 ∷ 4 ∷ 5 ∷ 4 ∷ 3 ∷ 0 ∷ 5 ∷ 4 ∷ 3 ∷ 0 ∷ 0 ∷ [])
    × (shown turn3 ≡ 0 ∷ 1 ∷ 1 ∷ 1 ∷ 3 ∷ 0 ∷ 4 ∷ 5 ∷ 4 ∷ 3 ∷ 0 ∷ 5 ∷ 4 ∷ 3 ∷ 0 ∷ 0 ∷ [])
    × (turn3.1.registers.b ++ turn3.1.registers.ib ≡ 0xB6 ∷ 0xAD ∷ 0xFF ∷ 0 ∷ 0 ∷ 0xAD ∷ [])
    × (turned_away ≡ 14 ∷ 14 ∷ 14 ∷ 7 ∷ 14 ∷ 8 ∷ [])
unfolding perform_of run_refusal operations_of any_kind any_register ran_of sum_of steps_of cycles_of effect_of load_of same write_of number_refusal operate_of operation_refusal with_bit of_bits bit
hand-waiting = (refl, refl, refl, refl, refl)

-- Under every call but a run continued or a frame that is not refused, and dropping, a waiting bank keeps waiting, for the same bytes.

alike-none : {k : Bank} → WaitsAlike k k
alike-none = record { waiting = refl; left = refl; list = refl }

-- registers that carry along what is no word
carried-alike : (k : Bank) {j : Registers} {g b i : List ℕ} → j ≡ with_words k.registers g b i → WaitsAlike k (with_registers k j)
carried-alike k e = record { waiting = ap (λ (r : Registers). r.waiting) e; left = ap (λ (r : Registers). r.left) e; list = refl }

refused-alike : (other : Bool) (k : Bank) (bytes : List ℕ) (budget : ℕ) → (run_refusal other bytes ≡ 0 → ⊥) → WaitsAlike k (perform_of other k bytes budget).1
refused-alike other k bytes budget n =
    subst (λ (r : Outcome × Bank). WaitsAlike k r.1) (sym (perform-not other k bytes budget n)) (record { waiting = refl; left = refl; list = refl })

pub waiting_kept : (k : Bank) (c : BankCall) → waits k.registers ≡ true → (Ending k c → ⊥) → WaitsAlike k (left_by k c)
unfolding left_by
waiting_kept k call_look w n = alike-none
waiting_kept k (call_operate kind r1 r2 r3) w n = carried-alike k (operate-words k.registers kind r1 r2 r3)
waiting_kept k (call_run bytes budget) w n =
    refused-alike (waits k.registers) k bytes budget (λ e. true≢false (sym w ∙ run_alone (waits k.registers) bytes e))
waiting_kept k (call_continue bytes budget) w n = refused-alike (not (continues k bytes)) k bytes budget n
waiting_kept k call_drop w n = absurd (n tt)
waiting_kept k (call_frame before after bytes guarantee cycles) w n =
    subst⁻¹ (WaitsAlike k) (refused-in before after (record { bank = k; bytes = bytes; guarantee = guarantee }) cycles n) (record { waiting = refl; left = refl; list = refl })
waiting_kept k (call_write number v) w n = carried-alike k (write-words k.registers number v)
waiting_kept k (call_enable e) w n = record { waiting = refl; left = refl; list = refl }
waiting_kept k (call_acknowledge m) w n = record { waiting = refl; left = refl; list = refl }

-- Writes keep what is remembered.
pub writes_kept : (k : Bank) (ws : List (ℕ × ℕ)) → WaitsAlike k (writes_lent k ws)
unfolding writes_lent
writes_kept k [] = alike-none
writes_kept k (w ∷ ws) =
    let a = carried-alike k (write-words k.registers w.0 w.1) in
    let b = writes_kept (write_lent k w.0 w.1).1 ws in
    record { waiting = b.waiting ∙ a.waiting; left = b.left ∙ a.left; list = b.list ∙ a.list }

-- After a run, new or continued, that is carried out

module _ (other : Bool) (k : Bank) (bytes : List ℕ) (budget : ℕ) (e : run_refusal other bytes ≡ 0) where
  abbrev n : ℕ
  n = ran_of budget (operations_of bytes)

  abbrev left_over : List ℕ
  left_over = drop (4 * n) bytes

  abbrev j : Bank
  j = with_registers k (steps_of k.registers (take n (operations_of bytes)))

  abbrev r : Outcome × Bank
  r = perform_of other k bytes budget

  abbrev Ended : Outcome × Bank → Type 0
  Ended a = (waits a.1.registers ≡ eqb a.0.«end» 2) × (a.0.«end» ≡ 2 → (a.1.registers.waiting ≡ 1) × (a.1.registers.left ≡ length left_over) × (remainder_of a.1 ≡ left_over))

  -- It waits exactly if it is spent; then it remembers exactly the bytes of the operations not run.
  pub spent-waits : Ended r
  spent-waits = subst Ended (sym (perform-is other k bytes budget e)) (by-test (ltb n (length (operations_of bytes))))
    where
      by-test : (b : Bool) → Ended (leaving (record { refusal = 0; «end» = cond b 2 1; ran = n; cycles = (turn_of k.registers (operations_of bytes) budget).0.cycles }) (noted (cond b (remembering j left_over) (drop_lent j)) (cond b 2 1)))
      by-test true = (refl, λ p. (refl, refl, take-append_seam left_over (drop (length left_over) k.list)))
      by-test false = (refl, λ p. absurd (omega arith))

-- Dropping and then running anew is a run carried out on the bank as it stands.
pub drop-run : (k : Bank) (bytes : List ℕ) (budget : ℕ) → run_refusal false bytes ≡ 0 → run_of (drop_lent k) bytes budget ≡ outcome_of k bytes (turn_of k.registers (operations_of bytes) budget)
drop-run k bytes budget e =
    perform-is false (drop_lent k) bytes budget e
    ∙ ap (λ (i : Registers). outcome_of (drop_lent k) bytes (reaching t i)) (steps-carry (drop_of k.registers) (take n os))
    ∙ ap (λ (i : Bank). leaving (record { refusal = 0; «end» = end_of n os; ran = n; cycles = t.cycles }) (noted i (end_of n os))) (alike (ltb n (length os)))
    ∙ sym (ap (λ (i : Registers). outcome_of k bytes (reaching t i)) (steps-carry k.registers (take n os)))
  where
    os : List Operation
    os = operations_of bytes

    n : ℕ
    n = ran_of budget os

    t : Turn
    t = (turn_of k.registers os budget).0

    -- the registers after the operations, on the bank as it stands and on it dropped
    after : Bank → Bank
    after h = with_registers h (carrying h.registers (steps_of (bare k.registers) (take n os)))

    alike : (b : Bool) → cond b (remembering (after (drop_lent k)) (drop (4 * n) bytes)) (drop_lent (after (drop_lent k))) ≡ cond b (remembering (after k) (drop (4 * n) bytes)) (drop_lent (after k))
    alike true = refl
    alike false = refl
