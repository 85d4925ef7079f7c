-- Req 09, the status byte and the interrupt line: what holds of them after every call. Assumes nothing.
use mathlib.Core.Path.{◌≡◌, refl, sym, ◌∙◌, ap, subst⁻¹}
use mathlib.Core.Bool.{Bool, true, false, not, cond}
use mathlib.Core.List.{List, [], ◌∷◌, ◌++◌}
use mathlib.Core.Logic.{◌⊎◌, inl, inr, ⊎_elim, ◌↔◌}
use Prim.Native.Nat.{ℕ, ◌*◌, ◌%◌, ◌<◌, ◌≤◌}
use native.Mathlib.Omega.{arith}
use native.Mathlib.Decide.{dec_lt, ℕ_discrete}
use lib.Dec.{eqb, ltb}
use lib.ListN.{length, take, drop}
use borrow.Author.Tests.{eq-eqb, ne_eqb, eqb-true}
use Rattle.bits.specs.Bit.{bit, of_bits}
use Rattle.bits.proofs.Word.{bit-mod-two, bit-above, fits_bits, bit-of_bits, of_bits-lt, of_bits-same, ext}
use Rattle.unit.specs.declared.Registers.{Registers}
use Rattle.unit.specs.declared.Bank.{Bank}
use Rattle.unit.specs.Bank.{fresh, fresh_bank, with_status, with_enable, waits, with_registers}
use Rattle.unit.proofs.Carried.{operate-words, write-words}
use Rattle.runs.specs.StatusByte.{with_bit, status_of, cleared, acknowledge_of, some_both, interrupt_of, BothOne}
use Rattle.runs.specs.Run.{operations_of, steps_of, ran_of, run_refusal, turn_of, end_of, status_bit, noted, remembering, drop_lent, outcome_of, refused_of, perform_of, continues}
use Rattle.frame.specs.Frame.{Brought, other_waits, frame_refusal, frame_of}
use Rattle.histories.specs.Channels.{bank_at}
use Rattle.histories.specs.BankCalls.{BankCall, call_look, call_operate, call_run, call_continue, call_drop, call_frame, call_write, call_enable, call_acknowledge, left_by, left_by_all}
use Rattle.runs.proofs.StatusBits.{bit-with-bit, bit-cleared, bit-status, status-lt, some_of, some-both}
use Rattle.runs.proofs.BytesKept.{steps-carry}
use Rattle.histories.proofs.Frames.{refused-in, performed-in}

-- The line is high exactly if some bit is one both in the status as it reads and in the enable byte; else it is low.
pub interrupt-exactly : (k : Registers) → (interrupt_of k ≡ 1) ↔ BothOne (status_of k) k.enable
unfolding interrupt_of
interrupt-exactly k = (λ e. some_of 8 (status_of k) k.enable (is_true (some_both 8 (status_of k) k.enable) e), λ o. ap (λ (b : Bool). cond b 1 0) (some-both 8 (status_of k) k.enable (omega (arith, status-lt k)) o))
  where
    is_true : (b : Bool) → ◌≡◌ {A = ℕ} (cond b 1 0) 1 → b ≡ true
    is_true true e = refl
    is_true false e = absurd (omega arith)

pub interrupt-low : (k : Registers) → (interrupt_of k ≡ 1 → ⊥) → interrupt_of k ≡ 0
unfolding interrupt_of
interrupt-low k n = by-test (some_both 8 (status_of k) k.enable) n
  where
    by-test : (b : Bool) → (◌≡◌ {A = ℕ} (cond b 1 0) 1 → ⊥) → ◌≡◌ {A = ℕ} (cond b 1 0) 0
    by-test true f = absurd (f refl)
    by-test false f = refl

-- A fresh bank's line is low.
pub fresh-low : interrupt_of fresh ≡ 0
unfolding interrupt_of some_both status_of of_bits bit
fresh-low = refl

-- After acknowledging 0xFF it is low.
pub acknowledged-low : (k : Registers) → interrupt_of (acknowledge_of k 0xFF) ≡ 0
unfolding interrupt_of some_both status_of cleared of_bits bit
acknowledged-low k = refl

-- Acknowledging twice is acknowledging once.
pub acknowledge-twice : (k : Registers) (m : ℕ) → acknowledge_of (acknowledge_of k m) m ≡ acknowledge_of k m
unfolding cleared
acknowledge-twice k m = ap (with_status k) twice
  where
    by-test : (i : ℕ) (b : Bool) {t : ℕ} → t ≡ cond b 0 (bit k.status i) → cond b 0 t ≡ cond b 0 (bit k.status i)
    by-test i true e = refl
    by-test i false e = e

    twice : cleared (cleared k.status m) m ≡ cleared k.status m
    twice =
        of_bits-same 8 (λ i. cond (eqb (bit m i) 1) 0 (bit (cleared k.status m) i)) (λ i. cond (eqb (bit m i) 1) 0 (bit k.status i))
        (λ i l. by-test i (eqb (bit m i) 1) (bit-cleared k.status m i l))

-- Worked by hand: all of 0xFF reads 7; bit 2 set, also where it is one; bits 0 and 2 cleared of 0xF7, all of 7; the line by status 5 and 3 on enable 4, and by
-- bits 3 to 7, which it does not see.
abbrev polled : ℕ → ℕ → Registers
polled s e = with_enable (with_status fresh s) e

pub hand-status : status_of (polled 0xFF 0) ∷ with_bit 0x41 2 ∷ with_bit 0x45 2 ∷ cleared 0xF7 0x05 ∷ cleared 0x07 0xFF ∷ interrupt_of (polled 5 4) ∷ interrupt_of (polled 3 4) ∷ interrupt_of (polled 0xF8 0xFF) ∷ []
    ≡ 7 ∷ 0x45 ∷ 0x45 ∷ 0xF2 ∷ 0 ∷ 1 ∷ 0 ∷ 0 ∷ []
unfolding interrupt_of some_both status_of with_bit cleared of_bits bit
hand-status = refl

-- After a run

-- Of every run, new or continued, refused or not: the status byte has the bit of its end set and the other seven bits as they were stored, the enable byte is as
-- it was.
pub run-bytes : (other : Bool) (k : Bank) (bytes : List ℕ) (budget : ℕ) → let r = perform_of other k bytes budget in
    (r.1.registers.status ≡ with_bit k.registers.status (status_bit r.0.«end»)) × (r.1.registers.enable ≡ k.registers.enable)
unfolding perform_of
run-bytes other k bytes budget = by-test (eqb (run_refusal other bytes) 0)
  where
    n : ℕ
    n = ran_of budget (operations_of bytes)

    j : Registers
    j = steps_of k.registers (take n (operations_of bytes))

    kept : (b : Bool) (e : ℕ) → let i = (noted (cond b (remembering (with_registers k j) (drop (4 * n) bytes)) (drop_lent (with_registers k j))) e).registers in
        (i.status ≡ with_bit j.status (status_bit e)) × (i.enable ≡ j.enable)
    kept true e = (refl, refl)
    kept false e = (refl, refl)

    by-test : (b : Bool) → let r = cond b (outcome_of k bytes (turn_of k.registers (operations_of bytes) budget)) (refused_of k (run_refusal other bytes)) in
        (r.1.registers.status ≡ with_bit k.registers.status (status_bit r.0.«end»)) × (r.1.registers.enable ≡ k.registers.enable)
    by-test true =
        let e = end_of n (operations_of bytes) in
        let w = kept (ltb n (length (operations_of bytes))) e in
        let c = steps-carry k.registers (take n (operations_of bytes)) in
        (w.0 ∙ ap (λ (i : Registers). with_bit i.status (status_bit e)) c, w.1 ∙ ap (λ (i : Registers). i.enable) c)
    by-test false = (refl, refl)

bit-lt-three : (e : ℕ) → status_bit e < 3
bit-lt-three e = by_tests (eqb e 1) (eqb e 2)
  where
    by_tests : (a b : Bool) → cond a 0 (cond b 1 2) < 3
    by_tests true b = omega arith
    by_tests false true = omega arith
    by_tests false false = omega arith

-- Registers j whose status is that of k with a bit of the three set, and whose enable byte is that of k
module _ (k j : Registers) (n : ℕ) (h : n < 3) (e : j.status ≡ with_bit k.status n) (f : j.enable ≡ k.enable) where
  bit-noted : (i : ℕ) → bit (status_of j) i ≡ cond (eqb i n) 1 (bit (status_of k) i)
  bit-noted i = by-test (dec_lt i 3)
    where
      by-test : Dec (i < 3) → bit (status_of j) i ≡ cond (eqb i n) 1 (bit (status_of k) i)
      by-test (yes l) =
          bit-status j i l ∙ ap (λ (s : ℕ). bit s i) e ∙ bit-with-bit k.status n i (omega arith) ∙ ap (λ (b : ℕ). cond (eqb i n) 1 b) (sym (bit-status k i l))
      by-test (no l) =
          let p : bit (status_of j) i ≡ 0 = bit-above {w = 3} i (status-lt j) (omega arith) in
          let q : bit (status_of k) i ≡ 0 = bit-above {w = 3} i (status-lt k) (omega arith) in
          let r : eqb i n ≡ false = ne_eqb i n (λ t. omega arith) in
          rw (p, q, r)

  enabled-alike : (i : ℕ) → bit j.enable i ≡ bit k.enable i
  enabled-alike i = ap (λ (m : ℕ). bit m i) f

  was-or-set : BothOne (status_of j) j.enable → (interrupt_of k ≡ 1) ⊎ (bit k.enable n ≡ 1)
  was-or-set o = by-test (eqb o.place n) refl (sym (bit-noted o.place) ∙ o.in-first)
    where
      enabled : bit k.enable o.place ≡ 1
      enabled = sym (enabled-alike o.place) ∙ o.in-second

      by-test : (b : Bool) → eqb o.place n ≡ b → cond b 1 (bit (status_of k) o.place) ≡ 1 → (interrupt_of k ≡ 1) ⊎ (bit k.enable n ≡ 1)
      by-test true t one = inr (ap (bit k.enable) (sym (eqb-true o.place n t)) ∙ enabled)
      by-test false t one = inl ((interrupt-exactly k).1 (record { place = o.place; in-first = one; in-second = enabled }))

  stays : BothOne (status_of k) k.enable → BothOne (status_of j) j.enable
  stays o = record { place = o.place; in-first = bit-noted o.place ∙ one (eqb o.place n) o.in-first; in-second = enabled-alike o.place ∙ o.in-second }
    where
      one : (b : Bool) {d : ℕ} → d ≡ 1 → cond b 1 d ≡ 1
      one true t = refl
      one false t = t

  raised : bit k.enable n ≡ 1 → BothOne (status_of j) j.enable
  raised t = record { place = n; in-first = bit-noted n ∙ ap (λ (b : Bool). cond b 1 (bit (status_of k) n)) (eq-eqb n n refl); in-second = enabled-alike n ∙ t }

  noted-line : (interrupt_of j ≡ 1) ↔ ((interrupt_of k ≡ 1) ⊎ (bit k.enable n ≡ 1))
  noted-line = (λ t. was-or-set ((interrupt-exactly j).0 t), ⊎_elim (λ t. (interrupt-exactly j).1 (stays ((interrupt-exactly k).0 t))) (λ t. (interrupt-exactly j).1 (raised t)))

-- After a run, new or continued, refused or not, the line is high exactly if it was high before or the bit of its end is enabled.
pub run-line : (other : Bool) (k : Bank) (bytes : List ℕ) (budget : ℕ) → let r = perform_of other k bytes budget in
    (interrupt_of r.1.registers ≡ 1) ↔ ((interrupt_of k.registers ≡ 1) ⊎ (bit k.registers.enable (status_bit r.0.«end») ≡ 1))
run-line other k bytes budget =
    let r = perform_of other k bytes budget in
    let b = run-bytes other k bytes budget in
    noted-line k.registers r.1.registers (status_bit r.0.«end») (bit-lt-three r.0.«end») b.0 b.1

-- A stored status below 8

-- a byte whose bits 3 to 7 are zero
below-8 : (f : ℕ → ℕ) → ((i : ℕ) → 3 ≤ i → f i % 2 ≡ 0) → of_bits 8 f < 8
below-8 f z = (fits_bits 3 (of_bits 8 f)).1 (λ i l. by-test i l (dec_lt i 8))
  where
    by-test : (i : ℕ) → 3 ≤ i → Dec (i < 8) → bit (of_bits 8 f) i ≡ 0
    by-test i l (yes h) = bit-of_bits 8 f i h ∙ z i l
    by-test i l (no h) = bit-above {w = 8} i (of_bits-lt 8 f) (omega arith)

with-bit-below : (s n : ℕ) → s < 8 → n < 3 → with_bit s n < 8
unfolding with_bit
with-bit-below s n h l =
    below-8 (λ i. cond (eqb i n) 1 (bit s i))
    (λ i j. ap (λ (b : Bool). cond b 1 (bit s i) % 2) (ne_eqb i n (λ e. omega arith)) ∙ bit-mod-two s i ∙ bit-above {w = 3} i h j)

cleared-below : (s m : ℕ) → s < 8 → cleared s m < 8
unfolding cleared
cleared-below s m h = below-8 (λ i. cond (eqb (bit m i) 1) 0 (bit s i)) (λ i j. by-test i (eqb (bit m i) 1) (bit-above {w = 3} i h j))
  where
    by-test : (i : ℕ) (b : Bool) → bit s i ≡ 0 → cond b 0 (bit s i) % 2 ≡ 0
    by-test i true e = refl
    by-test i false e = rw e

performed-below : (other : Bool) (k : Bank) (bytes : List ℕ) (budget : ℕ) → k.registers.status < 8 → (perform_of other k bytes budget).1.registers.status < 8
performed-below other k bytes budget h =
    let e = (perform_of other k bytes budget).0.«end» in
    subst⁻¹ (λ (s : ℕ). s < 8) (run-bytes other k bytes budget).0 (with-bit-below k.registers.status (status_bit e) h (bit-lt-three e))

framed-below : (before after : List Brought) (c : Brought) (cycles : ℕ) → c.bank.registers.status < 8
    → (bank_at (frame_of (before ++ (c ∷ after)) cycles) (length before)).registers.status < 8
framed-below before after c cycles h = by_cases (ℕ_discrete (frame_refusal (before ++ (c ∷ after)) cycles) 0)
  where
    Below : Bank → Type 0
    Below k = k.registers.status < 8

    by_cases : Dec (frame_refusal (before ++ (c ∷ after)) cycles ≡ 0) → Below (bank_at (frame_of (before ++ (c ∷ after)) cycles) (length before))
    by_cases (yes z) = let p = performed-in before after c cycles z in subst⁻¹ Below p.is (performed-below (other_waits c) c.bank c.bytes p.budget h)
    by_cases (no z) = subst⁻¹ Below (refused-in before after c cycles z) (with-bit-below c.bank.registers.status 2 h (omega arith))

-- Every call leaves a stored status below 8 below 8.
pub status-below : (k : Bank) (c : BankCall) → k.registers.status < 8 → (left_by k c).registers.status < 8
unfolding left_by
status-below k call_look h = h
status-below k (call_operate kind r1 r2 r3) h = subst⁻¹ (λ (j : Registers). j.status < 8) (operate-words k.registers kind r1 r2 r3) h
status-below k (call_run bytes budget) h = performed-below (waits k.registers) k bytes budget h
status-below k (call_continue bytes budget) h = performed-below (not (continues k bytes)) k bytes budget h
status-below k call_drop h = h
status-below k (call_frame before after bytes guarantee cycles) h = framed-below before after (record { bank = k; bytes = bytes; guarantee = guarantee }) cycles h
status-below k (call_write n v) h = subst⁻¹ (λ (j : Registers). j.status < 8) (write-words k.registers n v) h
status-below k (call_enable e) h = h
status-below k (call_acknowledge m) h = cleared-below k.registers.status m h

-- Then the field itself reads as the status does.
status-stored : (k : Registers) → k.status < 8 → status_of k ≡ k.status
status-stored k h = ext 3 (status-lt k) h (λ i l. bit-status k i l)

stays-below : (k : Bank) (cs : List BankCall) → k.registers.status < 8 → (left_by_all k cs).registers.status < 8
unfolding left_by_all
stays-below k [] h = h
stays-below k (c ∷ cs) h = stays-below (left_by k c) cs (status-below k c h)

-- So from a fresh bank, after whatever calls, the field itself reads as the status does.
pub status-reads : (cs : List BankCall) → let k = left_by_all fresh_bank cs in status_of k.registers ≡ k.registers.status
status-reads cs = status-stored (left_by_all fresh_bank cs).registers (stays-below fresh_bank cs (omega arith))
