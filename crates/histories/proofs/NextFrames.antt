-- Reqs 10 and 11: frames one after the other come to one ample run of each channel. Assumes nothing.
use mathlib.Core.Path.{◌≡◌, refl, sym, ◌∙◌, ap, subst, subst⁻¹}
use mathlib.Core.Bool.{Bool, true, false, not, cond, ◌&&◌, true≢false}
use mathlib.Core.List.{List, [], ◌∷◌, map}
use mathlib.Core.Logic.{◌⊎◌, inl, inr, ⊎_elim}
use Prim.Native.Nat.{ℕ, zero, suc, ◌+◌, ◌-◌, ◌<◌, ◌≤◌}
use native.Mathlib.Omega.{arith}
use native.Mathlib.Decide.{ℕ_discrete}
use native.Mathlib.Nat.{not-suc-le-zero}
use lib.Dec.{ltb}
use borrow.Author.Tests.{eq-eqb}
use lib.ListN.{length, get_or, take, drop, length-drop}
use lib.Seq.{take-add, take_all, drop-drop}
use Rattle.unit.specs.declared.Registers.{Registers}
use Rattle.unit.specs.declared.Bank.{Bank}
use Rattle.unit.specs.Bank.{fresh_bank, waits}
use Rattle.unit.specs.Operation.{Operation}
use Rattle.unit.specs.Lent.{bare}
use Rattle.bits.proofs.Refusals.{every-answer, both}
use Rattle.runs.specs.declared.Outcome.{Outcome}
use Rattle.runs.specs.Run.{operations_of, steps_of, sum_of, ran_of, any_kind, any_register, run_refusal, noted, carried_out, perform_of, is_remainder, continues}
use Rattle.runs.proofs.Runs.{ran_le, ran-more, steps-append}
use Rattle.runs.proofs.BytesKept.{steps-carry}
use Rattle.frame.specs.declared.Frame.{Frame}
use Rattle.frame.specs.Frame.{Brought, brought_from, first_turn, rest_of, second_turn, offered_of, other_waits, guaranteed, frame_refusal, framed_of, refused_frame, frame_of}
use Rattle.frame.proofs.Lowering.{AllAccepted, frame-accepts, frame-refusal-by}
use Rattle.frame.proofs.OneBudget.{turns-are}
use Rattle.histories.specs.Continued.{remainder_of}
use Rattle.histories.specs.Channels.{channel_at, bank_at, alone_of, offered_at, both_turns}
use Rattle.histories.specs.Frames.{NextFrame, next_list, next_brought, frames_of, AtLeastThreeFor}
use Rattle.histories.proofs.Runs.{perform-is, run-ample}
use Rattle.histories.proofs.Waiting.{remainder-exactly}
use Rattle.histories.proofs.Continuing.{Left, Came, came-performed, ran-some}
use Rattle.histories.proofs.Frames.{alone-is, alone-carried, accepted-at, frame-channel, frame-bank, frame-refused-at}

-- A bank on its way through the operations os, from the registers k: so many have been run, and it waits for the others, or for none
record Under (k : Registers) (os : List Operation) (j : Bank) : Type 0 where
  ran : ℕ
  words : bare j.registers ≡ bare (steps_of k (take ran os))
  left : Left j (drop ran os)

-- a bank that waits for some operations, or for none
record Leaves (k : Bank) : Type 0 where
  operations : List Operation
  left : Left k operations

-- from the start
under_first : (other : Bool) (k : Bank) (bytes : List ℕ) (budget : ℕ) → run_refusal other bytes ≡ 0 → Under k.registers (operations_of bytes) (perform_of other k bytes budget).1
under_first other k bytes budget e =
    let c = came-performed other k bytes budget e in
    record { ran = ran_of budget (operations_of bytes); words = c.words; left = c.left }

-- operations see words alone
steps_alike : (k j : Registers) (os : List Operation) → bare k ≡ bare j → bare (steps_of k os) ≡ bare (steps_of j os)
steps_alike k j os e = ap bare (steps-carry k os) ∙ ap (λ (i : Registers). bare (steps_of i os)) e ∙ sym (ap bare (steps-carry j os))

-- a turn more
came-under : (k : Registers) (os : List Operation) (j : Bank) (h : Under k os j) (budget : ℕ) (r : Outcome × Bank) → Came j.registers (drop h.ran os) budget r → Under k os r.1
came-under k os j h budget r c =
    let n = h.ran in
    let m = ran_of budget (drop n os) in
    record {
      ran = n + m;
      words = c.words
          ∙ steps_alike j.registers (steps_of k (take n os)) (take m (drop n os)) h.words
          ∙ ap bare (sym (steps-append k (take n os) (take m (drop n os))) ∙ ap (steps_of k) (sym (take-add n m os)));
      left = subst (Left r.1) (drop-drop m n os) c.left;
    }

came-carried : (j : Bank) (bytes : List ℕ) (budget : ℕ) → run_refusal false bytes ≡ 0 → (os : List Operation) → operations_of bytes ≡ os → Came j.registers os budget (carried_out j bytes budget)
came-carried j bytes budget e os f =
    subst (λ (ps : List Operation). Came j.registers ps budget (carried_out j bytes budget)) f
    (subst (Came j.registers (operations_of bytes) budget) (perform-is false j bytes budget e) (came-performed false j bytes budget e))

-- with what it brings to the next frame
under_next : (k : Registers) (os : List Operation) (j : Bank) → Under k os j → (budget : ℕ) → Under k os (carried_out j (next_list j) budget).1
unfolding run_refusal operations_of any_kind any_register
under_next k os j h budget = by-case h.left.either
  where
    rest : List ℕ
    rest = h.left.rest

    brings : (bytes : List ℕ) → next_list j ≡ bytes → run_refusal false bytes ≡ 0 → operations_of bytes ≡ drop h.ran os → Under k os (carried_out j (next_list j) budget).1
    brings bytes n e f =
        subst⁻¹ (λ (bs : List ℕ). Under k os (carried_out j bs budget).1) n (came-under k os j h budget (carried_out j bytes budget) (came-carried j bytes budget e (drop h.ran os) f))

    by-case : ((continues j rest ≡ true) × (0 < length (drop h.ran os))) ⊎ ((waits j.registers ≡ false) × (drop h.ran os ≡ [])) → Under k os (carried_out j (next_list j) budget).1
    by-case (inl t) =
        let e = (remainder-exactly j rest).0 t.0 in
        brings rest (ap (λ (b : Bool). cond b (remainder_of j) []) e.0 ∙ e.2) h.left.accepted h.left.are
    by-case (inr t) = brings [] (ap (λ (b : Bool). cond b (remainder_of j) []) t.0) refl (sym t.1)

-- what is left does not hang on the status
left-noted : {j : Bank} {os : List Operation} → Left j os → Left (noted j 0) os
left-noted h = record { rest = h.rest; are = h.are; accepted = h.accepted; either = h.either }

-- a refused frame leaves it where it was
under-refused : (k : Registers) (os : List Operation) (j : Bank) → Under k os j → Under k os (noted j 0)
under-refused k os j h =
    record { ran = h.ran; words = h.words; left = left-noted h.left }

-- By number

brought-at : (i : ℕ) (ks : List Bank) (gs : List ℕ) (n : ℕ) → n < length ks
    → let c = channel_at (brought_from i ks (map next_list ks) gs) n in let j = get_or ks n fresh_bank in (c.bank ≡ j) × (c.bytes ≡ next_list j) × (c.guarantee ≡ get_or gs (i + n) 0)
brought-at i [] gs n h = absurd (not-suc-le-zero h)
brought-at i (k ∷ ks) gs zero h = let e : i ≡ i + zero = omega arith in (refl, refl, ap (λ (m : ℕ). get_or gs m 0) e)
brought-at i (k ∷ ks) gs (suc n) h =
    let e : suc i + n ≡ i + suc n = omega arith in
    let b = brought-at (suc i) ks gs n (omega arith) in
    (b.0, b.1, b.2 ∙ ap (λ (m : ℕ). get_or gs m 0) e)

brought-long : (i : ℕ) (ks : List Bank) (gs : List ℕ) → length (brought_from i ks (map next_list ks) gs) ≡ length ks
brought-long i [] gs = refl
brought-long i (k ∷ ks) gs = ap suc (brought-long (suc i) ks gs)

offered-long : (rest : ℕ) (cs : List Brought) → length (framed_of 0 (offered_of rest cs)).1 ≡ length cs
unfolding offered_of
offered-long rest [] = refl
offered-long rest (c ∷ cs) = ap suc (offered-long (rest - (second_turn c rest).0.cycles) cs)

refused-long : (r : ℕ) (cs : List Brought) → length (refused_frame cs r).1 ≡ length cs
refused-long r [] = refl
refused-long r (c ∷ cs) = ap suc (refused-long r cs)

-- a frame leaves as many banks
frame-long : (cs : List Brought) (cycles : ℕ) → length (frame_of cs cycles).1 ≡ length cs
unfolding frame_of
frame-long cs cycles =
    every-answer (λ (f : Frame × List Bank). length f.1 ≡ length cs) (frame_refusal cs cycles) (refused_frame cs) (framed_of 0 (offered_of (rest_of cs) cs))
    (λ z. refused-long (frame_refusal cs cycles) cs) (λ z. offered-long (rest_of cs) cs)

module _ (k : Registers) (os : List Operation) (n : ℕ) where
  -- channel n through one more frame, refused or not
  under-frame : (ks : List Bank) (f : NextFrame) → n < length ks → Under k os (get_or ks n fresh_bank) → Under k os (bank_at (frame_of (next_brought ks f) f.cycles) n)
  under-frame ks f h u = by_cases (ℕ_discrete (frame_refusal cs f.cycles) 0)
    where
      cs : List Brought
      cs = next_brought ks f

      j : Bank
      j = get_or ks n fresh_bank

      l : n < length cs
      l = let e = brought-long 0 ks f.guarantees in omega (arith, e)

      b : ((channel_at cs n).bank ≡ j) × ((channel_at cs n).bytes ≡ next_list j) × ((channel_at cs n).guarantee ≡ get_or f.guarantees (0 + n) 0)
      b = brought-at 0 ks f.guarantees n h

      by_cases : Dec (frame_refusal cs f.cycles ≡ 0) → Under k os (bank_at (frame_of cs f.cycles) n)
      by_cases (yes z) =
          let c = channel_at cs n in
          let a = frame-channel cs f.cycles z n l in
          let m = both_turns cs n in
          let o = alone-carried c (accepted-at cs (frame-accepts cs f.cycles z).0 n l) m in
          subst⁻¹ (Under k os) (a.bank ∙ ap (λ (x : Outcome × Bank). x.1) o ∙ (λ i. (carried_out (b.0 i) (b.1 i) m).1)) (under_next k os j u m)
      by_cases (no z) = subst⁻¹ (Under k os) (frame-refused-at cs f.cycles z n l ∙ ap (λ (x : Bank). noted x 0) b.0) (under-refused k os j u)

  under-frames : (ks : List Bank) (fs : List NextFrame) → n < length ks → Under k os (get_or ks n fresh_bank) → Under k os (get_or (frames_of ks fs) n fresh_bank)
  unfolding frames_of
  under-frames ks [] h u = u
  under-frames ks (f ∷ fs) h u =
      let cs = next_brought ks f in
      let l = frame-long cs f.cycles in
      let m = brought-long 0 ks f.guarantees in
      under-frames (frame_of cs f.cycles).1 fs (omega (arith, l, m)) (under-frame ks f h u)

-- once it no longer waits, all have been run
under-done : (k : Registers) (os : List Operation) (j : Bank) → Under k os j → waits j.registers ≡ false → bare j.registers ≡ bare (steps_of k os)
under-done k os j h w = by-case h.left.either
  where
    by-case : ((continues j h.left.rest ≡ true) × (0 < length (drop h.ran os))) ⊎ ((waits j.registers ≡ false) × (drop h.ran os ≡ [])) → bare j.registers ≡ bare (steps_of k os)
    by-case (inl t) = absurd (true≢false (sym ((remainder-exactly j h.left.rest).0 t.0).0 ∙ w))
    by-case (inr t) =
        let l = sym (length-drop h.ran os) ∙ ap length t.1 in
        h.words ∙ ap (λ (ps : List Operation). bare (steps_of k ps)) (take_all h.ran os (omega (arith, l)))

-- A frame that is carried out, and frames after it in which a waiting channel brings its remainder and a done one the empty list, refused or not: a channel that no
-- longer waits has the general and control registers that one ample run of its list leaves.
pub frames-ample : (cs : List Brought) (cycles : ℕ) → frame_refusal cs cycles ≡ 0 → (fs : List NextFrame) (n : ℕ) → n < length cs → (ample : ℕ)
    → let c = channel_at cs n in let k = get_or (frames_of (frame_of cs cycles).1 fs) n fresh_bank in
    sum_of (operations_of c.bytes) ≤ ample → waits k.registers ≡ false → bare k.registers ≡ bare (alone_of c ample).1.registers
frames-ample cs cycles e fs n h ample s w =
    let c = channel_at cs n in
    let k = c.bank.registers in
    let os = operations_of c.bytes in
    let z = accepted-at cs (frame-accepts cs cycles e).0 n h in
    let first : Under k os (bank_at (frame_of cs cycles) n) = subst⁻¹ (Under k os) (frame-bank cs cycles e n h) (under_first (other_waits c) c.bank c.bytes (both_turns cs n) z) in
    let l = frame-long cs cycles in
    let u = under-frames k os n (frame_of cs cycles).1 fs (omega (arith, l, h)) first in
    under-done k os (get_or (frames_of (frame_of cs cycles).1 fs) n fresh_bank) u w
    ∙ sym (ap (λ (x : Outcome × Bank). bare x.1.registers) (alone-is c ample ∙ run-ample (other_waits c) c.bank c.bytes ample z s))

-- The next frame is refused by nothing but 15

-- every bank waits for a list that is accepted, or for none
abbrev AllLeft : List Bank → Type 0
AllLeft [] = Unit
AllLeft (k ∷ ks) = Leaves k × AllLeft ks

brings-accepted : (k : Bank) → Leaves k → run_refusal (waits k.registers && not (is_remainder k.registers.left k.list (next_list k))) (next_list k) ≡ 0
unfolding run_refusal operations_of any_kind any_register
brings-accepted k h = by-case h.left.either
  where
    rest : List ℕ
    rest = h.left.rest

    is : List ℕ → Bool
    is bytes = is_remainder k.registers.left k.list bytes

    refusal : Bool → List ℕ → ℕ
    refusal b bytes = run_refusal (b && not (is bytes)) bytes

    by-case : ((continues k rest ≡ true) × (0 < length h.operations)) ⊎ ((waits k.registers ≡ false) × (h.operations ≡ [])) → refusal (waits k.registers) (next_list k) ≡ 0
    by-case (inl t) =
        let e = (remainder-exactly k rest).0 t.0 in
        let n : next_list k ≡ rest = ap (λ (b : Bool). cond b (remainder_of k) []) e.0 ∙ e.2 in
        ap (refusal (waits k.registers)) n ∙ ap (λ (b : Bool). refusal b rest) e.0 ∙ ap (λ (b : Bool). run_refusal (not b) rest) (both (waits k.registers) (is rest) t.0).1 ∙ h.left.accepted
    by-case (inr t) =
        let n : next_list k ≡ [] = ap (λ (b : Bool). cond b (remainder_of k) []) t.0 in
        ap (refusal (waits k.registers)) n ∙ ap (λ (b : Bool). refusal b []) t.0

all-accepted : (i : ℕ) (ks : List Bank) (gs : List ℕ) → AllLeft ks → AllAccepted (brought_from i ks (map next_list ks) gs)
all-accepted i [] gs a = tt
all-accepted i (k ∷ ks) gs a = (brings-accepted k a.0, all-accepted (suc i) ks gs a.1)

offered-left : (rest : ℕ) (cs : List Brought) → AllAccepted cs → AllLeft (framed_of 0 (offered_of rest cs)).1
unfolding offered_of
offered-left rest [] a = tt
offered-left rest (c ∷ cs) a =
    let m = (first_turn c).0.cycles + rest in
    let p = turns-are c rest ∙ sym (perform-is (other_waits c) c.bank c.bytes m a.0) in
    let h = (came-performed (other_waits c) c.bank c.bytes m a.0).left in
    (subst⁻¹ Leaves (ap (λ (o : Outcome × Bank). o.1) p) (record { operations = drop (ran_of m (operations_of c.bytes)) (operations_of c.bytes); left = h }), offered-left (rest - (second_turn c rest).0.cycles) cs a.1)

refused-left : (r i : ℕ) (ks : List Bank) (gs : List ℕ) → AllLeft ks → AllLeft (refused_frame (brought_from i ks (map next_list ks) gs) r).1
refused-left r i [] gs a = tt
refused-left r i (k ∷ ks) gs a = (record { operations = a.0.operations; left = left-noted a.0.left }, refused-left r (suc i) ks gs a.1)

frames-left : (ks : List Bank) (fs : List NextFrame) → AllLeft ks → AllLeft (frames_of ks fs)
unfolding frames_of frame_of
frames-left ks [] a = a
frames-left ks (f ∷ fs) a =
    let cs = next_brought ks f in
    frames-left (frame_of cs f.cycles).1 fs
    (every-answer (λ (g : Frame × List Bank). AllLeft g.1) (frame_refusal cs f.cycles) (refused_frame cs) (framed_of 0 (offered_of (rest_of cs) cs))
    (λ z. refused-left (frame_refusal cs f.cycles) 0 ks f.guarantees a) (λ z. offered-left (rest_of cs) cs (all-accepted 0 ks f.guarantees a)))

-- After a frame that is carried out, and any frames after it, the next such frame is refused exactly if its guarantees sum above its cycles.
pub frames-refused : (cs : List Brought) (cycles : ℕ) → frame_refusal cs cycles ≡ 0 → (fs : List NextFrame) (f : NextFrame)
    → let ds = next_brought (frames_of (frame_of cs cycles).1 fs) f in frame_refusal ds f.cycles ≡ cond (ltb f.cycles (guaranteed ds)) 15 0
unfolding frame_of
frames-refused cs cycles e fs f =
    let first : AllLeft (frame_of cs cycles).1 = rw (eq-eqb (frame_refusal cs cycles) 0 e) (offered-left (rest_of cs) cs (frame-accepts cs cycles e).0) in
    let ks = frames_of (frame_of cs cycles).1 fs in
    frame-refusal-by (next_brought ks f) f.cycles (all-accepted 0 ks f.guarantees (frames-left (frame_of cs cycles).1 fs first))

-- Frames end

-- no more than m operations are left
record FewLeft (k : Registers) (os : List Operation) (m : ℕ) (j : Bank) : Type 0 where
  under : Under k os j
  few : length (drop under.ran os) ≤ m

-- what a first turn within a guarantee uses of a list
abbrev spent_of : ℕ → List ℕ → ℕ
spent_of g bytes = sum_of (take (ran_of g (operations_of bytes)) (operations_of bytes))

-- three cycles run one operation more
few-next : (k : Registers) (os : List Operation) (m : ℕ) (j : Bank) → FewLeft k os (suc m) j → (g more : ℕ) → 3 ≤ g → FewLeft k os m (carried_out j (next_list j) (spent_of g (next_list j) + more)).1
unfolding run_refusal operations_of any_kind any_register came-under ran_of
few-next k os m j h g more t = by-case u.left.either
  where
    u : Under k os j
    u = h.under

    left : List Operation
    left = drop u.ran os

    brings : (bytes : List ℕ) → next_list j ≡ bytes → run_refusal false bytes ≡ 0 → operations_of bytes ≡ left → FewLeft k os m (carried_out j (next_list j) (spent_of g (next_list j) + more)).1
    brings bytes n e f =
        subst⁻¹ (λ (bs : List ℕ). FewLeft k os m (carried_out j bs (spent_of g bs + more)).1) n
        (record { under = came-under k os j u budget (carried_out j bytes budget) (came-carried j bytes budget e left f); few = few })
      where
        budget : ℕ
        budget = spent_of g bytes + more

        further : ran_of g left ≤ ran_of budget left
        further =
            let p = ran-more (ran_of g (operations_of bytes)) more (operations_of bytes) (ran_le g (operations_of bytes)) in
            subst (λ (ps : List Operation). ran_of g ps ≤ ran_of budget ps) f (omega (arith, p))

        few : length (drop (u.ran + ran_of budget left) os) ≤ m
        few =
            let a = length-drop u.ran os in
            let b = length-drop (u.ran + ran_of budget left) os in
            ⊎_elim (λ z. omega (arith, a, b, z)) (λ z. let l = h.few in omega (arith, a, b, l, z, further)) (ran-some g left t)

    by-case : ((continues j u.left.rest ≡ true) × (0 < length left)) ⊎ ((waits j.registers ≡ false) × (left ≡ [])) → FewLeft k os m (carried_out j (next_list j) (spent_of g (next_list j) + more)).1
    by-case (inl t) =
        let e = (remainder-exactly j u.left.rest).0 t.0 in
        brings u.left.rest (ap (λ (b : Bool). cond b (remainder_of j) []) e.0 ∙ e.2) u.left.accepted u.left.are
    by-case (inr t) = brings [] (ap (λ (b : Bool). cond b (remainder_of j) []) t.0) refl (sym t.1)

module _ (k : Registers) (os : List Operation) (n : ℕ) where
  few-frame : (ks : List Bank) (f : NextFrame) (m : ℕ) → n < length ks → FewLeft k os (suc m) (get_or ks n fresh_bank) → frame_refusal (next_brought ks f) f.cycles ≡ 0 → 3 ≤ get_or f.guarantees n 0
      → FewLeft k os m (bank_at (frame_of (next_brought ks f) f.cycles) n)
  few-frame ks f m h u z t =
      let cs = next_brought ks f in
      let j = get_or ks n fresh_bank in
      let long = brought-long 0 ks f.guarantees in
      let l : n < length cs = omega (arith, long, h) in
      let b = brought-at 0 ks f.guarantees n h in
      let e : 0 + n ≡ n = omega arith in
      let g = b.2 ∙ ap (λ (i : ℕ). get_or f.guarantees i 0) e in
      let c = channel_at cs n in
      let a = frame-channel cs f.cycles z n l in
      let o = alone-carried c (accepted-at cs (frame-accepts cs f.cycles z).0 n l) (both_turns cs n) in
      subst⁻¹ (FewLeft k os m) (a.bank ∙ ap (λ (x : Outcome × Bank). x.1) o ∙ (λ i. (carried_out (b.0 i) (b.1 i) (spent_of (g i) (b.1 i) + offered_at (rest_of cs) cs n)).1))
      (few-next k os m j u (get_or f.guarantees n 0) (offered_at (rest_of cs) cs n) t)

  few-frames : (ks : List Bank) (fs : List NextFrame) → n < length ks → FewLeft k os (length fs) (get_or ks n fresh_bank) → AtLeastThreeFor n ks fs
      → waits (get_or (frames_of ks fs) n fresh_bank).registers ≡ false
  unfolding frames_of
  few-frames ks [] h u a = by-case u.under.left.either
    where
      j : Bank
      j = get_or ks n fresh_bank

      by-case : ((continues j u.under.left.rest ≡ true) × (0 < length (drop u.under.ran os))) ⊎ ((waits j.registers ≡ false) × (drop u.under.ran os ≡ [])) → waits j.registers ≡ false
      by-case (inl t) = let l = u.few in absurd (omega (arith, l, t.1))
      by-case (inr t) = t.0
  few-frames ks (f ∷ fs) h u a =
      let cs = next_brought ks f in
      let l = frame-long cs f.cycles in
      let m = brought-long 0 ks f.guarantees in
      few-frames (frame_of cs f.cycles).1 fs (omega (arith, l, m)) (few-frame ks f (length fs) h u a.0 a.1) a.2

-- Frames end: each that is carried out and guarantees a channel three cycles or more runs at least one of its operations. So a list of n operations waits at most
-- n - 1 times.
pub frames-end : (cs : List Brought) (cycles : ℕ) → frame_refusal cs cycles ≡ 0 → (fs : List NextFrame) (n : ℕ) → n < length cs
    → let c = channel_at cs n in 3 ≤ c.guarantee → AtLeastThreeFor n (frame_of cs cycles).1 fs → length (operations_of c.bytes) ≤ suc (length fs)
    → waits (get_or (frames_of (frame_of cs cycles).1 fs) n fresh_bank).registers ≡ false
unfolding under_first
frames-end cs cycles e fs n h t a l =
    let c = channel_at cs n in
    let k = c.bank.registers in
    let os = operations_of c.bytes in
    let z = accepted-at cs (frame-accepts cs cycles e).0 n h in
    let m = both_turns cs n in
    let r = ran-more (ran_of c.guarantee os) (offered_at (rest_of cs) cs n) os (ran_le c.guarantee os) in
    let d = length-drop (ran_of m os) os in
    let few : length (drop (ran_of m os) os) ≤ length fs = ⊎_elim (λ x. omega (arith, d, x)) (λ x. omega (arith, d, l, r, x)) (ran-some c.guarantee os t) in
    let first : FewLeft k os (length fs) (bank_at (frame_of cs cycles) n) =
    subst⁻¹ (FewLeft k os (length fs)) (frame-bank cs cycles e n h) (record { under = under_first (other_waits c) c.bank c.bytes m z; few = few })
    in
    let long = frame-long cs cycles in
    few-frames k os n (frame_of cs cycles).1 fs (omega (arith, long, h)) first a
