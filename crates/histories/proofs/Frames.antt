-- Req 11: what holds of a frame and of each of its channels, for any number of them. Assumes nothing.
use mathlib.Core.Path.{◌≡◌, refl, sym, ◌∙◌, ap, subst}
use mathlib.Core.Bool.{Bool, true, false, not, cond, ◌&&◌}
use mathlib.Core.List.{List, [], ◌∷◌, ◌++◌, map}
use Prim.Native.Nat.{ℕ, zero, suc, ◌+◌, ◌-◌, ◌<◌, ◌≤◌}
use native.Mathlib.Omega.{arith}
use native.Mathlib.Nat.{not-suc-le-zero}
use lib.Dec.{ltb}
use lib.ListN.{length, get_or, take, drop, length-append, length-drop, drop_of_length-le}
use lib.Seq.{get_or_at, take-add, drop-drop}
use borrow.Author.Tests.{eq-eqb, ltb-false}
use Rattle.bits.specs.Refusal.{AnswersLowest}
use Rattle.bits.proofs.Refusals.{answers-lowest, every-answer}
use Rattle.unit.specs.declared.Bank.{Bank}
use Rattle.unit.specs.Bank.{fresh_bank, waits, leaving}
use Rattle.unit.specs.Operation.{Operation}
use Rattle.runs.specs.declared.Outcome.{Outcome}
use Rattle.runs.specs.Run.{operations_of, steps_of, sum_of, ran_of, run_refusal, reaching, end_of, noted, outcome_of, carried_out, perform_of, is_remainder}
use Rattle.runs.proofs.Runs.{ran_le, ran-within, ran-next, ran-more, sum-append}
use Rattle.frame.specs.declared.Channel.{Channel}
use Rattle.frame.specs.declared.Frame.{Frame}
use Rattle.frame.specs.Frame.{Brought, first_turn, rest_of, second_turn, offered_of, other_waits, guaranteed, frame_conditions, frame_refusal, channel_of, framed_of, refused_frame, frame_of}
use Rattle.frame.proofs.Lowering.{AllAccepted, frame-accepts}
use Rattle.frame.proofs.OneBudget.{turns-are, frame_refused}
use Rattle.histories.specs.Channels.{channel_at, answer_at, bank_at, cycles_in, next_cycles, alone_of, offered_at, both_turns, AsAlone}
use Rattle.histories.proofs.Runs.{perform-is}

-- Demand 1: the lowest refusal of a frame, zeros beside it and, but for status bit 2 in each, the banks as they were.
pub frame-lowest : (cs : List Brought) (cycles : ℕ) → AnswersLowest (frame_conditions cs cycles) (λ a. a.0.refusal) (λ n. refused_frame cs n) (frame_of cs cycles)
unfolding frame_of frame_refusal
frame-lowest cs cycles =
    answers-lowest (frame_conditions cs cycles) (omega arith) (λ (a : Frame × List Bank). a.0.refusal) (λ n. refused_frame cs n) (framed_of 0 (offered_of (rest_of cs) cs)) refl (λ n. refl)

-- Cycles

-- of the first turns
unfoldable first_cycles : List Brought → ℕ
first_cycles [] = 0
first_cycles (c ∷ cs) = (first_turn c).0.cycles + first_cycles cs

-- with what they left, the guarantees
first-all : (cs : List Brought) → first_cycles cs + rest_of cs ≡ guaranteed cs
unfolding first_cycles rest_of guaranteed
first-all [] = refl
first-all (c ∷ cs) =
    let e = first-all cs in
    let w = ran-within c.guarantee (operations_of c.bytes) in
    omega (arith, e, w)

-- of both turns
abbrev offered_cycles : ℕ → List Brought → ℕ
offered_cycles rest cs = cycles_in (map (λ o. channel_of o.0) (offered_of rest cs))

offered-within : (rest : ℕ) (cs : List Brought) → offered_cycles rest cs ≤ first_cycles cs + rest
unfolding first_cycles offered_of cycles_in
offered-within rest [] = omega arith
offered-within rest (c ∷ cs) =
    let u = second_turn c rest in
    let w = ran-within rest (drop (first_turn c).0.ran (operations_of c.bytes)) in
    let e = offered-within (rest - u.0.cycles) cs in
    omega (arith, w, e)

refused-cycles : (cs : List Brought) (r : ℕ) → cycles_in (refused_frame cs r).0.channels ≡ 0
unfolding cycles_in
refused-cycles [] r = refl
refused-cycles (c ∷ cs) r = let e = refused-cycles cs r in omega (arith, e)

-- A frame never uses more than its guarantees' sum, nor more than its cycles.
pub frame-cycles : (cs : List Brought) (cycles : ℕ) → (cycles_in (frame_of cs cycles).0.channels ≤ guaranteed cs) × (cycles_in (frame_of cs cycles).0.channels ≤ cycles)
unfolding frame_of
frame-cycles cs cycles =
    every-answer (λ (f : Frame × List Bank). (cycles_in f.0.channels ≤ guaranteed cs) × (cycles_in f.0.channels ≤ cycles)) (frame_refusal cs cycles) (refused_frame cs) (framed_of 0 (offered_of (rest_of cs) cs))
    (λ z. let e = refused-cycles cs (frame_refusal cs cycles) in (omega (arith, e), omega (arith, e)))
    (λ z.
    let o = offered-within (rest_of cs) cs in
    let a = first-all cs in
    let g = (frame-accepts cs cycles z).1 in
    (omega (arith, o, a), omega (arith, o, a, g)))

-- Each channel

-- a run alone is that of the frame's condition, whether its bank waits or not
pub alone-is : (c : Brought) (budget : ℕ) → alone_of c budget ≡ perform_of (other_waits c) c.bank c.bytes budget
alone-is c budget = by-test (waits c.bank.registers)
  where
    r : Bool
    r = is_remainder c.bank.registers.left c.bank.list c.bytes

    perform : Bool → Outcome × Bank
    perform other = perform_of other c.bank c.bytes budget

    by-test : (b : Bool) → cond b (perform (not (b && r))) (perform b) ≡ perform (b && not r)
    by-test true = refl
    by-test false = refl

pub alone-carried : (c : Brought) → run_refusal (other_waits c) c.bytes ≡ 0 → (budget : ℕ) → alone_of c budget ≡ carried_out c.bank c.bytes budget
alone-carried c e budget = alone-is c budget ∙ perform-is (other_waits c) c.bank c.bytes budget e

-- what is beyond the channels
abbrev pub nothing : Outcome × Bank
nothing = leaving (record { refusal = 0; «end» = 0; ran = 0; cycles = 0 }) fresh_bank

pub get_or-map : {A B : Type 0} (f : A → B) (xs : List A) (n : ℕ) (d : A) → get_or (map f xs) n (f d) ≡ f (get_or xs n d)
get_or-map f [] n d = refl
get_or-map f (x ∷ xs) zero d = refl
get_or-map f (x ∷ xs) (suc n) d = get_or-map f xs n d

offered-at : (rest : ℕ) (cs : List Brought) → AllAccepted cs → (n : ℕ) → n < length cs
    → get_or (offered_of rest cs) n nothing ≡ alone_of (channel_at cs n) ((first_turn (channel_at cs n)).0.cycles + offered_at rest cs n)
unfolding offered_of
offered-at rest [] a n h = absurd (not-suc-le-zero h)
offered-at rest (c ∷ cs) a zero h = turns-are c rest ∙ sym (alone-carried c a.0 ((first_turn c).0.cycles + rest))
offered-at rest (c ∷ cs) a (suc n) h = offered-at (rest - (second_turn c rest).0.cycles) cs a.1 n (omega arith)

pub accepted-at : (cs : List Brought) → AllAccepted cs → (n : ℕ) → n < length cs → run_refusal (other_waits (channel_at cs n)) (channel_at cs n).bytes ≡ 0
accepted-at [] a n h = absurd (not-suc-le-zero h)
accepted-at (c ∷ cs) a zero h = a.0
accepted-at (c ∷ cs) a (suc n) h = accepted-at cs a.1 n (omega arith)

-- a channel uses no less than in its first turn
offered-least : (rest : ℕ) (cs : List Brought) → first_cycles cs ≤ offered_cycles rest cs
unfolding first_cycles offered_of cycles_in
offered-least rest [] = omega arith
offered-least rest (c ∷ cs) = let e = offered-least (rest - (second_turn c rest).0.cycles) cs in omega (arith, e)

-- a turn stops where the next operation does not fit in what it leaves
turn-next : (n budget : ℕ) (os : List Operation) → let m = ran_of budget (drop n os) in n + m < length os → budget - sum_of (take m (drop n os)) < next_cycles (n + m) os
turn-next n budget os h =
    let ps = drop n os in
    let m = ran_of budget ps in
    let l = length-drop n os in
    let r = ran-next budget ps (omega (arith, l)) in
    let e : suc m ≡ m + 1 = omega arith in
    let a : sum_of (take (suc m) ps) ≡ sum_of (take m ps) + sum_of (take 1 (drop m ps)) =
    ap (λ (x : ℕ). sum_of (take x ps)) e ∙ ap sum_of (take-add m 1 ps) ∙ sum-append (take m ps) (take 1 (drop m ps))
    in
    let d : sum_of (take 1 (drop m ps)) ≡ next_cycles (n + m) os = ap (λ (qs : List Operation). sum_of (take 1 qs)) (drop-drop m n os) in
    let w = ran-within budget ps in
    omega (arith, r, a, d, w)

offered-next : (rest : ℕ) (cs : List Brought) (n : ℕ) → n < length cs → let os = operations_of (channel_at cs n).bytes in let m = (get_or (offered_of rest cs) n nothing).0.ran in
    m < length os → first_cycles cs + rest < offered_cycles rest cs + next_cycles m os
unfolding first_cycles offered_of cycles_in
offered-next rest [] n h l = absurd (not-suc-le-zero h)
offered-next rest (c ∷ cs) zero h l =
    let t = turn-next (first_turn c).0.ran rest (operations_of c.bytes) l in
    let e = offered-least (rest - (second_turn c rest).0.cycles) cs in
    omega (arith, t, e)
offered-next rest (c ∷ cs) (suc n) h l =
    let w = ran-within rest (drop (first_turn c).0.ran (operations_of c.bytes)) in
    let e = offered-next (rest - (second_turn c rest).0.cycles) cs n (omega arith) l in
    omega (arith, w, e)

-- a run of n operations of a channel's list
abbrev ran_to : Brought → ℕ → Channel × Bank
ran_to c n =
    let os = operations_of c.bytes in
    let o = outcome_of c.bank c.bytes (reaching (record { ran = n; cycles = sum_of (take n os) }) (steps_of c.bank.registers (take n os))) in
    leaving (channel_of o.0) o.1

-- done is all run
done_all : (n : ℕ) (os : List Operation) → end_of n os ≡ 1 → length os ≤ n
done_all n os e = by-test (ltb n (length os)) refl e
  where
    by-test : (b : Bool) → ltb n (length os) ≡ b → ◌≡◌ {A = ℕ} (cond b 2 1) 1 → length os ≤ n
    by-test true t d = absurd (omega (arith, d))
    by-test false t d = ltb-false n (length os) t

none_more : (n budget : ℕ) → n + ran_of budget [] ≡ n
unfolding ran_of
none_more n budget = omega arith

-- of a frame that is carried out
module _ (cs : List Brought) (cycles : ℕ) (e : frame_refusal cs cycles ≡ 0) (n : ℕ) (h : n < length cs) where
  abbrev c : Brought
  c = channel_at cs n

  abbrev f : Frame × List Bank
  f = frame_of cs cycles

  carried : f ≡ framed_of 0 (offered_of (rest_of cs) cs)
  unfolding frame_of
  carried = rw (eq-eqb (frame_refusal cs cycles) 0 e)

  -- Each channel is answered and left as its run alone is, with one budget for both turns.
  pub frame-channel : AsAlone c (both_turns cs n) (answer_at f n) (bank_at f n)
  frame-channel =
      let o = offered-at (rest_of cs) cs (frame-accepts cs cycles e).0 n h in
      record {
        answer = ap (λ (g : Frame × List Bank). answer_at g n) carried ∙ get_or-map (λ o. channel_of o.0) (offered_of (rest_of cs) cs) n nothing ∙ ap (λ (o : Outcome × Bank). channel_of o.0) o;
        bank = ap (λ (g : Frame × List Bank). bank_at g n) carried ∙ get_or-map (λ o. o.1) (offered_of (rest_of cs) cs) n nothing ∙ ap (λ (o : Outcome × Bank). o.1) o;
      }

  pub frame-bank : bank_at f n ≡ (perform_of (other_waits c) c.bank c.bytes (both_turns cs n)).1
  frame-bank = frame-channel.bank ∙ ap (λ (o : Outcome × Bank). o.1) (alone-is c (both_turns cs n))

  abbrev os : List Operation
  os = operations_of c.bytes

  -- its run alone, with any budget, is carried out
  alone : (b : ℕ) → alone_of c b ≡ carried_out c.bank c.bytes b
  alone b = alone-carried c (accepted-at cs (frame-accepts cs cycles e).0 n h) b

  ran-is : (answer_at f n).ran ≡ ran_of c.guarantee os + ran_of (offered_at (rest_of cs) cs n) (drop (ran_of c.guarantee os) os)
  ran-is =
      ap (λ (a : Channel). a.ran) frame-channel.answer
      ∙ ap (λ (o : Outcome × Bank). o.0.ran) (alone (both_turns cs n))
      ∙ ran-more (ran_of c.guarantee os) (offered_at (rest_of cs) cs n) os (ran_le c.guarantee os)

  -- A channel gets through at least the operations that its guarantee alone would carry.
  pub frame-at-least : (alone_of c c.guarantee).0.ran ≤ (answer_at f n).ran
  frame-at-least =
      let g = ap (λ (o : Outcome × Bank). o.0.ran) (alone c.guarantee) in
      let r = ran-is in
      omega (arith, g, r)

  -- Nothing is kept from a channel: one that has an operation left stops since that does not fit in what all of them left of the guarantees.
  pub frame-next : (answer_at f n).ran < length os → guaranteed cs - cycles_in f.0.channels < next_cycles (answer_at f n).ran os
  frame-next l =
      let o = offered_of (rest_of cs) cs in
      let a : (answer_at f n).ran ≡ (get_or o n nothing).0.ran =
      ap (λ (g : Frame × List Bank). (answer_at g n).ran) carried ∙ ap (λ (x : Channel). x.ran) (get_or-map (λ x. channel_of x.0) o n nothing)
      in
      let x : first_cycles cs + rest_of cs < offered_cycles (rest_of cs) cs + next_cycles (get_or o n nothing).0.ran os = offered-next (rest_of cs) cs n h (subst (λ (m : ℕ). m < length os) a l) in
      let y = ap (λ (g : Frame × List Bank). cycles_in g.0.channels) carried in
      let w = offered-within (rest_of cs) cs in
      let g = first-all cs in
      let d = ap (λ (m : ℕ). next_cycles m os) a in
      omega (arith, x, y, w, g, d)

  -- what a channel is answered and left hangs on the operations that it ran
  pub by-ran : leaving (answer_at f n) (bank_at f n) ≡ ran_to c (answer_at f n).ran
  by-ran =
      let p = alone (both_turns cs n) in
      let r : (answer_at f n).ran ≡ ran_of (both_turns cs n) os =
      ap (λ (a : Channel). a.ran) frame-channel.answer ∙ ap (λ (o : Outcome × Bank). o.0.ran) p
      in
      (λ i. leaving (frame-channel.answer i) (frame-channel.bank i)) ∙ ap (λ (o : Outcome × Bank). leaving (channel_of o.0) o.1) p ∙ ap (ran_to c) (sym r)

  -- A channel that is done within its guarantee is answered and left as that run is.
  pub frame-in-guarantee : (alone_of c c.guarantee).0.«end» ≡ 1 → (answer_at f n ≡ channel_of (alone_of c c.guarantee).0) × (bank_at f n ≡ (alone_of c c.guarantee).1)
  frame-in-guarantee d =
      let g = alone c.guarantee in
      let m = ran_of c.guarantee os in
      let l : length os ≤ m = done_all m os (sym (ap (λ (o : Outcome × Bank). o.0.«end») g) ∙ d) in
      let r : (answer_at f n).ran ≡ m =
      ran-is ∙ ap (λ (xs : List Operation). m + ran_of (offered_at (rest_of cs) cs n) xs) (drop_of_length-le os l) ∙ none_more m (offered_at (rest_of cs) cs n)
      in
      let p = by-ran ∙ ap (ran_to c) r ∙ sym (ap (λ (o : Outcome × Bank). leaving (channel_of o.0) o.1) g) in
      (ap (λ (x : Channel × Bank). x.0) p, ap (λ (x : Channel × Bank). x.1) p)

-- Separation: two frames carried out that bring a channel the same bank and list, under whatever number, with whatever guarantee, whatever the others bring and
-- whatever their cycles, and in which it ran equally many operations, answer it alike and leave it the same bank.
pub frame-separate : (cs ds : List Brought) (cycles other : ℕ) → frame_refusal cs cycles ≡ 0 → frame_refusal ds other ≡ 0 → (n m : ℕ) → n < length cs → m < length ds
    → (channel_at cs n).bank ≡ (channel_at ds m).bank → (channel_at cs n).bytes ≡ (channel_at ds m).bytes → (answer_at (frame_of cs cycles) n).ran ≡ (answer_at (frame_of ds other) m).ran
    → (answer_at (frame_of cs cycles) n ≡ answer_at (frame_of ds other) m) × (bank_at (frame_of cs cycles) n ≡ bank_at (frame_of ds other) m)
frame-separate cs ds cycles other e d n m h l k b r =
    let p = by-ran cs cycles e n h ∙ (λ i. ran_to (record { bank = k i; bytes = b i; guarantee = 0 }) (r i)) ∙ sym (by-ran ds other d m l) in
    (ap (λ (x : Channel × Bank). x.0) p, ap (λ (x : Channel × Bank). x.1) p)

-- refused, each bank has status bit 2 set
refused-at : (r : ℕ) (cs : List Brought) (n : ℕ) → n < length cs → bank_at (refused_frame cs r) n ≡ noted (channel_at cs n).bank 0
refused-at r [] n h = absurd (not-suc-le-zero h)
refused-at r (c ∷ cs) zero h = refl
refused-at r (c ∷ cs) (suc n) h = refused-at r cs n (omega arith)

pub frame-refused-at : (cs : List Brought) (cycles : ℕ) → (frame_refusal cs cycles ≡ 0 → ⊥) → (n : ℕ) → n < length cs → bank_at (frame_of cs cycles) n ≡ noted (channel_at cs n).bank 0
frame-refused-at cs cycles z n h = ap (λ (g : Frame × List Bank). bank_at g n) (sym (frame_refused cs cycles refl z)) ∙ refused-at (frame_refusal cs cycles) cs n h

-- A bank among those of a frame: a refusal is noted, or a run of its list was performed.
pub record LeftByRun (c : Brought) (k : Bank) : Type 0 where
  pub budget : ℕ
  pub is : k ≡ (perform_of (other_waits c) c.bank c.bytes budget).1

module _ (before after : List Brought) (c : Brought) (cycles : ℕ) where
  abbrev all : List Brought
  all = before ++ (c ∷ after)

  abbrev left : Bank
  left = bank_at (frame_of all cycles) (length before)

  here : channel_at all (length before) ≡ c
  here = get_or_at before c after _ (length before) refl

  within : length before < length all
  within = let l = length-append before (c ∷ after) in omega (arith, l)

  pub refused-in : (frame_refusal all cycles ≡ 0 → ⊥) → left ≡ noted c.bank 0
  refused-in z = frame-refused-at all cycles z (length before) within ∙ ap (λ (x : Brought). noted x.bank 0) here

  pub performed-in : frame_refusal all cycles ≡ 0 → LeftByRun c left
  performed-in z =
      let m = both_turns all (length before) in
      record { budget = m; is = frame-bank all cycles z (length before) within ∙ ap (λ (x : Brought). (perform_of (other_waits x) x.bank x.bytes m).1) here }
