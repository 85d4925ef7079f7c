-- A run's list: its bytes by fours, and its lowest refusal as one goes through it. Assumes nothing.
use mathlib.Core.Path.{◌≡◌, refl, sym, ◌∙◌, ap}
use mathlib.Core.Bool.{Bool, true, false, not, cond, ◌&&◌, ◌||◌}
use mathlib.Core.List.{List, [], ◌∷◌, ◌++◌}
use Prim.Native.Nat.{ℕ, zero, suc, ◌*◌, ◌%◌, ◌<◌, ◌≤◌}
use native.Mathlib.Omega.{arith}
use lib.Dec.{eqb, leb}
use lib.ListN.{length, drop, drop_of_length-le}
use lib.Seq.{drop-nil}
use borrow.Author.Tests.{eqb-true, leb-true, not-false}
use Rattle.bits.specs.Refusal.{lowest}
use Rattle.bits.proofs.Refusals.{NoneApplies, none-applies, neither}
use Rattle.unit.specs.Operation.{is_kind, used_of, are_registers, Operation, operation_at}
use Rattle.runs.specs.Run.{operations_of, any_kind, any_register, operations_refusal, run_conditions, run_refusal}

-- four bytes at the start are an operation
four : (xs ys : List ℕ) → length xs ≡ 4 → operations_of (xs ++ ys) ≡ operation_at xs 0 ∷ operations_of ys
unfolding operations_of
four [] ys h = absurd (omega arith)
four (a ∷ []) ys h = absurd (omega arith)
four (a ∷ b ∷ []) ys h = absurd (omega arith)
four (a ∷ b ∷ c ∷ []) ys h = absurd (omega arith)
four (a ∷ b ∷ c ∷ d ∷ []) ys h = refl
four (a ∷ b ∷ c ∷ d ∷ x ∷ xs) ys h = absurd (omega arith)

pub operations-four : (xs ys : List ℕ) {bytes : List ℕ} → bytes ≡ xs ++ ys → length xs ≡ 4 → operations_of bytes ≡ operation_at xs 0 ∷ operations_of ys
operations-four xs ys e h = ap operations_of e ∙ four xs ys h

-- fewer than four are none
pub operations-short : (bytes : List ℕ) {n : ℕ} → length bytes < n → n ≡ 4 → operations_of bytes ≡ []
unfolding operations_of
operations-short [] h e = refl
operations-short (a ∷ []) h e = refl
operations-short (a ∷ b ∷ []) h e = refl
operations-short (a ∷ b ∷ c ∷ []) h e = refl
operations-short (a ∷ b ∷ c ∷ d ∷ bytes) h e = absurd (omega arith)

-- one test more, of those that all hold so far
and-more : (a b r : Bool) → (not (a && b) || r) ≡ (not a || (not b || r))
and-more true b r = refl
and-more false b r = refl

or-false : (a : Bool) → (a || false) ≡ a
or-false true = refl
or-false false = refl

-- all kinds before `rest` are there, and whether all register numbers are
pub record Sofar (os : List Operation) (registers : Bool) (rest : List Operation) : Type 0 where
  pub any-kind : any_kind rest ≡ any_kind os
  pub any-register : (not registers || any_register rest) ≡ any_register os

module _ {os rest : List Operation} {o : Operation} {registers : Bool} (h : Sofar os registers (o ∷ rest)) {k : Bool} (e : k ≡ is_kind o.0 o.1) where
  pub sofar-next : {r : Bool} → k ≡ true → r ≡ are_registers (used_of o.0 o.1 o.2 o.3) → Sofar os (registers && r) rest
  unfolding any_kind any_register
  sofar-next t f =
      rw f
      (record {
        any-kind = ap (λ (b : Bool). not b || any_kind rest) (sym t ∙ e) ∙ h.any-kind;
        any-register = and-more registers (are_registers (used_of o.0 o.1 o.2 o.3)) (any_register rest) ∙ h.any-register;
      })

  -- a kind that is not there is the refusal of all
  pub sofar-kind : (other : Bool) → k ≡ false → operations_refusal other os ≡ 7
  unfolding any_kind any_register operations_refusal
  sofar-kind other f =
      let p = sym h.any-kind ∙ ap (λ (b : Bool). not b || any_kind rest) (sym e ∙ f) in
      λ i. lowest ((7, p i) ∷ (8, any_register os) ∷ (14, other) ∷ [])

-- with no operation left, the register numbers are, or another run
pub sofar-all : {os : List Operation} {registers : Bool} → Sofar os registers [] → {b : Bool} → not registers ≡ b → {other c : Bool} → other ≡ c
    → operations_refusal other os ≡ lowest ((7, false) ∷ (8, b) ∷ (14, c) ∷ [])
unfolding any_kind any_register operations_refusal
sofar-all {os} {registers} h f g =
    let q = sym h.any-register ∙ or-false (not registers) ∙ f in
    let p = sym h.any-kind in
    λ i. lowest ((7, p i) ∷ (8, q i) ∷ (14, g i) ∷ [])

-- the refusal of a run, from the outcomes of the tests of its length
pub run-refusal-by : (other : Bool) (bytes : List ℕ) {a b : Bool} {r : ℕ} → eqb (length bytes % 4) 0 ≡ a → leb (length bytes) 4096 ≡ b
    → operations_refusal other (operations_of bytes) ≡ r → run_refusal other bytes ≡ cond (not a || not b) 4 r
unfolding run_refusal operations_refusal
run-refusal-by other bytes p q e = λ i. cond (not (p i) || not (q i)) 4 (e i)

module _ (other : Bool) (bytes : List ℕ) (e : run_refusal other bytes ≡ 0) where
  none : NoneApplies (run_conditions other bytes)
  unfolding run_refusal
  none = none-applies (run_conditions other bytes) (omega arith) e

  -- a run that is carried out is within the limits of length
  pub run-within : (length bytes % 4 ≡ 0) × (length bytes ≤ 4096)
  run-within =
      let o = neither (not (eqb (length bytes % 4) 0)) (not (leb (length bytes) 4096)) none.0 in
      (eqb-true (length bytes % 4) 0 (not-false _ o.0), leb-true (length bytes) 4096 (not-false _ o.1))

  -- and every operation of its list is accepted
  pub run-accepts : (any_kind (operations_of bytes) ≡ false) × (any_register (operations_of bytes) ≡ false)
  run-accepts = (none.1.0, none.1.1.0)

  -- no other run is in its way
  pub run_alone : other ≡ false
  run_alone = none.1.1.1.0

-- Bytes and operations

-- four bytes an operation
pub length-operations : (bytes : List ℕ) → length bytes % 4 ≡ 0 → 4 * length (operations_of bytes) ≡ length bytes
unfolding operations_of
length-operations [] h = refl
length-operations (a ∷ []) h = absurd (omega arith)
length-operations (a ∷ b ∷ []) h = absurd (omega arith)
length-operations (a ∷ b ∷ c ∷ []) h = absurd (omega arith)
length-operations (a ∷ b ∷ c ∷ d ∷ bytes) h = let r = length-operations bytes (omega arith) in omega (arith, r)

-- fewer than four bytes are no operation, and fewer after some
few : (n : ℕ) (bytes : List ℕ) → length bytes < 4 → operations_of bytes ≡ [] → operations_of (drop (4 * suc n) bytes) ≡ drop (suc n) (operations_of bytes)
unfolding operations_of
few n bytes h e = ap operations_of (drop_of_length-le bytes {i = 4 * suc n} (omega arith)) ∙ sym (ap (drop (suc n)) e ∙ drop-nil (suc n))

-- the bytes after n operations are those of the operations after n
pub operations-after : (n : ℕ) (bytes : List ℕ) → operations_of (drop (4 * n) bytes) ≡ drop n (operations_of bytes)
unfolding operations_of
operations-after zero bytes = refl
operations-after (suc n) [] = ap operations_of (drop-nil (4 * suc n)) ∙ sym (drop-nil (suc n))
operations-after (suc n) (a ∷ []) = few n (a ∷ []) (omega arith) refl
operations-after (suc n) (a ∷ b ∷ []) = few n (a ∷ b ∷ []) (omega arith) refl
operations-after (suc n) (a ∷ b ∷ c ∷ []) = few n (a ∷ b ∷ c ∷ []) (omega arith) refl
operations-after (suc n) (a ∷ b ∷ c ∷ d ∷ bytes) =
    let e : 4 * suc n ≡ suc (suc (suc (suc (4 * n)))) = omega arith in
    ap (λ (m : ℕ). operations_of (drop m (a ∷ b ∷ c ∷ d ∷ bytes))) e ∙ operations-after n bytes
