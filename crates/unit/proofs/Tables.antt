-- A table by number, as a `match` goes through it. Assumes nothing.
use mathlib.Core.Path.{◌≡◌, refl, sym, ◌∙◌, ap, subst⁻¹}
use mathlib.Core.Bool.{Bool, true, false, cond, ◌&&◌}
use mathlib.Core.List.{List, [], ◌∷◌}
use Prim.Native.Nat.{ℕ, suc, ◌+◌, ◌<◌, ◌≤◌}
use native.Mathlib.Omega.{arith}
use native.Mathlib.Decide.{dec_lt}
use lib.Dec.{eqb, leb}
use lib.ListN.{length}
use borrow.Author.Tests.{ne_eqb, eqb-true, eqb-false, le-leb, lt-leb}
use Rattle.unit.specs.Operation.{table_entry}

-- a number is none of a table's own, beside what P says, in the form in which a `match` leaves it
abbrev pub Others : {A : Type 0} → Type 0 → ℕ → List (ℕ × A) → Type 0
Others P n [] = P
Others P n (e ∷ es) = Others (P × (n ≡ e.0 → ⊥)) n es

others : {A P : Type 0} (n : ℕ) (es : List (ℕ × A)) (d : A) → Others P n es → (table_entry n es d ≡ d) × P
others n [] d o = (refl, o)
others {A} {P} n (e ∷ es) d o =
    let r = others {P = P × (n ≡ e.0 → ⊥)} n es d o in
    (ap (λ (b : Bool). cond b e.1 (table_entry n es d)) (ne_eqb n e.0 r.1.1) ∙ r.0, r.1.0)

-- then the table has no entry there
pub entry_other : {A : Type 0} (n : ℕ) (es : List (ℕ × A)) (d : A) → Others Unit n es → d ≡ table_entry n es d
entry_other n es d o = sym (others n es d o).0

-- Q holds of every entry and its number
abbrev pub Entries : {A : Type 0} → (ℕ → A → Type 0) → List (ℕ × A) → Type 0
Entries Q [] = Unit
Entries Q (e ∷ es) = Q e.0 e.1 × Entries Q es

-- no entry has this number
abbrev pub Absent : {A : Type 0} → ℕ → List (ℕ × A) → Type 0
Absent n [] = Unit
Absent n (e ∷ es) = (n ≡ e.0 → ⊥) × Absent n es

-- then the table has none there
pub absent-other : {A : Type 0} (n : ℕ) (es : List (ℕ × A)) (d : A) → Absent n es → table_entry n es d ≡ d
absent-other n [] d none = refl
absent-other n (e ∷ es) d none =
    ap (λ (b : Bool). cond b e.1 (table_entry n es d)) (ne_eqb n e.0 none.0) ∙ absent-other n es d none.1

-- the entries are numbered from a
abbrev pub Numbered : {A : Type 0} → ℕ → List (ℕ × A) → Type 0
Numbered a [] = Unit
Numbered a (e ∷ es) = (e.0 ≡ a) × Numbered (suc a) es

past : {A : Type 0} (es : List (ℕ × A)) (a n : ℕ) → Numbered a es → Absent n es → a ≤ n → a + length es ≤ n
past [] a n ks none l = omega arith
past (e ∷ es) a n ks none l =
    let h : suc a ≤ n = above ks.0 none.0 l in
    let r = past es (suc a) n ks.1 none.1 h in
    omega (arith, r)
  where
    above : {m : ℕ} → m ≡ a → (n ≡ m → ⊥) → a ≤ n → suc a ≤ n
    above p q l = omega arith

-- then a number that none has is below 1 or above the last
pub outside : {A : Type 0} (es : List (ℕ × A)) (n : ℕ) → Numbered 1 es → Absent n es → (leb 1 n && leb n (length es)) ≡ false
outside es n ks none = by-test (dec_lt n 1) (past es 1 n ks none)
  where
    by-test : Dec (n < 1) → (1 ≤ n → 1 + length es ≤ n) → (leb 1 n && leb n (length es)) ≡ false
    by-test (yes l) h = rw (lt-leb 1 n l)
    by-test (no l) h =
        let u = h (omega arith) in
        rw (le-leb 1 n (omega arith), lt-leb n (length es) (omega (arith, u)))

-- what holds of every entry and, where there is none, of the other value, holds of what the table has at a number
pub by-entry : {A : Type 0} (Q : ℕ → A → Type 0) (n : ℕ) (es : List (ℕ × A)) (d : A) → Entries Q es → (Absent n es → Q n d) → Q n (table_entry n es d)
by-entry Q n [] d hs none = none tt
by-entry Q n (e ∷ es) d hs none = by-test (eqb n e.0) refl (by-entry Q n es d hs.1)
  where
    by-test : (b : Bool) → eqb n e.0 ≡ b → ((Absent n es → Q n d) → Q n (table_entry n es d)) → Q n (cond b e.1 (table_entry n es d))
    by-test true p rest = subst⁻¹ (λ (m : ℕ). Q m e.1) (eqb-true n e.0 p) hs.0
    by-test false p rest = rest (λ a. none (eqb-false n e.0 p, a))
