-- Laws of widths and refusals. Assumes nothing.
use mathlib.Core.Path.{◌≡◌, refl, sym, ◌∙◌, ap, subst}
use mathlib.Core.Logic.{◌⊎◌, inl, inr}
use mathlib.Core.Bool.{Bool, true, false, cond, not, ◌&&◌, ◌||◌, true≢false}
use mathlib.Core.List.{List, [], ◌∷◌, ◌++◌}
use Prim.Native.Nat.{ℕ, ◌/◌, ◌^◌, ◌<◌, ◌≤◌}
use native.Mathlib.Omega.{arith}
use native.Mathlib.Decide.{dec_lt, ℕ_discrete}
use native.Mathlib.Nat.{div-eq_of_lt, div-lt_iff_lt-mul}
use lib.Dec.{eqb, ltb}
use lib.Pow.{pow_pos, pow_mono}
use borrow.Author.Tests.{lt-ltb, le-ltb, eq-eqb, ne_eqb, eqb-true}
use Rattle.bits.specs.Refusal.{logs, logs_to_64, log_in, log_of, log_to_64, is_in, accepted, accepted_to_64, fits, lowest, left_of, Applies, Rising, IsLowest, AnswersLowest}

-- `lowest` is what demand 1 asks: the lowest number that applies

above : (b : ℕ) (cs : List (ℕ × Bool)) (n : ℕ) → Rising b cs → Applies n cs → b < n
above b [] n r a = absurd a
above b (c ∷ cs) n r (inl a) = omega (arith, r.0, a.0)
above b (c ∷ cs) n r (inr a) = omega (arith, r.0, above c.0 cs n r.1 a)

lowest-of : (n : ℕ) (b : Bool) (cs : List (ℕ × Bool)) → Rising n cs → IsLowest cs (lowest cs) → IsLowest ((n, b) ∷ cs) (lowest ((n, b) ∷ cs))
lowest-of n true cs r h = inr (inl (refl, tt), least)
  where
    least : (k : ℕ) → Applies k ((n, true) ∷ cs) → n ≤ k
    least k (inl a) = omega (arith, a.0)
    least k (inr a) = omega (arith, above n cs k r a)
lowest-of n false cs r (inl h) = inl (h.0, none)
  where
    none : (k : ℕ) → Applies k ((n, false) ∷ cs) → ⊥
    none k (inl a) = a.1
    none k (inr a) = h.1 k a
lowest-of n false cs r (inr h) = inr (inr h.0, least)
  where
    least : (k : ℕ) → Applies k ((n, false) ∷ cs) → lowest cs ≤ k
    least k (inl a) = absurd a.1
    least k (inr a) = h.1 k a

lowest-from : (b : ℕ) (cs : List (ℕ × Bool)) → Rising b cs → IsLowest cs (lowest cs)
lowest-from b [] r = inl (refl, λ n a. a)
lowest-from b (c ∷ cs) r = lowest-of c.0 c.1 cs r.1 (lowest-from c.0 cs r.1)

pub lowest-law : (cs : List (ℕ × Bool)) → Rising 0 cs → IsLowest cs (lowest cs)
lowest-law cs r = lowest-from 0 cs r

-- and so does each call that answers by its lowest refusal
pub answers-lowest : {A : Type 0} (cs : List (ℕ × Bool)) → Rising 0 cs → (number : A → ℕ) (refused : ℕ → A) (done : A) → number done ≡ 0
    → ((n : ℕ) → number (refused n) ≡ n) → AnswersLowest cs number refused (cond (eqb (lowest cs) 0) done (refused (lowest cs)))
answers-lowest cs r number refused done d e = by-test (eqb (lowest cs) 0) (eqb-true (lowest cs) 0)
  where
    by-test : (b : Bool) → (b ≡ true → lowest cs ≡ 0) → AnswersLowest cs number refused (cond b done (refused (lowest cs)))
    by-test true f =
        record { least = subst (IsLowest cs) (f refl ∙ sym d) (lowest-law cs r); zeros = λ z. absurd (z d) }
    by-test false f =
        record { least = subst (IsLowest cs) (sym (e (lowest cs))) (lowest-law cs r); zeros = λ z. ap refused (sym (e (lowest cs))) }

-- and each that leaves the words lent to it as they were when refused
pub answers-leaving : {A : Type 0} (cs : List (ℕ × Bool)) → Rising 0 cs → (number : A → ℕ) (refused : ℕ → A) (done : A) → number done ≡ 0
    → ((n : ℕ) → number (refused n) ≡ n) → (left out : List ℕ)
    → AnswersLowest {A = A × List ℕ} cs (λ r. number r.0) (λ n. (refused n, out))
    (cond (eqb (lowest cs) 0) done (refused (lowest cs)), left_of (lowest cs) left out)
unfolding left_of
answers-leaving {A} cs r number refused done d e left out =
    subst (AnswersLowest cs (λ r. number r.0) (λ n. (refused n, out))) (cond-pair (eqb (lowest cs) 0) done (refused (lowest cs)))
    (answers-lowest cs r (λ (r : A × List ℕ). number r.0) (λ n. (refused n, out)) (done, left) d e)
  where
    cond-pair : (t : Bool) (x y : A) → cond {A = A × List ℕ} t (x, left) (y, out) ≡ (cond t x y, cond t left out)
    cond-pair true x y = refl
    cond-pair false x y = refl

-- what a call leaves

pub left-done : {n : ℕ} → n ≡ 0 → (done out : List ℕ) → left_of n done out ≡ done
unfolding left_of
left-done {n} z done out = rw (eq-eqb n 0 z)

pub left-refused : {n : ℕ} → (n ≡ 0 → ⊥) → (done out : List ℕ) → left_of n done out ≡ out
unfolding left_of
left-refused {n} z done out = rw (ne_eqb n 0 z)

-- conditions after others count only if none of those holds
pub lowest-more : (b : ℕ) (cs ds : List (ℕ × Bool)) → Rising b cs → lowest (cs ++ ds) ≡ cond (eqb (lowest cs) 0) (lowest ds) (lowest cs)
lowest-more b [] ds r = refl
lowest-more b (c ∷ cs) ds r = by c.1 (lowest-more c.0 cs ds r.1)
  where
    by : (t : Bool) → lowest (cs ++ ds) ≡ cond (eqb (lowest cs) 0) (lowest ds) (lowest cs)
        → cond t c.0 (lowest (cs ++ ds)) ≡ cond (eqb (cond t c.0 (lowest cs)) 0) (lowest ds) (cond t c.0 (lowest cs))
    by true e = let n : c.0 ≡ 0 → ⊥ = λ z. omega (arith, r.0) in rw (ne_eqb c.0 0 n)
    by false e = e

-- what holds of zeros beside a refusal and of what is carried out holds of every answer
pub every-answer : {A : Type 0} (P : A → Type 0) (n : ℕ) (refused : ℕ → A) (done : A) → ((n ≡ 0 → ⊥) → P (refused n)) → (n ≡ 0 → P done)
    → P (cond (eqb n 0) done (refused n))
every-answer P n refused done zeros carried = by (ℕ_discrete n 0)
  where
    by : Dec (n ≡ 0) → P (cond (eqb n 0) done (refused n))
    by (yes z) = rw (eq-eqb n 0 z) (carried z)
    by (no z) = rw (ne_eqb n 0 z) (zeros z)

-- of a call that is carried out no condition holds
abbrev pub NoneApplies : List (ℕ × Bool) → Type 0
NoneApplies [] = Unit
NoneApplies (c ∷ cs) = (c.1 ≡ false) × NoneApplies cs

none_from : (b : ℕ) (cs : List (ℕ × Bool)) → Rising b cs → lowest cs ≡ 0 → NoneApplies cs
none_from b [] r e = tt
none_from b (c ∷ cs) r e = by-test c.1 refl e (none_from c.0 cs r.1)
  where
    by-test : (t : Bool) → c.1 ≡ t → cond t c.0 (lowest cs) ≡ 0 → (lowest cs ≡ 0 → NoneApplies cs) → NoneApplies (c ∷ cs)
    by-test true q z f = absurd (omega (arith, r.0, z))
    by-test false q z f = (q, f z)

pub none-applies : (cs : List (ℕ × Bool)) → Rising 0 cs → lowest cs ≡ 0 → NoneApplies cs
none-applies cs r e = none_from 0 cs r e

-- neither of two conditions under one number; both of two tests
pub neither : (a b : Bool) → (a || b) ≡ false → (a ≡ false) × (b ≡ false)
neither true b e = absurd (true≢false e)
neither false b e = (refl, e)

pub both : (a b : Bool) → (a && b) ≡ true → (a ≡ true) × (b ≡ true)
both true b e = (refl, e)
both false b e = absurd (true≢false (sym e))

-- an accepted width is two to the power of its logarithm, 3 to 6

Between : ℕ → ℕ → List ℕ → Type 0
Between lo hi [] = Unit
Between lo hi (l ∷ ls) = (lo ≤ l) × (l ≤ hi) × Between lo hi ls

Logged : ℕ → ℕ → ℕ → ℕ → Type 0
Logged lo hi w l = (w ≡ 2 ^ l) × (lo ≤ l) × (l ≤ hi)

log-in : (lo hi : ℕ) (ls : List ℕ) → Between lo hi ls → (w : ℕ) → (log_in ls w ≡ 0) ⊎ Logged lo hi w (log_in ls w)
unfolding Between Logged
log-in lo hi [] b w = inl refl
log-in lo hi (l ∷ ls) b w = by-test (eqb w (2 ^ l)) (eqb-true w (2 ^ l)) (log-in lo hi ls b.2 w)
  where
    by-test : (t : Bool) → (t ≡ true → w ≡ 2 ^ l) → (log_in ls w ≡ 0) ⊎ Logged lo hi w (log_in ls w)
        → (cond t l (log_in ls w) ≡ 0) ⊎ Logged lo hi w (cond t l (log_in ls w))
    by-test true e r = inr (e refl, b.0, b.1)
    by-test false e r = r

module _ (lo hi : ℕ) (ls : List ℕ) (b : Between lo hi ls) (w : ℕ) where
  listed-width : is_in ls w ≡ true → Logged lo hi w (log_in ls w)
  listed-width h = by_cases (log-in lo hi ls b w)
    where
      by_cases : (log_in ls w ≡ 0) ⊎ Logged lo hi w (log_in ls w) → Logged lo hi w (log_in ls w)
      by_cases (inl e) = absurd (true≢false (sym h ∙ ap not (eq-eqb (log_in ls w) 0 e)))
      by_cases (inr r) = r

  listed_le : is_in ls w ≡ true → w ≤ 2 ^ hi
  unfolding Logged
  listed_le h = let z = listed-width h in omega (arith, z.0, pow_mono z.2)

pub log-width : (w : ℕ) → accepted w ≡ true → (w ≡ 2 ^ log_of w) × (3 ≤ log_of w) × (log_of w ≤ 6)
unfolding Between Logged
log-width = listed-width 3 6 logs (omega arith)

pub log-width-64 : (w : ℕ) → accepted_to_64 w ≡ true → (w ≡ 2 ^ log_to_64 w) × (3 ≤ log_to_64 w) × (log_to_64 w ≤ 6)
unfolding Between Logged
log-width-64 = listed-width 3 6 logs_to_64 (omega arith)

pub log-le : (w : ℕ) → log_of w ≤ 6
unfolding Between Logged
log-le w = by_cases (log-in 3 6 logs (omega arith) w)
  where
    by_cases : (log_of w ≡ 0) ⊎ Logged 3 6 w (log_of w) → log_of w ≤ 6
    by_cases (inl e) = omega arith
    by_cases (inr r) = r.2

pub not_listed : (ls : List ℕ) (w : ℕ) → log_in ls w ≡ 0 → is_in ls w ≡ false
not_listed ls w e = ap not (eq-eqb (log_in ls w) 0 e)

pub is-listed : (ls : List ℕ) (w : ℕ) → (log_in ls w ≡ 0 → ⊥) → is_in ls w ≡ true
is-listed ls w n = ap not (ne_eqb (log_in ls w) 0 n)

pub not-width : (w : ℕ) → log_of w ≡ 0 → accepted w ≡ false
not-width = not_listed logs

pub is-width : (w : ℕ) → (log_of w ≡ 0 → ⊥) → accepted w ≡ true
is-width = is-listed logs

pub width-le : (w : ℕ) → accepted w ≡ true → w ≤ 64
unfolding Between
width-le = listed_le 3 6 logs (omega arith)

pub width-le-64 : (w : ℕ) → accepted_to_64 w ≡ true → w ≤ 64
unfolding Between
width-le-64 = listed_le 3 6 logs_to_64 (omega arith)

-- the code's test of a word against a width

pub shr-fits : (x w : ℕ) → eqb (x / 2 ^ w) 0 ≡ fits w x
shr-fits x w = by_cases (dec_lt x (2 ^ w))
  where
    by_cases : Dec (x < 2 ^ w) → eqb (x / 2 ^ w) 0 ≡ ltb x (2 ^ w)
    by_cases (yes l) = eq-eqb _ _ (div-eq_of_lt l) ∙ sym (lt-ltb _ _ l)
    by_cases (no n) =
        let le : 2 ^ w ≤ x = omega arith in
        ne_eqb (x / 2 ^ w) 0 (λ e. n (omega (arith, (div-lt_iff_lt-mul {x = x} {y = 1} (pow_pos w)).0 (omega arith)))) ∙ sym (le-ltb _ _ le)

pub wide_fits : (x w : ℕ) → x < 2 ^ 64 → 64 ≤ w → fits w x ≡ true
wide_fits x w h l = lt-ltb x (2 ^ w) (omega (arith, pow_mono l))
