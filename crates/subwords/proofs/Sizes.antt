-- The six sizes: what a test over the list says of each, the networks' table, and the answers. Assumes nothing.
use mathlib.Core.Path.{◌≡◌, refl, sym, ◌∙◌, ap}
use mathlib.Core.Bool.{Bool, true, false, ◌&&◌, ◌||◌, true≢false}
use mathlib.Core.List.{List, [], ◌∷◌}
use Prim.Native.Nat.{ℕ, ◌-◌, ◌*◌, ◌/◌, ◌^◌, ◌<◌}
use native.Mathlib.Omega.{arith}
use lib.Dec.{eqb}
use lib.ListN.{get_or}
use borrow.Author.Tests.{eqb-true}
use Rattle.bits.specs.Refusal.{AnswersLowest}
use Rattle.bits.proofs.Computed.{every, every-at}
use Rattle.bits.proofs.Refusals.{both, answers-lowest}
use Rattle.network.specs.Word.{pairs}
use Rattle.network.specs.declared.Carried.{Carried}
use Rattle.network.proofs.Table.{distance_table, pair_table, distance-at, pair-at}
use Rattle.subwords.specs.Subword.{sizes, among, is_size, size_conditions, size_refusal, subword_answer}

-- what holds of each of a list holds of a number among them

abbrev tested : (ℕ → Bool) → List ℕ → Bool
tested p [] = true
tested p (s ∷ ss) = p s && tested p ss

among-tested : (p : ℕ → Bool) (ss : List ℕ) → tested p ss ≡ true → (z : ℕ) → among ss z ≡ true → p z ≡ true
among-tested p [] t z a = absurd (true≢false (sym a))
among-tested p (s ∷ ss) t z a = by (eqb z s) (eqb-true z s) a (both (p s) (tested p ss) t) (among-tested p ss)
  where
    by : (b : Bool) → (b ≡ true → z ≡ s) → (b || among ss z) ≡ true → (p s ≡ true) × (tested p ss ≡ true) → (tested p ss ≡ true → (z : ℕ) → among ss z ≡ true → p z ≡ true)
        → p z ≡ true
    by true e q h rest = ap p (e refl) ∙ h.0
    by false e q h rest = rest h.1 z q

-- pairs of subwords of each size fill a word

abbrev fills : ℕ → Bool
fills z = eqb (32 / z * (2 * z)) 64

fills-all : tested fills sizes ≡ true
fills-all = refl

pub size-fills : (z : ℕ) → is_size z ≡ true → 32 / z * (2 * z) ≡ 64
size-fills z h = eqb-true _ _ (among-tested fills sizes fills-all z h)

-- the distances of the table are sizes

distances-sizes : every 6 (λ k. is_size (2 ^ (5 - k))) ≡ true
unfolding every
distances-sizes = refl

pub distance-size : (k : ℕ) → k < 6 → is_size (2 ^ (5 - k)) ≡ true
distance-size k h = every-at 6 (λ k. is_size (2 ^ (5 - k))) distances-sizes k h

-- the table

pub size-found : (z k : ℕ) → k < 6 → get_or distance_table k 0 ≡ z → (is_size z ≡ true) × (get_or pair_table k 0 ≡ pairs z)
size-found z k h e =
    let p : 2 ^ (5 - k) ≡ z = sym (distance-at k h) ∙ e in
    (rw p at (distance-size k h), pair-at k h ∙ ap pairs p)

-- the answers

pub size-refused : (z : ℕ) → is_size z ≡ false → (x : ℕ) → subword_answer z x ≡ record { refusal = 12; word = 0 }
unfolding subword_answer size_refusal
size-refused z h x = rw h

pub size-carried : (z : ℕ) → is_size z ≡ true → (x : ℕ) → subword_answer z x ≡ record { refusal = 0; word = x }
unfolding subword_answer size_refusal
size-carried z h x = rw h

-- equal answers, if the words are equal for every size
pub answers-same : (z : ℕ) {x y : ℕ} → (is_size z ≡ true → x ≡ y) → subword_answer z x ≡ subword_answer z y
unfolding subword_answer size_refusal
answers-same z {x} {y} e = by (is_size z) refl
  where
    by : (b : Bool) → is_size z ≡ b → subword_answer z x ≡ subword_answer z y
    by true s = ap (subword_answer z) (e s)
    by false s = rw s

-- demand 1, of the five calls
pub subword-lowest : (z x : ℕ) → AnswersLowest (size_conditions z) (λ a. a.refusal) (λ n. record { refusal = n; word = 0 }) (subword_answer z x)
unfolding subword_answer size_refusal
subword-lowest z x =
    answers-lowest (size_conditions z) (omega arith) (λ (a : Carried). a.refusal) (λ n. record { refusal = n; word = 0 }) (record { refusal = 0; word = x }) refl
    (λ n. refl)
