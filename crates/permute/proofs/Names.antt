-- The test that a list names every place once. Assumes nothing.
use mathlib.Core.Path.{◌≡◌, refl, sym, ◌∙◌, ap, ap₂}
use mathlib.Core.Bool.{Bool, true, false, not, cond, ◌&&◌, true≢false}
use mathlib.Core.List.{List, [], ◌∷◌, ◌++◌}
use Prim.Native.Nat.{ℕ, zero, suc, ◌+◌, ◌*◌, ◌/◌, ◌%◌, ◌^◌, ◌<◌, ◌≤◌, max}
use native.Mathlib.Omega.{arith}
use native.Mathlib.Decide.{ℕ_discrete}
use native.Mathlib.Nat.{not-suc-le-zero}
use native.Mathlib.Numerals.{add-one}
use lib.Bits.{bit_or}
use lib.Dec.{eqb, ltb}
use lib.ListN.{length, get_or, take, drop}
use lib.Seq.{drop-cons, drop-length}
use Rattle.std.proofs.lemmas.List.{length-append, length-take, get_or-take, get_or_at, take_at, take-take}
use borrow.Author.Tests.{ltb-true, lt-ltb, le-ltb, eq-eqb, ne_eqb}
use Rattle.bits.specs.Bit.{bit}
use Rattle.bits.proofs.Refusals.{both}
use Rattle.bits.proofs.Word.{bit-lt, bit-or, bit-of-zero, bit-pow, bit-pow-own}
use Rattle.network.proofs.StageBlocks.{shl_one}
use Rattle.routing.specs.Lists.{ListPermutes}
use Rattle.permute.specs.Permutation.{absent, names_once}

-- such a list is a permutation

absent-not : (x : ℕ) (ys : List ℕ) → absent x ys ≡ true → (p : ℕ) → p < length ys → x ≡ get_or ys p 0 → ⊥
unfolding absent
absent-not x [] e p h q = not-suc-le-zero h
absent-not x (y ∷ ys) e zero h q = true≢false (sym (both (not (eqb x y)) (absent x ys) e).0 ∙ ap not (eq-eqb x y q))
absent-not x (y ∷ ys) e (suc p) h q = absent-not x ys (both (not (eqb x y)) (absent x ys) e).1 p (omega arith) q

module _ (w x : ℕ) (xs : List ℕ) (e : names_once w (x ∷ xs) ≡ true) where
  head_small : x < w
  unfolding names_once
  head_small = ltb-true x w (both (ltb x w) (absent x xs) (both (ltb x w && absent x xs) (names_once w xs) e).0).0

  head-absent : absent x xs ≡ true
  unfolding names_once
  head-absent = (both (ltb x w) (absent x xs) (both (ltb x w && absent x xs) (names_once w xs) e).0).1

  tail-once : names_once w xs ≡ true
  unfolding names_once
  tail-once = (both (ltb x w && absent x xs) (names_once w xs) e).1

names-small : (w : ℕ) (es : List ℕ) → names_once w es ≡ true → (p : ℕ) → p < length es → get_or es p 0 < w
names-small w [] e p h = absurd (not-suc-le-zero h)
names-small w (x ∷ xs) e zero h = head_small w x xs e
names-small w (x ∷ xs) e (suc p) h = names-small w xs (tail-once w x xs e) p (omega arith)

names_apart : (w : ℕ) (es : List ℕ) → names_once w es ≡ true → (p q : ℕ) → p < length es → q < length es → get_or es p 0 ≡ get_or es q 0 → p ≡ q
names_apart w [] e p q h l n = absurd (not-suc-le-zero h)
names_apart w (x ∷ xs) e zero zero h l n = refl
names_apart w (x ∷ xs) e zero (suc q) h l n = absurd (absent-not x xs (head-absent w x xs e) q (omega arith) n)
names_apart w (x ∷ xs) e (suc p) zero h l n = absurd (absent-not x xs (head-absent w x xs e) p (omega arith) (sym n))
names_apart w (x ∷ xs) e (suc p) (suc q) h l n = ap suc (names_apart w xs (tail-once w x xs e) p q (omega arith) (omega arith) n)

pub names-permutes : (w : ℕ) (es : List ℕ) → length es ≡ w → names_once w es ≡ true → ListPermutes w es
names-permutes w es l e =
    record {
      long = l;
      small = λ p h. names-small w es e p (omega arith);
      once = λ p q h k n. names_apart w es e p q (omega arith) (omega arith) n;
    }

-- and a permutation is such a list

absent_by : (x : ℕ) (ys : List ℕ) → ((p : ℕ) → p < length ys → x ≡ get_or ys p 0 → ⊥) → absent x ys ≡ true
unfolding absent
absent_by x [] n = refl
absent_by x (y ∷ ys) n = ap₂ (λ (a b : Bool). not a && b) (ne_eqb x y (n 0 (omega arith))) (absent_by x ys (λ p h. n (suc p) (omega arith)))

apart-names : (w : ℕ) (es : List ℕ) → ((p : ℕ) → p < length es → get_or es p 0 < w)
    → ((p q : ℕ) → p < length es → q < length es → get_or es p 0 ≡ get_or es q 0 → p ≡ q) → names_once w es ≡ true
unfolding names_once
apart-names w [] small apart = refl
apart-names w (x ∷ xs) small apart =
    let h = lt-ltb x w (small 0 (omega arith)) in
    let a = absent_by x xs (λ p l e. omega (arith, apart 0 (suc p) (omega arith) (omega arith) e)) in
    let r = apart-names w xs (λ p l. small (suc p) (omega arith)) (λ p q l k e. omega (arith, apart (suc p) (suc q) (omega arith) (omega arith) e)) in
    λ i. h i && a i && r i

pub permutes-names : (w : ℕ) (es : List ℕ) → ListPermutes w es → names_once w es ≡ true
permutes-names w es p = apart-names w es (λ q h. p.small q (omega (arith, p.long))) (λ q r h l e. p.once q r (omega (arith, p.long)) (omega (arith, p.long)) e)

-- The code's loop, from the last entry: `seen` marks the entries passed.

pub Seen : ℕ → List ℕ → Type 0
Seen seen ys = (x : ℕ) → x < 64 → absent x ys ≡ eqb (bit seen x) 0

seen_none : Seen 0 []
unfolding Seen absent
seen_none x h = sym (eq-eqb (bit 0 x) 0 (bit-of-zero x))

seen_more : (seen e : ℕ) (ys : List ℕ) → e < 64 → Seen seen ys → Seen (bit_or seen (1 * 2 ^ e % 2 ^ 64)) (e ∷ ys)
unfolding Seen absent
seen_more seen e ys h s x l =
    by_cases (ℕ_discrete x e)
    ∙ ap (λ (n : ℕ). eqb n 0) (sym (bit-or seen (1 * 2 ^ e % 2 ^ 64) x ∙ ap (λ (y : ℕ). max (bit seen x) (bit y x)) (shl_one e h)))
  where
    other : (x ≡ e → ⊥) → bit (2 ^ e) x ≡ 0
    other n = bit-pow e x ∙ ap (λ (b : Bool). cond b 1 0) (ne_eqb x e n)

    by_cases : Dec (x ≡ e) → (not (eqb x e) && absent x ys) ≡ eqb (max (bit seen x) (bit (2 ^ e) x)) 0
    by_cases (yes q) =
        let m : max (bit seen x) (bit (2 ^ e) x) ≡ 1 = omega (arith, ap (bit (2 ^ e)) q, bit-pow-own e, bit-lt seen x) in
        ap (λ (b : Bool). not b && absent x ys) (eq-eqb x e q) ∙ sym (ap (λ (n : ℕ). eqb n 0) m)
    by_cases (no n) =
        let m : max (bit seen x) (bit (2 ^ e) x) ≡ bit seen x = omega (arith, other n) in
        ap (λ (b : Bool). not b && absent x ys) (ne_eqb x e n) ∙ s x l ∙ sym (ap (λ (k : ℕ). eqb k 0) m)

pub seen_nothing : (es : List ℕ) → Seen 0 (drop (length es) es)
seen_nothing es = rw (drop-length es) seen_none

pub nothing_left : (w : ℕ) (es : List ℕ) → names_once w (drop (length es) es) ≡ true
unfolding names_once
nothing_left w es = rw (drop-length es)

-- what is left of the entries, once x has been taken from its end
pub one-left :
    (es rest : List ℕ) {more : List ℕ} {x : ℕ}
    → more ≡ take (length more) es
    → more ≡ rest ++ x ∷ []
    → (length more ≡ length rest + 1) × (length rest < length es) × (rest ≡ take (length rest) es) × (x ≡ get_or es (length rest) 0)
one-left es rest {more} {x} f g =
    let n : length more ≡ length rest + 1 = omega (arith, simp length-append at (ap length g)) in
    let l : length rest < length es = omega (arith, ap length f, length-take (length more) es) in
    let h : length rest < length more = omega arith in (
      n,
      l,
      sym (take_at rest (x ∷ []) (length rest) refl) ∙ ap (take (length rest)) (sym g ∙ f) ∙ take-take (length rest) (length more) es (omega arith),
      sym (get_or_at rest x [] 0 (length rest) refl) ∙ ap (λ (ys : List ℕ). get_or ys (length rest) 0) (sym g ∙ f) ∙ get_or-take (length more) es (length rest) 0 h,
    )

-- a list whose end does not pass does not pass
names-suffix : (w : ℕ) (es : List ℕ) (i : ℕ) → names_once w (drop i es) ≡ false → names_once w es ≡ false
unfolding names_once
names-suffix w es zero e = e
names-suffix w [] (suc i) e = e
names-suffix w (x ∷ xs) (suc i) e = by (ltb x w && absent x xs) (names-suffix w xs i e)
  where
    by : (b : Bool) → names_once w xs ≡ false → (b && names_once w xs) ≡ false
    by true e = e
    by false e = refl

-- by the tests of the entry at i, the list from i on
module _ (w : ℕ) (es : List ℕ) (i : ℕ) (h : i < length es) where
  names-step : names_once w (drop i es) ≡ (ltb (get_or es i 0) w && absent (get_or es i 0) (drop (i + 1) es) && names_once w (drop (i + 1) es))
  unfolding names_once
  names-step = rw (add-one i, drop-cons es i 0)

  pub entry-large : w ≤ get_or es i 0 → false ≡ names_once w es
  entry-large l =
      sym (names-suffix w es i
      (names-step ∙ ap (λ (b : Bool). b && absent (get_or es i 0) (drop (i + 1) es) && names_once w (drop (i + 1) es)) (le-ltb (get_or es i 0) w l)))

  pub entry-repeated : (seen : ℕ) → get_or es i 0 < 64 → Seen seen (drop (i + 1) es) → (seen / 2 ^ get_or es i 0 % 2 ≡ 0 → ⊥) → false ≡ names_once w es
  unfolding Seen bit
  entry-repeated seen l s n =
      sym (names-suffix w es i
      (names-step ∙ middle (ltb (get_or es i 0) w) (names_once w (drop (i + 1) es)) (s (get_or es i 0) l ∙ ne_eqb (bit seen (get_or es i 0)) 0 n)))
    where
      middle : (a c : Bool) {b : Bool} → b ≡ false → (a && b && c) ≡ false
      middle true c e = ap (λ (b : Bool). b && c) e
      middle false c e = refl

  pub entry_new : (seen : ℕ) → get_or es i 0 < w → w ≤ 64 → Seen seen (drop (i + 1) es) → names_once w (drop (i + 1) es) ≡ true
      → seen / 2 ^ get_or es i 0 % 2 ≡ 0 → (names_once w (drop i es) ≡ true) × Seen (bit_or seen (1 * 2 ^ get_or es i 0 % 2 ^ 64)) (drop i es)
  unfolding bit
  entry_new seen l k s t n =
      let e = get_or es i 0 in (
        names-step ∙ ap₂ (λ (a b : Bool). a && b && names_once w (drop (i + 1) es)) (lt-ltb e w l) (fresh seen (omega arith) s n) ∙ t,
        rw (drop-cons es i 0) (rw (add-one i) at (seen_more seen e (drop (i + 1) es) (omega arith) s)),
      )
    where
      fresh : (seen : ℕ) → get_or es i 0 < 64 → Seen seen (drop (i + 1) es) → bit seen (get_or es i 0) ≡ 0 → absent (get_or es i 0) (drop (i + 1) es) ≡ true
      fresh seen l s n = unfold Seen in (s (get_or es i 0) l ∙ eq-eqb (bit seen (get_or es i 0)) 0 n)
