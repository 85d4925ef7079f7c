-- Stages as words: the words of a set of controls stand for that set.
-- Assumes nothing.
use mathlib.Core.Path.{◌≡◌, refl, sym, ap, ap₂, ◌∙◌, subst}
use mathlib.Core.Bool.{Bool, true, false, cond}
use mathlib.Core.List.{List, ◌∷◌}
use Prim.Native.Nat.{ℕ, zero, suc, ◌+◌, ◌-◌, ◌*◌, ◌/◌, ◌%◌, ◌^◌, ◌<◌}
use native.Mathlib.Decide.{dec_lt}
use native.Mathlib.Omega.{arith}
use native.Mathlib.Nat.{add-zero, div-eq_of_lt, add-div_right}
use lib.Dec.{eqb}
use lib.Pow.{pow_pos, pow-add}
use lib.ListN.{length, get_or}
use Rattle.routing.specs.Stages.{Butterfly, Inverse, StageControls, InRange, Same, Agree}
use Rattle.routing.specs.FirstControls.{IsFirst}
use Rattle.routing.specs.Lists.{entry, ListPermutes, controls_of, word_of, control_in, butterfly_words, inverse_words, butterfly_from, inverse_from, words_of, from_words, first_words}
use Rattle.routing.proofs.Through.{digit-offset}
use Rattle.routing.proofs.FirstControls.{first_cong}
use Rattle.routing.proofs.ListControls.{list-first}

pub word_small : (k : ℕ) (c : ℕ → Bool) → word_of k c < 2 ^ k
unfolding word_of
word_small zero c = omega arith
word_small (suc k) c = go (c k) (word_small k c)
  where
    go : (b : Bool) → word_of k c < 2 ^ k → word_of k c + cond b 0 (2 ^ k) < 2 ^ suc k
    go true h = omega arith
    go false h = omega arith

-- the digits of a word with one more digit on top
digit-top : (k x : ℕ) (b : Bool) → x < 2 ^ k → (x + cond b 0 (2 ^ k)) / 2 ^ k % 2 ≡ cond b 0 1
digit-top k x true h = ap (λ (y : ℕ). y % 2) (div-eq_of_lt (omega arith))
digit-top k x false h = rw (add-div_right x (pow_pos k), div-eq_of_lt h) refl

digit-below : (k x : ℕ) (b : Bool) (s : ℕ) → s < k → (x + cond b 0 (2 ^ k)) / 2 ^ s % 2 ≡ x / 2 ^ s % 2
digit-below k x true s h = rw add-zero
digit-below k x false s h =
    let q : k ≡ k - suc s + suc s = omega arith in
    let e : 2 ^ k ≡ 2 ^ (k - suc s) * 2 ^ suc s = ap (λ (j : ℕ). 2 ^ j) q ∙ pow-add 2 (k - suc s) (suc s) in
    let a : x + 2 ^ k ≡ 2 ^ (k - suc s) * 2 ^ suc s + x = omega (arith, e) in
    ap (λ (y : ℕ). y / 2 ^ s % 2) a ∙ digit-offset s (2 ^ (k - suc s)) x

-- bit s is zero exactly if switch s swaps
pub word-bit : (k : ℕ) (c : ℕ → Bool) (s : ℕ) → s < k → word_of k c / 2 ^ s % 2 ≡ cond (c s) 0 1
unfolding word_of
word-bit zero c s h = absurd (omega arith)
word-bit (suc k) c s h = go (dec_lt s k) (word-bit k c s)
  where
    go :
        Dec (s < k)
        → (s < k → word_of k c / 2 ^ s % 2 ≡ cond (c s) 0 1)
        → (word_of k c + cond (c k) 0 (2 ^ k)) / 2 ^ s % 2 ≡ cond (c s) 0 1
    go (yes l) ih = digit-below k (word_of k c) (c k) s l ∙ ih l
    go (no g) ih =
        let e : k ≡ s = omega arith in
        subst (λ (t : ℕ). (word_of k c + cond (c k) 0 (2 ^ k)) / 2 ^ t % 2 ≡ cond (c t) 0 1) e
        (digit-top k (word_of k c) (c k) (word_small k c))

-- so the word gives the controls back
control-word : (k : ℕ) (c : ℕ → Bool) (s : ℕ) → s < k → control_in (word_of k c) s ≡ c s
unfolding control_in
control-word k c s l = ap (λ (x : ℕ). eqb x 0) (word-bit k c s l) ∙ read (c s)
  where
    read : (b : Bool) → eqb (cond b 0 1) 0 ≡ b
    read true = refl
    read false = refl

word-cong : (k : ℕ) (c d : ℕ → Bool) → ((s : ℕ) → s < k → c s ≡ d s) → word_of k c ≡ word_of k d
unfolding word_of
word-cong zero c d same = refl
word-cong (suc k) c d same =
    ap₂ (λ (x : ℕ) (b : Bool). x + cond b 0 (2 ^ k)) (word-cong k c d (λ s l. same s (omega arith)))
    (same k (omega arith))

-- a word for each stage

pub length-butterfly : (w k : ℕ) (c : ℕ → ℕ → Bool) → length (butterfly_words w k c) ≡ k
unfolding butterfly_words
length-butterfly w zero c = refl
length-butterfly w (suc k) c = ap suc (length-butterfly w k c)

pub length-inverse : (w e k : ℕ) (c : ℕ → ℕ → Bool) → length (inverse_words w e k c) ≡ k
unfolding inverse_words
length-inverse w e zero c = refl
length-inverse w e (suc k) c = ap suc (length-inverse w (suc e) k c)

-- where the word of a stage stands
pub butterfly-word :
    (w k : ℕ) (c : ℕ → ℕ → Bool) (i e : ℕ)
    → i + suc e ≡ k
    → get_or (butterfly_words w k c) i 0 ≡ word_of w (c e)
unfolding butterfly_words
butterfly-word w zero c i e h = absurd (omega arith)
butterfly-word w (suc k) c zero e h = let q : k ≡ e = omega arith in ap (λ (d : ℕ). word_of w (c d)) q
butterfly-word w (suc k) c (suc i) e h = butterfly-word w k c i e (omega arith)

pub inverse-word :
    (w d k : ℕ) (c : ℕ → ℕ → Bool) (i e : ℕ)
    → d + i ≡ e
    → i < k
    → get_or (inverse_words w d k c) i 0 ≡ word_of w (c e)
unfolding inverse_words
inverse-word w d zero c i e q h = absurd (omega arith)
inverse-word w d (suc k) c zero e q h = let r : d ≡ e = omega arith in ap (λ (j : ℕ). word_of w (c j)) r
inverse-word w d (suc k) c (suc i) e q h = inverse-word w (suc d) k c i e (omega arith) (omega arith)

switch-small : (n e s : ℕ) → InRange n e s → s < 2 ^ n / 2
switch-small zero e s i = absurd (omega (arith, i.at_stage))
switch-small (suc n) e s i = omega (arith, i.switch)

switch-in : (n e s : ℕ) → e < n → s < 2 ^ n / 2 → InRange n e s
switch-in n e s h l = record { at_stage = h; switch = omega arith }

-- the words of n stages, each of 2^n / 2 switches, stand for their controls
pub butterfly-words :
    (n : ℕ) (c : ℕ → ℕ → Bool) → Same n c (butterfly_from n (butterfly_words (2 ^ n / 2) n c))
unfolding butterfly_from
butterfly-words n c e s i =
    let w = 2 ^ n / 2 in
    sym
    (ap (λ (x : ℕ). control_in x s) (butterfly-word w n c (n - suc e) e (omega (arith, i.at_stage)))
    ∙ control-word w (c e) s (switch-small n e s i))

pub inverse-words : (n : ℕ) (c : ℕ → ℕ → Bool) → Same n c (inverse_from (inverse_words (2 ^ n / 2) 0 n c))
unfolding inverse_from
inverse-words n c e s i =
    let w = 2 ^ n / 2 in
    sym
    (ap (λ (x : ℕ). control_in x s) (inverse-word w 0 n c e e (omega arith) i.at_stage)
    ∙ control-word w (c e) s (switch-small n e s i))

words-agree : (n : ℕ) (C : StageControls) → Agree n C (from_words n (words_of n C))
unfolding words_of
words-agree n C (Butterfly e) s i = butterfly-words n (λ e. C (Butterfly e)) e s i
words-agree n C (Inverse e) s i = inverse-words n (λ e. C (Inverse e)) e s i

-- the same controls have the same words
butterfly-stages-cong :
    (w k : ℕ) (c d : ℕ → ℕ → Bool)
    → ((e s : ℕ) → e < k → s < w → c e s ≡ d e s)
    → butterfly_words w k c ≡ butterfly_words w k d
unfolding butterfly_words
butterfly-stages-cong w zero c d same = refl
butterfly-stages-cong w (suc k) c d same =
    ap₂ (λ (x : ℕ) (l : List ℕ). x ∷ l)
    (word-cong w (c k) (d k) (λ s l. same k s (omega arith) l))
    (butterfly-stages-cong w k c d (λ e s h l. same e s (omega arith) l))

inverse-stages-cong :
    (w a k : ℕ) (c d : ℕ → ℕ → Bool)
    → ((e s : ℕ) → e < a + k → s < w → c e s ≡ d e s)
    → inverse_words w a k c ≡ inverse_words w a k d
unfolding inverse_words
inverse-stages-cong w a zero c d same = refl
inverse-stages-cong w a (suc k) c d same =
    ap₂ (λ (x : ℕ) (l : List ℕ). x ∷ l)
    (word-cong w (c a) (d a) (λ s l. same a s (omega arith) l))
    (inverse-stages-cong w (suc a) k c d (λ e s h l. same e s (omega arith) l))

pub butterfly-words-cong :
    (n : ℕ) (c d : ℕ → ℕ → Bool) → Same n c d → butterfly_words (2 ^ n / 2) n c ≡ butterfly_words (2 ^ n / 2) n d
butterfly-words-cong n c d same =
    butterfly-stages-cong (2 ^ n / 2) n c d (λ e s h l. same e s (switch-in n e s h l))

pub inverse-words-cong :
    (n : ℕ) (c d : ℕ → ℕ → Bool) → Same n c d → inverse_words (2 ^ n / 2) 0 n c ≡ inverse_words (2 ^ n / 2) 0 n d
inverse-words-cong n c d same =
    inverse-stages-cong (2 ^ n / 2) 0 n c d (λ e s h l. same e s (switch-in n e s (omega arith) l))

pub words-cong : (n : ℕ) (C D : StageControls) → Agree n C D → words_of n C ≡ words_of n D
unfolding words_of
words-cong n C D agree = λ i.
    record {
      butterfly = butterfly-words-cong n (λ e. C (Butterfly e)) (λ e. D (Butterfly e)) (λ e. agree (Butterfly e)) i;
      inverse = inverse-words-cong n (λ e. C (Inverse e)) (λ e. D (Inverse e)) (λ e. agree (Inverse e)) i;
    }

-- the words for a permutation stand for the first controls that bring it
pub first-words :
    (n : ℕ) (entries : List ℕ) → ListPermutes (2 ^ n) entries → IsFirst n (from_words n (first_words n entries)) (entry entries)
unfolding first_words
first-words n entries is =
    first_cong n (entry entries) (controls_of n entries) (from_words n (words_of n (controls_of n entries)))
    (words-agree n (controls_of n entries))
    (list-first n entries is)
