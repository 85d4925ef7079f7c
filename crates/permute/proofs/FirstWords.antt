-- Stages as words: where they stand in the direction of travel and among six, and that they are the words of their switches. Assumes nothing.
use mathlib.Core.Path.{◌≡◌, refl, sym, ◌∙◌, ap}
use mathlib.Core.Logic.{◌⊎◌, inl, inr}
use mathlib.Core.Bool.{Bool, cond}
use mathlib.Core.List.{List}
use Prim.Native.Nat.{ℕ, suc, ◌+◌, ◌-◌, ◌/◌, ◌^◌, ◌<◌}
use native.Mathlib.Omega.{arith}
use lib.Dec.{eqb}
use lib.ListN.{length, get_or, take, replicate, get_or-append}
use lib.Seq.{ext_get_or, get_or-append-add, take_at}
use Rattle.bits.specs.Bit.{bit}
use Rattle.bits.proofs.Word.{bit-cases, ext}
use Rattle.routing.specs.Stages.{Butterfly, Inverse}
use Rattle.routing.specs.Stages as place
use Rattle.routing.specs.Lists.{Words, word_of, control_in, butterfly_words, inverse_words, butterfly_from, inverse_from, words_of, from_words}
use Rattle.routing.proofs.StageWords.{word_small, word-bit, length-butterfly, length-inverse, butterfly-word, inverse-word}
use Rattle.network.specs.Calls.{Uses, six}
use Rattle.permute.specs.First.{travelled, UsesBoth}

-- where the words stand in the direction of travel
module _ (L : ℕ) (k : Words) (b : length k.butterfly ≡ L) where
  pub travelled-butterfly : (i : ℕ) → i < L → get_or (travelled k) i 0 ≡ get_or k.butterfly i 0
  travelled-butterfly i h = get_or-append k.butterfly k.inverse 0 i (omega arith)

  pub travelled-inverse : (i : ℕ) → get_or (travelled k) (L + i) 0 ≡ get_or k.inverse i 0
  travelled-inverse i =
      ap (λ (n : ℕ). get_or (travelled k) (n + i) 0) (sym b) ∙ get_or-append-add k.butterfly k.inverse i 0

-- the stages in use of six
pub in_use_lem : (L : ℕ) (cs : List ℕ) → length cs ≡ L → take L (six cs) ≡ cs
in_use_lem L cs e = take_at cs (replicate (6 - length cs) 0) L e

-- bit s of a word is zero exactly if switch s swaps
pub control-bit : (x s : ℕ) {c : Bool} → control_in x s ≡ c → bit x s ≡ cond c 0 1
unfolding control_in bit
control-bit x s e = by_cases (bit-cases x s) ∙ ap (λ (b : Bool). cond b 0 1) e
  where
    by_cases : (bit x s ≡ 0) ⊎ (bit x s ≡ 1) → bit x s ≡ cond (eqb (bit x s) 0) 0 1
    by_cases (inl z) = rw z
    by_cases (inr o) = rw o

-- a word is the word of its switches
word_back : (w : ℕ) {x : ℕ} → x < 2 ^ w → word_of w (control_in x) ≡ x
unfolding bit
word_back w {x} h = ext w (word_small w (control_in x)) h (λ s l. word-bit w (control_in x) s l ∙ sym (control-bit x s refl))

-- Words of L stages, stage i in the direction of travel with the controls c i: used only where they may be, and such words are those of their switches.
module _ (L : ℕ) (c : ℕ → ℕ → Bool) (words : List ℕ) (long : length words ≡ L) (are : (i : ℕ) → i < L → get_or words i 0 ≡ word_of (2 ^ L / 2) (c i)) where
  used : Uses L words
  used = (long, λ i l. rw (are i l) (word_small (2 ^ L / 2) (c i)))

  back : (cs : List ℕ) → Uses L cs → ((i : ℕ) → i < L → c i ≡ control_in (get_or cs i 0)) → words ≡ cs
  back cs u same =
      ext_get_or 0 words cs (long ∙ sym u.0)
      (λ i h. let l : i < L = omega arith in are i l ∙ ap (word_of (2 ^ L / 2)) (same i l) ∙ word_back (2 ^ L / 2) (u.1 i l))

module _ (L : ℕ) (c : ℕ → ℕ → Bool) where
  falls : (i : ℕ) → i < L → get_or (butterfly_words (2 ^ L / 2) L c) i 0 ≡ word_of (2 ^ L / 2) (c (L - suc i))
  falls i l = butterfly-word (2 ^ L / 2) L c i (L - suc i) (omega arith)

  rises : (i : ℕ) → i < L → get_or (inverse_words (2 ^ L / 2) 0 L c) i 0 ≡ word_of (2 ^ L / 2) (c i)
  rises i l = inverse-word (2 ^ L / 2) 0 L c i i (omega arith) l

  pub butterfly-used : Uses L (butterfly_words (2 ^ L / 2) L c)
  butterfly-used = used L (λ i. c (L - suc i)) (butterfly_words (2 ^ L / 2) L c) (length-butterfly (2 ^ L / 2) L c) falls

  pub inverse-used : Uses L (inverse_words (2 ^ L / 2) 0 L c)
  inverse-used = used L c (inverse_words (2 ^ L / 2) 0 L c) (length-inverse (2 ^ L / 2) 0 L c) rises

module _ (L : ℕ) (cs : List ℕ) (u : Uses L cs) where
  pub butterfly-back : butterfly_words (2 ^ L / 2) L (butterfly_from L cs) ≡ cs
  unfolding butterfly_from
  butterfly-back =
      let c = butterfly_from L cs in
      back L (λ i. c (L - suc i)) (butterfly_words (2 ^ L / 2) L c) (length-butterfly (2 ^ L / 2) L c) (falls L c) cs u
      (λ i l. let n : L - suc (L - suc i) ≡ i = omega arith in ap (λ (j : ℕ). control_in (get_or cs j 0)) n)

  pub inverse-back : inverse_words (2 ^ L / 2) 0 L (inverse_from cs) ≡ cs
  unfolding inverse_from
  inverse-back =
      let c = inverse_from cs in
      back L c (inverse_words (2 ^ L / 2) 0 L c) (length-inverse (2 ^ L / 2) 0 L c) (rises L c) cs u (λ i l. refl)

pub words-used : (L : ℕ) (C : place.StageControls) → UsesBoth L (words_of L C)
unfolding words_of
words-used L C = (butterfly-used L (λ e. C (Butterfly e)), inverse-used L (λ e. C (Inverse e)))

pub words_back : (L : ℕ) (k : Words) → UsesBoth L k → words_of L (from_words L k) ≡ k
unfolding words_of
words_back L k u = λ i. record { butterfly = butterfly-back L k.butterfly u.0 i; inverse = inverse-back L k.inverse u.1 i }
