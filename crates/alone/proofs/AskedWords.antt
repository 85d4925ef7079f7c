-- Stages as words: one route more of a stage, words with no one in common, and the stages of a network in the direction of travel.
-- Assumes nothing.
use mathlib.Core.Path.{◌≡◌, refl, sym, ap, ap₂, ◌∙◌}
use mathlib.Core.Bool.{Bool, true, false, cond, ◌&&◌}
use Prim.Native.Nat.{ℕ, ◌-◌, ◌/◌, ◌^◌, ◌<◌, min, max}
use native.Mathlib.Omega.{arith}
use lib.Dec.{eqb}
use lib.Bits.{bit_and, bit_or, or_lt, or_zero_r, and_le_r}
use lib.ListN.{length, get_or}
use lib.Pow.{pow_pos, pow-lt}
use Rattle.bits.specs.Bit.{bit}
use Rattle.bits.proofs.Word.{bit-of-zero, bit-and, bit-or, bit-pow, ext}
use Rattle.routing.specs.Loop.{pass}
use Rattle.routing.specs.Lists.{word_of}
use Rattle.routing.proofs.StageWords.{word_small, word-bit, length-butterfly, length-inverse, butterfly-word, inverse-word}
use Rattle.alone.specs.Asked.{crossed, asks, asked, stage_at, stage_words}

-- one switch more that passes
or-pass :
    (w s : ℕ) (c : ℕ → Bool)
    → s < w
    → bit_or (word_of w c) (2 ^ s) ≡ word_of w (λ t. cond (eqb t s) pass (c t))
unfolding bit
or-pass w s c h =
    ext w (or_lt w (word_of w c) (2 ^ s) (word_small w c) (pow-lt h)) (word_small w d)
    (λ i l.
    bit-or (word_of w c) (2 ^ s) i
    ∙ ap₂ max (word-bit w c i l) (bit-pow s i)
    ∙ go (c i) (eqb i s)
    ∙ sym (word-bit w d i l))
  where
    d : ℕ → Bool
    d t = cond (eqb t s) pass (c t)

    go : (b q : Bool) → max (cond b 0 1) (cond q 1 0) ≡ cond (cond q pass b) 0 1
    go true true = refl
    go true false = refl
    go false true = refl
    go false false = refl

pub asked-turn :
    (way : Bool) (w e a b : ℕ) (c : ℕ → Bool)
    → crossed e a b < w
    → bit_or (word_of w c) (asked way e a b) ≡ word_of w (λ s. cond (asks way e a b && eqb s (crossed e a b)) pass (c s))
unfolding asked
asked-turn way w e a b c h = go (asks way e a b)
  where
    go :
        (t : Bool)
        → bit_or (word_of w c) (cond t (2 ^ crossed e a b) 0)
        ≡ word_of w (λ s. cond (t && eqb s (crossed e a b)) pass (c s))
    go true = or-pass w (crossed e a b) c h
    go false = or_zero_r (word_of w c)

-- two words without a one in common
module _ (w : ℕ) (c d : ℕ → Bool) where
  common-bit : (s : ℕ) → s < w → bit (bit_and (word_of w c) (word_of w d)) s ≡ min (cond (c s) 0 1) (cond (d s) 0 1)
  unfolding bit
  common-bit s l = bit-and (word_of w c) (word_of w d) s ∙ ap₂ min (word-bit w c s l) (word-bit w d s l)

  pub apart_words : ((s : ℕ) → s < w → c s ≡ false → d s ≡ false → ⊥) → bit_and (word_of w c) (word_of w d) ≡ 0
  apart_words apart =
      ext w (omega (arith, and_le_r (word_of w c) (word_of w d), word_small w d)) (pow_pos w)
      (λ s l. common-bit s l ∙ go s (c s) (d s) refl refl (apart s l) ∙ sym (bit-of-zero s))
    where
      go : (s : ℕ) (x y : Bool) → c s ≡ x → d s ≡ y → (c s ≡ false → d s ≡ false → ⊥) → min (cond x 0 1) (cond y 0 1) ≡ 0
      go s true true p q n = refl
      go s true false p q n = refl
      go s false true p q n = refl
      go s false false p q n = absurd (n p q)

  pub words-apart : bit_and (word_of w c) (word_of w d) ≡ 0 → (s : ℕ) → s < w → c s ≡ false → d s ≡ false → ⊥
  words-apart e s l p q =
      let one : bit (bit_and (word_of w c) (word_of w d)) s ≡ 1 =
      common-bit s l ∙ ap₂ (λ (x y : Bool). min (cond x 0 1) (cond y 0 1)) p q
      in
      absurd (omega (arith, one, ap (λ (x : ℕ). bit x s) e, bit-of-zero s))

-- the stages in the direction of travel
pub length-stages : (rising : Bool) (n : ℕ) (c : ℕ → ℕ → Bool) → length (stage_words rising n c) ≡ n
unfolding stage_words
length-stages true n c = length-inverse (2 ^ n / 2) 0 n c
length-stages false n c = length-butterfly (2 ^ n / 2) n c

pub stage-word :
    (rising : Bool) (n : ℕ) (c : ℕ → ℕ → Bool) (i : ℕ) {e v : ℕ}
    → i < n
    → e ≡ stage_at rising n i
    → v ≡ word_of (2 ^ n / 2) (c e)
    → v ≡ get_or (stage_words rising n c) i 0
unfolding stage_words
stage-word rising n c i h q f = f ∙ ap (λ (e : ℕ). word_of (2 ^ n / 2) (c e)) q ∙ go rising
  where
    go : (b : Bool) → word_of (2 ^ n / 2) (c (stage_at b n i)) ≡ get_or (stage_words b n c) i 0
    go true = sym (inverse-word (2 ^ n / 2) 0 n c i i (omega arith) h)
    go false = sym (butterfly-word (2 ^ n / 2) n c i (n - 1 - i) (omega arith))
