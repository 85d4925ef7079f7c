-- Rows of marks as the words of stages.
-- Assumes nothing.
use mathlib.Core.Path.{◌≡◌, refl, sym, ap, ap₂, ◌∙◌, fun_ext}
use mathlib.Core.Bool.{Bool, true, false, not, cond}
use mathlib.Core.List.{List}
use Prim.Native.Nat.{ℕ, zero, suc, ◌+◌, ◌-◌, ◌*◌, ◌/◌, ◌^◌, ◌≤◌, ◌<◌}
use native.Mathlib.Omega.{arith}
use lib.Pow.{pow_mono}
use mir.Val.{bool_byte}
use lib.ListN.{length, get_or}
use Rattle.routing.specs.Stages.{Stage, Butterfly, Inverse}
use Rattle.routing.specs.Lists.{word_of, Words, words_of}
use Rattle.routing.proofs.StageWords.{word_small, length-butterfly, length-inverse}
use Rattle.routing.proofs.StageWords as stage
use Rattle.first.specs.declared.Mark.{Mark}
use Rattle.first.specs.declared.Mark.TheVariants.{Swaps}
use Rattle.first.specs.Marks.{mark_swaps, row, swaps_from, controls_in}

doubled : (v : Bool) (k : ℕ) → cond v 0 (2 ^ suc k) ≡ 2 * cond v 0 (2 ^ k)
doubled true k = refl
doubled false k = let twice : 2 ^ suc k ≡ 2 * 2 ^ k = omega arith in twice

-- a word by its lowest bit and those above it
word-front : (k : ℕ) (c : ℕ → Bool) → word_of (suc k) c ≡ 2 * word_of k (λ j. c (suc j)) + cond (c 0) 0 1
unfolding word_of
word-front zero c = omega arith
word-front (suc k) c = omega (arith, word-front k c, doubled (c (suc k)) k)

control-byte : (v : Bool) → bool_byte (not v) ≡ cond v 0 1
control-byte true = refl
control-byte false = refl

-- the switches from s on as a word, and one switch more below them
module _
    (marks : List Mark)
    (at count s word : ℕ)
    (some : 0 < s)
    (low : s ≤ count)
    (small : count ≤ 32)
    (is : word ≡ word_of (count - s) (λ j. swaps_from marks at (s + j)))
  where
    pub twice_fits : 2 * word < 2 ^ 32
    twice_fits =
        let c = λ (j : ℕ). swaps_from marks at (s + j) in
        omega (arith, word_small (count - s) c, pow_mono {i = count - s} {j = 31} (omega arith))

    module _ {bit : ℕ} {v : Bool} (vq : v ≡ swaps_from marks at (s - 1)) (bq : bit ≡ bool_byte (not v)) where
      pub word-turn : 2 * word + bit ≡ word_of (count - (s - 1)) (λ j. swaps_from marks at (s - 1 + j))
      word-turn =
          let c = swaps_from marks at in
          let k = count - s in
          let here : s - 1 ≡ s - 1 + 0 = omega arith in
          let longer : suc k ≡ count - (s - 1) = omega arith in
          let above = fun_ext (λ (j : ℕ). let q : s + j ≡ s - 1 + suc j = omega arith in ap c q) in
          let high : word ≡ word_of k (λ j. c (s - 1 + suc j)) = is ∙ ap (word_of k) above in
          let low : bit ≡ cond (c (s - 1 + 0)) 0 1 = bq ∙ control-byte v ∙ ap (λ (v : Bool). cond v 0 1) (vq ∙ ap c here) in
          let whole : 2 * word + bit ≡ word_of (suc k) (λ j. c (s - 1 + j)) = omega (arith, high, low, word-front k (λ j. c (s - 1 + j))) in
          whole ∙ ap (λ (k : ℕ). word_of k (λ j. c (s - 1 + j))) longer

      pub word_fits : 2 * word + bit < 2 ^ 32
      word_fits =
          let c = λ (j : ℕ). swaps_from marks at (s - 1 + j) in
          let k = count - (s - 1) in
          omega (arith, word-turn, word_small k c, pow_mono {i = k} {j = 32} (omega arith))

half-width : (log : ℕ) → 0 < log → 2 ^ (log - 1) ≡ 2 ^ log / 2
half-width zero l = absurd (omega arith)
half-width (suc k) l = let z : k ≡ suc k - 1 = omega arith in omega (arith, ap (λ (n : ℕ). 2 ^ n) z)

-- the words of all stages, in the direction of travel
module _ (marks : List Mark) (log : ℕ) (some : 0 < log) where
  abbrev both : Words
  both = words_of log (controls_in 0 marks)

  -- the word of a row
  row_word :
      (c : Stage) {count v : ℕ}
      → count ≡ 2 ^ (log - 1)
      → v ≡ word_of count (swaps_from marks (row c))
      → v ≡ word_of (2 ^ log / 2) (controls_in 0 marks c)
  row_word c cq q =
      q
      ∙ ap₂ word_of (cq ∙ half-width log some)
      (fun_ext
      (λ s.
      let i : row c + s ≡ row c + 0 + s = omega arith in
      ap (λ (i : ℕ). mark_swaps (get_or marks i Swaps)) i))

  pub butterfly-count : length both.butterfly ≡ log
  unfolding words_of
  butterfly-count = length-butterfly (2 ^ log / 2) log (λ e. controls_in 0 marks (Butterfly e))

  pub inverse-count : length both.inverse ≡ log
  unfolding words_of
  inverse-count = length-inverse (2 ^ log / 2) 0 log (λ e. controls_in 0 marks (Inverse e))

  module _ (i : ℕ) (l : i < log) {count v : ℕ} (cq : count ≡ 2 ^ (log - 1)) where
    pub butterfly-word : v ≡ word_of count (swaps_from marks (32 * (log - 1 - i))) → v ≡ get_or both.butterfly i 0
    unfolding words_of
    butterfly-word q =
        row_word (Butterfly (log - 1 - i)) cq q
        ∙ sym (stage.butterfly-word (2 ^ log / 2) log (λ e. controls_in 0 marks (Butterfly e)) i (log - 1 - i) (omega arith))

    pub inverse-word : v ≡ word_of count (swaps_from marks (192 + 32 * i)) → v ≡ get_or both.inverse i 0
    unfolding words_of
    inverse-word q =
        row_word (Inverse i) cq q
        ∙ sym (stage.inverse-word (2 ^ log / 2) 0 log (λ e. controls_in 0 marks (Inverse e)) i i (omega arith) l)
