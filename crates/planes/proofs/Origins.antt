-- A step moves bits, so a list of steps is a map from the places of its results to the places of the words that it begins with. Assumes nothing.
use mathlib.Core.Path.{◌≡◌, refl, sym, ◌∙◌, ap}
use mathlib.Core.Bool.{Bool, true, false, cond, ◌&&◌}
use mathlib.Core.List.{List, [], ◌∷◌, ◌++◌}
use Prim.Native.Nat.{ℕ, suc, ◌+◌, ◌^◌, ◌<◌, ◌≤◌}
use native.Mathlib.Omega.{arith}
use native.Mathlib.Decide.{dec_lt}
use lib.Dec.{eqb, ltb}
use borrow.Author.Tests.{eqb-true, eqb-false, ltb-true, ltb-false}
use lib.ListN.{length, get_or, length-append, get_or-append, get_or-eq_default}
use lib.Seq.{get_or_at}
use Rattle.bits.specs.Bit.{bit, of_bits}
use Rattle.bits.proofs.Word.{bit-above, bit-of-zero, bit-mod-two, bit-of_bits, of_bits-lt}
use Rattle.planes.specs.Steps.{Step, result_of, after_steps}

-- a place is a word's number and a bit's
abbrev pub bit_at : List ℕ → ℕ × ℕ → ℕ
bit_at ws q = bit (get_or ws q.0 0) q.1

-- the word whose bit j is that of the first word (0) or of the second at the place that `from` names
abbrev pub taken : (ℕ → ℕ × ℕ) → ℕ → ℕ → ℕ
taken from x y = of_bits 64 (λ j. bit (cond (eqb (from j).0 0) x y) (from j).1)

-- where the bit at a place comes from, behind the step that makes word n: from a source if it is in that word
abbrev pub behind : (ℕ → ℕ → ℕ → ℕ × ℕ) → ℕ → Step → ℕ × ℕ → ℕ × ℕ
behind from n s q =
    let o = from s.width s.half q.1 in
    cond (eqb q.0 n && ltb q.1 64) (cond (eqb o.0 0) s.first s.second, o.1) q

-- and behind a list of steps
unfoldable pub comes_from : (ℕ → ℕ → ℕ → ℕ × ℕ) → ℕ → List Step → ℕ × ℕ → ℕ × ℕ
comes_from from n [] q = q
comes_from from n (s ∷ ss) q = behind from n s (comes_from from (suc n) ss q)

-- one word more: it stands at the end

get_or-more-same : (ws : List ℕ) (r k : ℕ) → k ≡ length ws → get_or (ws ++ (r ∷ [])) k 0 ≡ r
get_or-more-same ws r k e = get_or_at ws r [] 0 k (sym e)

get_or-more-other : (ws : List ℕ) (r k : ℕ) → (k ≡ length ws → ⊥) → get_or (ws ++ (r ∷ [])) k 0 ≡ get_or ws k 0
get_or-more-other ws r k n = by_cases (dec_lt k (length ws))
  where
    by_cases : Dec (k < length ws) → get_or (ws ++ (r ∷ [])) k 0 ≡ get_or ws k 0
    by_cases (yes l) = get_or-append ws (r ∷ []) 0 k l
    by_cases (no m) =
        get_or-eq_default (ws ++ (r ∷ [])) 0 {n = k} (omega (arith, length-append ws (r ∷ []))) ∙ sym (get_or-eq_default ws 0 {n = k} (omega arith))

length_more : (ws : List ℕ) (r : ℕ) → length (ws ++ (r ∷ [])) ≡ suc (length ws)
length_more ws r = length-append ws (r ∷ []) ∙ omega arith

source_of : (ws : List ℕ) (i j : ℕ) (b : Bool) → cond b (get_or ws i 0) (get_or ws j 0) ≡ get_or ws (cond b i j) 0
source_of ws i j true = refl
source_of ws i j false = refl

-- of a kind of step that takes its bits as `from` says

module _ (kind : ℕ → ℕ → ℕ → ℕ → ℕ) (from : ℕ → ℕ → ℕ → ℕ × ℕ) (is : (w half x y : ℕ) → kind w half x y ≡ taken (from w half) x y) where
  kind-lt : (w half x y : ℕ) → kind w half x y < 2 ^ 64
  kind-lt w half x y = rw is (of_bits-lt 64 (λ j. bit (cond (eqb (from w half j).0 0) x y) (from w half j).1))

  bit-back : (s : Step) (ws : List ℕ) (q : ℕ × ℕ) → bit_at (ws ++ (result_of kind s ws ∷ [])) q ≡ bit_at ws (behind from (length ws) s q)
  bit-back s ws q = by_word (eqb q.0 (length ws)) refl
    where
      x : ℕ
      x = get_or ws s.first 0

      y : ℕ
      y = get_or ws s.second 0

      f : ℕ → ℕ × ℕ
      f = from s.width s.half

      r : ℕ
      r = kind s.width s.half x y

      o : ℕ × ℕ
      o = f q.1

      inside : q.0 ≡ length ws → (b : Bool) → ltb q.1 64 ≡ b → bit_at (ws ++ (r ∷ [])) q ≡ bit_at ws (cond b (cond (eqb o.0 0) s.first s.second, o.1) q)
      inside e true t =
          ap (λ (v : ℕ). bit v q.1) (get_or-more-same ws r q.0 e ∙ is s.width s.half x y)
          ∙ bit-of_bits 64 (λ j. bit (cond (eqb (f j).0 0) x y) (f j).1) q.1 (ltb-true q.1 64 t)
          ∙ bit-mod-two (cond (eqb o.0 0) x y) o.1
          ∙ ap (λ (v : ℕ). bit v o.1) (source_of ws s.first s.second (eqb o.0 0))
      inside e false t =
          ap (λ (v : ℕ). bit v q.1) (get_or-more-same ws r q.0 e)
          ∙ bit-above {w = 64} q.1 (kind-lt s.width s.half x y) (ltb-false q.1 64 t)
          ∙ sym (ap (λ (v : ℕ). bit v q.1) (get_or-eq_default ws 0 {n = q.0} (omega (arith, e))) ∙ bit-of-zero q.1)

      by_word : (b : Bool) → eqb q.0 (length ws) ≡ b
          → bit_at (ws ++ (r ∷ [])) q ≡ bit_at ws (cond (b && ltb q.1 64) (cond (eqb o.0 0) s.first s.second, o.1) q)
      by_word true t = inside (eqb-true q.0 (length ws) t) (ltb q.1 64) refl
      by_word false t = ap (λ (x : ℕ). bit x q.1) (get_or-more-other ws r q.0 (eqb-false q.0 (length ws) t))

  pub bit-after : (ss : List Step) (ws : List ℕ) (q : ℕ × ℕ) → bit_at (after_steps kind ss ws) q ≡ bit_at ws (comes_from from (length ws) ss q)
  unfolding after_steps comes_from
  bit-after [] ws q = refl
  bit-after (s ∷ ss) ws q =
      let r = result_of kind s ws in
      let o = comes_from from (suc (length ws)) ss q in
      bit-after ss (ws ++ (r ∷ [])) q
      ∙ ap (λ (n : ℕ). bit_at (ws ++ (r ∷ [])) (comes_from from n ss q)) (length_more ws r)
      ∙ bit-back s ws o

  -- from word m up all words fit 64 bits, if they did before
  pub after-lt : (m : ℕ) (ss : List Step) (ws : List ℕ) → ((k : ℕ) → m ≤ k → get_or ws k 0 < 2 ^ 64) → (k : ℕ) → m ≤ k → get_or (after_steps kind ss ws) k 0 < 2 ^ 64
  unfolding after_steps
  after-lt m [] ws h k l = h k l
  after-lt m (s ∷ ss) ws h k l = after-lt m ss (ws ++ (result_of kind s ws ∷ [])) more k l
    where
      r : ℕ
      r = result_of kind s ws

      by_word : (j : ℕ) → m ≤ j → (b : Bool) → eqb j (length ws) ≡ b → get_or (ws ++ (r ∷ [])) j 0 < 2 ^ 64
      by_word j g true t = rw (get_or-more-same ws r j (eqb-true j (length ws) t)) (kind-lt s.width s.half (get_or ws s.first 0) (get_or ws s.second 0))
      by_word j g false t = rw (get_or-more-other ws r j (eqb-false j (length ws) t)) (h j g)

      more : (j : ℕ) → m ≤ j → get_or (ws ++ (r ∷ [])) j 0 < 2 ^ 64
      more j g = by_word j g (eqb j (length ws)) refl

pub length-after : (kind : ℕ → ℕ → ℕ → ℕ → ℕ) (ss : List Step) (ws : List ℕ) → length (after_steps kind ss ws) ≡ length ws + length ss
unfolding after_steps
length-after kind [] ws = omega arith
length-after kind (s ∷ ss) ws =
    let r = result_of kind s ws in
    length-after kind ss (ws ++ (r ∷ [])) ∙ omega (arith, length_more ws r)
