-- Demand 2's theorems on gather, scatter and group, over every width, the definitions by rank, and Req 01's theorems on the count. Assumes nothing.
use mathlib.Core.Path.{◌≡◌, refl, sym, ◌∙◌, ap}
use mathlib.Core.Logic.{◌⊎◌, inl, inr}
use mathlib.Core.List.{◌++◌}
use Prim.Native.Nat.{ℕ, ◌+◌, ◌-◌, ◌%◌, ◌^◌, ◌<◌, ◌≤◌, min}
use native.Mathlib.Omega.{arith}
use native.Mathlib.Decide.{dec_lt}
use native.Mathlib.Nat.{mod-lt}
use lib.Bits.{bit_and, and_le_r}
use lib.ListN.{length, get_or, get_or-append}
use lib.Seq.{get_or-append-add}
use lib.Pow.{pow_mono, pow_pos}
use Rattle.bits.specs.Bit.{bit, rank, marked, unmarked}
use Rattle.bits.proofs.Word.{bit-lt, bit-cases, bit-and, bit-mod, bit-mod-above, bit_not, ext}
use Rattle.bits.proofs.Refusals.{every-answer}
use Rattle.bits.proofs.Rank.{rank-le, rank_lt, rank_between, rank-not, select}
use Rattle.bits.proofs.Places.{bit-pick, bit-pick-above, pick-lt, length-all, unmarked-not, length_marked, marked-at, bit-put-marked}
use borrow.Author.Tests.{lt-ltb}
use Rattle.gather.specs.declared.Gathered.{Gathered}
use Rattle.gather.specs.Gather.{gather_of, scatter_of, group_of, refusal_of, answer_of}
use Rattle.gather.proofs.AnyWidth.{gather-count, gather-lt, scatter-lt}
use Rattle.gather.proofs.MaskAnswers.{carried-out, within, refusal-by}

module _ (w m x : ℕ) where
  -- Gather by rank: a marked bit comes to the place that counts the marked bits below it
  pub bit-gather : (p : ℕ) → p < w → bit m p ≡ 1 → bit (gather_of w m x) (rank m p) ≡ bit x p
  unfolding gather_of
  bit-gather p h b =
      let l : rank m p < length (marked m w) = omega (arith, length_marked m w, rank_lt m b h) in
      bit-pick x (marked m w) (rank m p) l ∙ ap (bit x) (marked-at m w p h b)

  pub bit-gather-above : (i : ℕ) → rank m w ≤ i → bit (gather_of w m x) i ≡ 0
  unfolding gather_of
  bit-gather-above i h = bit-pick-above x (marked m w) i (omega (arith, length_marked m w))

  -- Scatter by rank: a marked place takes the bit that counts the marked places below it
  pub bit-scatter : (p : ℕ) → p < w → bit (scatter_of w m x) p ≡ min (bit m p) (bit x (rank m p))
  unfolding scatter_of
  bit-scatter p h = bit-put-marked m w x p h

-- Group by rank: the marked bits as gather, an unmarked one above them to the place that counts the unmarked bits below it
module _ (w m x : ℕ) (h : m < 2 ^ w) where
  pub group-below : group_of w m x < 2 ^ w
  unfolding group_of
  group-below = rw (length-all m w) at (pick-lt x (marked m w ++ unmarked m w))

  module _ (p : ℕ) (l : p < w) where
    pub bit-group-marked : bit m p ≡ 1 → bit (group_of w m x) (rank m p) ≡ bit x p
    unfolding group_of
    bit-group-marked b =
        let r : rank m p < length (marked m w) = omega (arith, length_marked m w, rank_lt m b l) in
        bit-pick x (marked m w ++ unmarked m w) (rank m p) (omega (arith, length-all m w, rank-le m p))
        ∙ ap (bit x) (get_or-append (marked m w) (unmarked m w) 0 (rank m p) r ∙ marked-at m w p l b)

    unmarked-at : bit m p ≡ 0 → get_or (unmarked m w) (p - rank m p) 0 ≡ p
    unmarked-at b =
        let r : p - rank m p ≡ rank ((2 ^ w - 1) - m) p = omega (arith, rank-not w h p (omega arith)) in
        let c : bit ((2 ^ w - 1) - m) p ≡ 1 = omega (arith, bit_not w p h l) in
        rw (r, unmarked-not w h w (omega arith)) (marked-at ((2 ^ w - 1) - m) w p l c)

    pub bit-group-unmarked : bit m p ≡ 0 → bit (group_of w m x) (rank m w + (p - rank m p)) ≡ bit x p
    unfolding group_of
    bit-group-unmarked b =
        let k : rank m w + (p - rank m p) < w =
        omega (arith, b, rank-not w h p (omega arith), rank-not w h w (omega arith), bit_not w p h l, rank_lt ((2 ^ w - 1) - m) {p = p} {w = w} (omega (arith, bit_not w p h l)) l)
        in
        bit-pick x (marked m w ++ unmarked m w) (rank m w + (p - rank m p)) (omega (arith, length-all m w))
        ∙ ap (bit x)
        (ap (λ (n : ℕ). get_or (marked m w ++ unmarked m w) (n + (p - rank m p)) 0) (sym (length_marked m w))
        ∙ get_or-append-add (marked m w) (unmarked m w) (p - rank m p) 0
        ∙ unmarked-at b)

  -- "With k = 0 or k = w the word comes back."
  pub group-whole : x < 2 ^ w → (rank m w ≡ 0) ⊎ (rank m w ≡ w) → group_of w m x ≡ x
  group-whole hx k = ext w group-below hx λ p l. same p l k (rank_between m p w (omega arith)) (rank_lt m {p = p} {w = w}) (bit-cases m p)
    where
      same : (p : ℕ) → p < w → (rank m w ≡ 0) ⊎ (rank m w ≡ w) → (rank m p ≤ rank m w) × (rank m w ≤ rank m p + (w - p))
          → (bit m p ≡ 1 → p < w → rank m p < rank m w) → (bit m p ≡ 0) ⊎ (bit m p ≡ 1)
          → bit (group_of w m x) p ≡ bit x p
      same p l (inl e) r f (inl b) =
          let z : rank m w + (p - rank m p) ≡ p = omega arith in rw z at (bit-group-unmarked p l b)
      same p l (inl e) r f (inr b) = absurd (omega (arith, f b l))
      same p l (inr e) r f (inl b) = absurd (omega (arith, rank-not w h w (omega arith), rank_lt ((2 ^ w - 1) - m) {p = p} {w = w} (omega (arith, bit_not w p h l)) l))
      same p l (inr e) r f (inr b) =
          let z : rank m p ≡ p = omega (arith, rank-le m p) in rw z at (bit-group-marked p l b)

-- Scatter after gather gives the word with unmarked bits zero.
pub scatter-gather : (w m x : ℕ) → m < 2 ^ w → scatter_of w m (gather_of w m x) ≡ bit_and x m
scatter-gather w m x h =
    ext w (scatter-lt m (gather_of w m x) w) (omega (arith, and_le_r x m)) λ p l.
    bit-scatter w m (gather_of w m x) p l ∙ same p l (bit-cases m p) ∙ sym (bit-and x m p)
  where
    same : (p : ℕ) → p < w → (bit m p ≡ 0) ⊎ (bit m p ≡ 1)
        → min (bit m p) (bit (gather_of w m x) (rank m p)) ≡ min (bit x p) (bit m p)
    same p l (inl z) = omega arith
    same p l (inr o) = omega (arith, bit-gather w m x p l o)

-- Gather after scatter gives the rightmost bits, as many as the mask marks.
pub gather-scatter : (w m x : ℕ) → gather_of w m (scatter_of w m x) ≡ x % 2 ^ rank m w
gather-scatter w m x =
    ext w (gather-lt m (scatter_of w m x) w) (omega (arith, mod-lt x (pow_pos (rank m w)), pow_mono (rank-le m w))) λ i l.
    same i (dec_lt i (rank m w))
  where
    same : (i : ℕ) → Dec (i < rank m w) → bit (gather_of w m (scatter_of w m x)) i ≡ bit (x % 2 ^ rank m w) i
    same i (yes h) =
        let s = select m i w h in
        let e : bit (gather_of w m (scatter_of w m x)) i ≡ bit (scatter_of w m x) s.0 =
        rw s.3 at (bit-gather w m (scatter_of w m x) s.0 s.1 s.2)
        in
        let f : bit (scatter_of w m x) s.0 ≡ bit x i =
        bit-scatter w m x s.0 s.1 ∙ rw (s.2, s.3) (omega (arith, bit-lt x i))
        in
        e ∙ f ∙ sym (bit-mod x (rank m w) i h)
    same i (no n) =
        let h : rank m w ≤ i = omega arith in
        bit-gather-above w m (scatter_of w m x) i h ∙ sym (bit-mod-above x (rank m w) i h)

-- The same of the calls: on a call that is carried out, a second call with the same width and mask on the first one's word.

module _ (w m x : ℕ) (h : refusal_of w m x ≡ 0) where
  calls-then : (f g : ℕ → ℕ → ℕ → ℕ) → f w m x < 2 ^ w
      → answer_of g w m (answer_of f w m x).word ≡ record { refusal = 0; count = rank m w; word = g w m (f w m x) }
  calls-then f g l =
      let i = within w m x h in
      let z : refusal_of w m (f w m x) ≡ 0 = refusal-by w m (f w m x) i.0 (lt-ltb _ _ l) (lt-ltb _ _ i.2) in
      ap (λ (a : Gathered). answer_of g w m a.word) (sym (carried-out w m x f (sym h) refl refl))
      ∙ sym (carried-out w m (f w m x) g (sym z) refl refl)

  pub calls-scatter-gather : answer_of scatter_of w m (answer_of gather_of w m x).word ≡ record { refusal = 0; count = rank m w; word = bit_and x m }
  calls-scatter-gather = rw (calls-then gather_of scatter_of (gather-lt m x w), scatter-gather w m x (within w m x h).2)

  pub calls-gather-scatter : answer_of gather_of w m (answer_of scatter_of w m x).word ≡ record { refusal = 0; count = rank m w; word = x % 2 ^ rank m w }
  calls-gather-scatter = rw (calls-then scatter_of gather_of (scatter-lt m x w), gather-scatter w m x)

-- Req 01: the count of an answer.
module _ (w m x : ℕ) where
  of-answer : (f : ℕ → ℕ → ℕ → ℕ) (P : Gathered → Type 0) → ((n : ℕ) → (n ≡ 0 → ⊥) → P (record { refusal = n; count = 0; word = 0 }))
      → P (record { refusal = 0; count = rank m w; word = f w m x }) → P (answer_of f w m x)
  unfolding answer_of
  of-answer f P zeros done = every-answer P (refusal_of w m x) (λ n. record { refusal = n; count = 0; word = 0 }) _ (zeros (refusal_of w m x)) (λ z. done)

  module _ (f : ℕ → ℕ → ℕ → ℕ) where
    -- "how many lines a mask opens": the length of the list m0, m1, ..
    pub calls_count : (answer_of f w m x).refusal ≡ 0 → (answer_of f w m x).count ≡ length (marked m w)
    calls_count =
        of-answer f (λ (a : Gathered). a.refusal ≡ 0 → a.count ≡ length (marked m w)) (λ n z q. absurd (z q)) (λ q. sym (length_marked m w))

    -- "0 to w"
    pub calls-count-le : (answer_of f w m x).count ≤ w
    calls-count-le = of-answer f (λ (a : Gathered). a.count ≤ w) (λ n z. omega arith) (rank-le m w)

  pub calls-gather-count : (answer_of gather_of w m x).word < 2 ^ (answer_of gather_of w m x).count
  calls-gather-count = of-answer gather_of (λ (a : Gathered). a.word < 2 ^ a.count) (λ n z. omega arith) (gather-count m x w)
