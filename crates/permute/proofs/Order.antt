-- The order on controls as words is that on stages and switches of crate routing; so the first words are first. Assumes nothing.
use mathlib.Core.Path.{◌≡◌, refl, sym, ◌∙◌, ap, ap₂}
use mathlib.Core.Logic.{◌⊎◌, inl, inr}
use mathlib.Core.List.{List}
use Prim.Native.Nat.{ℕ, zero, suc, ◌+◌, ◌-◌, ◌/◌, ◌^◌, ◌<◌}
use native.Mathlib.Omega.{arith}
use native.Mathlib.Decide.{dec_lt}
use lib.ListN.{length, get_or}
use Rattle.routing.specs.Stages.{Stage, Butterfly, Inverse, exponent, Agree}
use Rattle.routing.specs.Stages as place
use Rattle.routing.specs.Lists.{Words, ListPermutes, control_in, butterfly_from, inverse_from, from_words, controls_of, first_words}
use Rattle.routing.proofs.Later.{position, stage_at, position-small, PositionAt, position-stage}
use Rattle.routing.proofs.StageWords.{words-cong, first-words}
use Rattle.permute.specs.First.{travelled, control, UsesBoth, Before, Later, First}
use Rattle.permute.proofs.Realised.{brings-realises, realises-brings}
use Rattle.permute.proofs.FirstWords.{travelled-butterfly, travelled-inverse, control-bit, words-used, words_back}

-- positions in the direction of travel

module _ (L : ℕ) (k : Words) (b : length k.butterfly ≡ L) where
  control-at : (c : Stage) (s : ℕ) → exponent c < L → from_words L k c s ≡ control_in (get_or (travelled k) (position L c) 0) s
  unfolding butterfly_from inverse_from
  control-at (Butterfly e) s h = ap (λ (x : ℕ). control_in x s) (sym (travelled-butterfly L k b (L - suc e) (omega arith)))
  control-at (Inverse e) s h = ap (λ (x : ℕ). control_in x s) (sym (travelled-inverse L k b e))

-- the order is the same
earlier : (L : ℕ) (c d : Stage) → exponent c < L → exponent d < L → position L c < position L d → place.Earlier c d
earlier L (Butterfly a) (Butterfly b) h l n = omega arith
earlier L (Butterfly a) (Inverse b) h l n = tt
earlier L (Inverse a) (Butterfly b) h l n = absurd (omega arith)
earlier L (Inverse a) (Inverse b) h l n = omega arith

position-one : (L : ℕ) (c d : Stage) → exponent c < L → exponent d < L → position L c ≡ position L d → c ≡ d
position-one L (Butterfly a) (Butterfly b) h l n = let e : a ≡ b = omega arith in ap Butterfly e
position-one L (Butterfly a) (Inverse b) h l n = absurd (omega arith)
position-one L (Inverse a) (Butterfly b) h l n = absurd (omega arith)
position-one L (Inverse a) (Inverse b) h l n = let e : a ≡ b = omega arith in ap Inverse e

switch-lt : (L s : ℕ) {e : ℕ} → e < L → s + s < 2 ^ L → s < 2 ^ L / 2
switch-lt zero s h l = absurd (omega arith)
switch-lt (suc L) s h l = omega arith

module _ (L : ℕ) (k l : Words) (u : UsesBoth L k) (v : UsesBoth L l) where
  pub later : place.ComesLater L (from_words L k) (from_words L l) → Later L k l
  later r =
      let c = r.at_stage in
      let h = r.inside.at_stage in
      record {
        stage = position L c;
        switch = r.switch;
        in_stages = position-small L c h;
        in_switches = switch-lt L r.switch h r.inside.switch;
        before = λ i s hi hs q. agrees i s hi hs q;
        passes = control-bit (get_or (travelled k) (position L c) 0) r.switch (sym (control-at L k u.0.0 c r.switch h) ∙ r.passes);
        swaps = control-bit (get_or (travelled l) (position L c) 0) r.switch (sym (control-at L l v.0.0 c r.switch h) ∙ r.swaps);
      }
    where
      before : (i s : ℕ) {c : Stage} → PositionAt L i c → Before i s (position L r.at_stage) r.switch → place.SwitchBefore c s r.at_stage r.switch
      before i s {c} d (inl q) = inl (earlier L c r.at_stage d.inside r.inside.at_stage (omega (arith, d.is)))
      before i s {c} d (inr q) = inr (position-one L c r.at_stage d.inside r.inside.at_stage (d.is ∙ q.0), q.1)

      agrees : (i s : ℕ) → i < L + L → s < 2 ^ L / 2 → Before i s (position L r.at_stage) r.switch → control k i s ≡ control l i s
      agrees i s hi hs q =
          let c = stage_at L i in
          let d = position-stage L i hi in
          let e = r.before c s (record { at_stage = d.inside; switch = omega arith }) (before i s d q) in
          rw d.is at
          (control-bit (get_or (travelled k) (position L c) 0) s
          (sym (control-at L k u.0.0 c s d.inside) ∙ e ∙ control-at L l v.0.0 c s d.inside)
          ∙ sym (control-bit (get_or (travelled l) (position L c) 0) s refl))

-- Demand 3's second sentence, over every exponent: a permutation gets the first controls.
pub first-controls : (L : ℕ) (entries : List ℕ) → ListPermutes (2 ^ L) entries → First L (first_words L entries) entries
unfolding first_words
first-controls L entries p =
    let k = first_words L entries in
    let f = first-words L entries p in
    record {
      controls = u;
      realises = brings-realises L k u.0.0 u.1.0 entries p.long f.brings;
      others = λ l v r. by l v (f.others (from_words L l) (realises-brings L l v.0.0 v.1.0 entries p.long p.small r));
    }
  where
    u : UsesBoth L (first_words L entries)
    u = words-used L (controls_of L entries)

    by : (l : Words) → UsesBoth L l
        → Agree L (from_words L (first_words L entries)) (from_words L l) ⊎ place.ComesLater L (from_words L (first_words L entries)) (from_words L l)
        → (l ≡ first_words L entries) ⊎ Later L (first_words L entries) l
    by l v (inl a) =
        inl (sym (words_back L l v) ∙ sym (words-cong L (from_words L (first_words L entries)) (from_words L l) a) ∙ words_back L (first_words L entries) u)
    by l v (inr a) = inr (later L (first_words L entries) l u v a)

-- and by exactly one set

before-total : (i s j t : ℕ) → (Before i s j t) ⊎ (Before j t i s) ⊎ ((i ≡ j) × (s ≡ t))
before-total i s j t = by (dec_lt i j) (dec_lt j i) (dec_lt s t) (dec_lt t s)
  where
    by : Dec (i < j) → Dec (j < i) → Dec (s < t) → Dec (t < s) → (Before i s j t) ⊎ (Before j t i s) ⊎ ((i ≡ j) × (s ≡ t))
    by (yes h) b c d = inl (inl h)
    by (no n) (yes h) c d = inr (inl (inl h))
    by (no n) (no m) (yes h) d = inl (inr (omega arith, h))
    by (no n) (no m) (no h) (yes g) = inr (inl (inr (omega arith, g)))
    by (no n) (no m) (no h) (no g) = inr (inr (omega arith, omega arith))

later-not : (L : ℕ) (k l : Words) → Later L k l → Later L l k → ⊥
later-not L k l a b = by (before-total a.stage a.switch b.stage b.switch)
  where
    by : (Before a.stage a.switch b.stage b.switch) ⊎ (Before b.stage b.switch a.stage a.switch)
        ⊎ ((a.stage ≡ b.stage) × (a.switch ≡ b.switch)) → ⊥
    by (inl q) = omega (arith, b.before a.stage a.switch a.in_stages a.in_switches q, a.passes, a.swaps)
    by (inr (inl q)) = omega (arith, a.before b.stage b.switch b.in_stages b.in_switches q, b.passes, b.swaps)
    by (inr (inr q)) = omega (arith, ap₂ (control k) q.0 q.1, a.passes, b.swaps)

pub first-only : (L : ℕ) (k l : Words) (entries : List ℕ) → First L k entries → First L l entries → k ≡ l
first-only L k l entries f g = by (f.others l g.controls g.realises) (g.others k f.controls f.realises)
  where
    by : (l ≡ k) ⊎ Later L k l → (k ≡ l) ⊎ Later L l k → k ≡ l
    by (inl e) b = sym e
    by (inr a) (inl e) = e
    by (inr a) (inr b) = absurd (later-not L k l a b)
