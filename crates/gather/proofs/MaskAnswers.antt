-- What the calls' answers come to, by the tests that the code makes. Assumes nothing.
use mathlib.Core.Path.{◌≡◌, refl, sym, ◌∙◌, ap}
use mathlib.Core.Bool.{Bool, true, not, ◌||◌}
use mathlib.Core.List.{[], ◌∷◌}
use Prim.Native.Nat.{ℕ, ◌^◌, ◌<◌, ◌≤◌}
use native.Mathlib.Omega.{arith}
use native.Mathlib.Decide.{ℕ_discrete}
use borrow.Author.Tests.{eq-eqb, ne_eqb, ltb-true, not-false}
use Rattle.bits.specs.Bit.{rank}
use Rattle.bits.specs.Refusal.{accepted, fits, lowest, AnswersLowest}
use Rattle.bits.proofs.Refusals.{width-le, answers-lowest, none-applies, neither}
use Rattle.bits.proofs.Rank.{rank-wider}
use Rattle.gather.specs.declared.Gathered.{Gathered}
use Rattle.gather.specs.declared.Marked.{Marked}
use Rattle.gather.specs.Gather.{conditions_of, refusal_of, answer_of}

module _ (w m x : ℕ) where
  -- the refusal, from the outcomes of the three tests: an accepted width, a word and a mask within it
  pub refusal-by : {a f g : Bool} → accepted w ≡ a → fits w x ≡ f → fits w m ≡ g → refusal_of w m x ≡ lowest ((1, not a) ∷ (2, not f || not g) ∷ [])
  unfolding refusal_of
  refusal-by p q r = λ i. lowest ((1, not (p i)) ∷ (2, not (q i) || not (r i)) ∷ [])

  -- a call that is carried out is within the limits
  pub within : refusal_of w m x ≡ 0 → (accepted w ≡ true) × (x < 2 ^ w) × (m < 2 ^ w)
  unfolding refusal_of
  within e =
      let n = none-applies (conditions_of w m x) (omega arith) e in
      let o = neither (not (fits w x)) (not (fits w m)) n.1.0 in
      (not-false _ n.0, ltb-true x (2 ^ w) (not-false _ o.0), ltb-true m (2 ^ w) (not-false _ o.1))

  -- demand 1, of gather, scatter and group
  pub gather-lowest : (f : ℕ → ℕ → ℕ → ℕ)
      → AnswersLowest (conditions_of w m x) (λ a. a.refusal) (λ n. record { refusal = n; count = 0; word = 0 }) (answer_of f w m x)
  unfolding answer_of refusal_of
  gather-lowest f =
      answers-lowest (conditions_of w m x) (omega arith) (λ (a : Gathered). a.refusal) (λ n. record { refusal = n; count = 0; word = 0 })
      (record { refusal = 0; count = rank m w; word = f w m x }) refl (λ n. refl)

  module _ (f : ℕ → ℕ → ℕ → ℕ) {n : ℕ} (e : n ≡ refusal_of w m x) where
    pub answer-refused : (n ≡ 0 → ⊥) → ◌≡◌ {A = Gathered} (record { refusal = n; count = 0; word = 0 }) (answer_of f w m x)
    unfolding answer_of
    answer-refused z = rw (← e, ne_eqb n 0 z)

    pub carried-out : n ≡ 0 → {y : ℕ} → y ≡ f w m x → ◌≡◌ {A = Gathered} (record { refusal = 0; count = rank m w; word = y }) (answer_of f w m x)
    unfolding answer_of
    carried-out z y = rw (← e, eq-eqb n 0 z, y)

    -- the code computes at width 64
    pub answer-64 : n ≡ 0 → (w ≤ 64 → m < 2 ^ w → x < 2 ^ w → f 64 m x ≡ f w m x) → {y : ℕ} → y ≡ f 64 m x
        → {r : Gathered} → r ≡ record { refusal = 0; count = rank m 64; word = y } → r ≡ answer_of f w m x
    answer-64 z same {y} g b =
        let l = within (sym e ∙ z) in
        let v = width-le w l.0 in
        b
        ∙ ap (λ (k : ℕ). record { refusal = 0; count = k; word = y }) (rank-wider l.2 v)
        ∙ carried-out z (g ∙ same v l.2 l.1)

  -- the same by the promises of what answers the three calls, from a mask with what it says
  pub answer-by : (f : ℕ → ℕ → ℕ → ℕ) → (w ≤ 64 → m < 2 ^ w → x < 2 ^ w → f 64 m x ≡ f w m x) → {r : Gathered}
      → ((refusal_of w m x ≡ 0 → ⊥) → r ≡ record { refusal = refusal_of w m x; count = 0; word = 0 })
      → (refusal_of w m x ≡ 0 → (r.refusal ≡ 0) × (r.count ≡ rank m 64) × ((k : Marked) × (k.mask ≡ m) × (Marked × (r.word ≡ f 64 k.mask x))))
      → r ≡ answer_of f w m x
  answer-by f same {r} refused carried = by_cases (ℕ_discrete (refusal_of w m x) 0)
    where
      by_cases : Dec (refusal_of w m x ≡ 0) → r ≡ answer_of f w m x
      by_cases (yes z) =
          let c = carried z in
          answer-64 f refl z same (c.2.2.1 ∙ ap (λ (k : ℕ). f 64 k x) c.2.1) (λ i. record { refusal = c.0 i; count = c.1 i; word = r.word })
      by_cases (no z) = refused z ∙ answer-refused f refl z
