-- One network alone, for permutations as lists and stages as words: its test passes exactly if some stages realise the permutation,
-- and then these are the only ones.
-- Assumes nothing.
use mathlib.Core.Path.{◌≡◌, sym, ◌∙◌}
use mathlib.Core.Bool.{Bool, true}
use mathlib.Core.List.{List}
use Prim.Native.Nat.{ℕ, ◌/◌, ◌^◌, ◌<◌}
use lib.Dec.{eqb}
use Rattle.routing.specs.Stages.{butterfly, inverse, Same}
use Rattle.routing.specs.FirstControls.{Permutes}
use Rattle.routing.specs.Alone.{ButterflyBrings, InverseBrings, butterfly_controls, inverse_controls, every_below, butterfly_test, inverse_test}
use Rattle.routing.specs.Lists.{find, entry, ListPermutes, butterfly_words, inverse_words, butterfly_from, inverse_from, butterfly_fits, inverse_fits, butterfly_alone, inverse_alone}
use Rattle.routing.proofs.Flat.{butterfly-cong, inverse-cong}
use Rattle.routing.proofs.Alone.{butterfly-forced, inverse-forced, tested-equal, equal-tested}
use Rattle.routing.proofs.ListControls.{list-permutes}
use Rattle.routing.proofs.StageWords.{butterfly-words, inverse-words, butterfly-words-cong, inverse-words-cong}

-- a network that moves bits, and the controls d that alone can bring π through it
module _
    (n : ℕ)
    (π : ℕ → ℕ)
    (d : ℕ → ℕ → Bool)
    (move : (ℕ → ℕ → Bool) → ℕ → ℕ)
    (cong : (b c : ℕ → ℕ → Bool) → Same n b c → (p : ℕ) → p < 2 ^ n → move b p ≡ move c p)
    (c : ℕ → ℕ → Bool)
  where
    abbrev passed : Type 0
    passed = every_below (2 ^ n) (λ p. eqb (move d p) (π p)) ≡ true

    abbrev brought : Type 0
    brought = (p : ℕ) → p < 2 ^ n → move c p ≡ π p

    test-brings : Same n d c → passed → brought
    test-brings same e p l = sym (cong d c same p l) ∙ tested-equal (2 ^ n) (move d) π e p l

    brings-test : Same n c d → brought → passed
    brings-test same brings = equal-tested (2 ^ n) (move d) π (λ p l. sym (cong c d same p l) ∙ brings p l)

module _ (n : ℕ) (entries : List ℕ) (is : ListPermutes (2 ^ n) entries) where
  abbrev π : ℕ → ℕ
  π = entry entries

  abbrev ρ : ℕ → ℕ
  ρ x = find x entries

  perm : Permutes (2 ^ n) π ρ
  perm = list-permutes (2 ^ n) entries is

  -- the test passed: its stages bring the permutation
  pub butterfly-brings : butterfly_fits n entries ≡ true → ButterflyBrings n (butterfly_from n (butterfly_alone n entries)) π
  unfolding butterfly_fits butterfly_test butterfly_alone
  butterfly-brings =
      let d = butterfly_controls n π ρ in
      test-brings n π d (butterfly n) (butterfly-cong n) (butterfly_from n (butterfly_words (2 ^ n / 2) n d)) (butterfly-words n d)

  pub inverse-brings : inverse_fits n entries ≡ true → InverseBrings n (inverse_from (inverse_alone n entries)) π
  unfolding inverse_fits inverse_test inverse_alone
  inverse-brings =
      let d = inverse_controls n π ρ in
      test-brings n π d (inverse n) (inverse-cong n) (inverse_from (inverse_words (2 ^ n / 2) 0 n d)) (inverse-words n d)

  -- stages that bring the permutation: the test passes, and they are its stages
  module _ (c : ℕ → ℕ → Bool) where
    pub butterfly-only :
        ButterflyBrings n c π → (butterfly_fits n entries ≡ true) × (butterfly_words (2 ^ n / 2) n c ≡ butterfly_alone n entries)
    unfolding butterfly_fits butterfly_test butterfly_alone
    butterfly-only brings =
        let d = butterfly_controls n π ρ in
        let same = butterfly-forced n π ρ perm c brings in
        (brings-test n π d (butterfly n) (butterfly-cong n) c same brings, butterfly-words-cong n c d same)

    pub inverse-only :
        InverseBrings n c π → (inverse_fits n entries ≡ true) × (inverse_words (2 ^ n / 2) 0 n c ≡ inverse_alone n entries)
    unfolding inverse_fits inverse_test inverse_alone
    inverse-only brings =
        let d = inverse_controls n π ρ in
        let same = inverse-forced n π ρ perm c brings in
        (brings-test n π d (inverse n) (inverse-cong n) c same brings, inverse-words-cong n c d same)
