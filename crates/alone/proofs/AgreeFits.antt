-- One network alone: routes agree exactly if the permutation fits, and then their stages are those of its definition.
-- Assumes nothing.
use mathlib.Core.Path.{◌≡◌, refl, sym, ap, ap₂, ◌∙◌}
use mathlib.Core.Bool.{Bool, true, false, cond, ◌&&◌, false≢true}
use mathlib.Core.List.{List}
use Rattle.std.proofs.Common.{Option, Some, None}
use Prim.Native.Nat.{ℕ, ◌+◌, ◌/◌, ◌^◌, ◌≤◌, ◌<◌}
use native.Mathlib.Numerals.{add-one}
use native.Mathlib.Omega.{arith}
use lib.Bits.{bit_and}
use lib.Dec.{eqb}
use lib.ListN.{length, take}
use Rattle.std.proofs.lemmas.List.{length-take-le, get_or-take}
use lib.Pow.{pow_mono}
use borrow.Author.Tests.{eq-eqb}
use Rattle.network.specs.Calls.{six}
use Rattle.routing.specs.Alone.{every_below}
use Rattle.routing.specs.Stages.{butterfly, inverse}
use Rattle.routing.specs.Lists.{entry, ListPermutes, butterfly_from, inverse_from, butterfly_alone, inverse_alone}
use Rattle.routing.proofs.Through.{butterfly-inverse, inverse-butterfly}
use Rattle.routing.proofs.Alone.{tested-equal, equal-tested}
use Rattle.routing.proofs.AloneWords.{butterfly-brings, inverse-brings, butterfly-only, inverse-only}
use Rattle.alone.specs.Asked.{unasked, asked_word, Within, Every, stage_at, both, agree, stage_words}
use Rattle.alone.specs.Calls.{fits_alone, alone, Answers}
use Rattle.alone.proofs.Asking.{Routed, Free, asked-only, routed-free, free-routed}
use Rattle.alone.proofs.AskedWords.{apart_words, words-apart}
use Rattle.alone.proofs.OneRoute.{crossed-lt}

stage-lt : (rising : Bool) (n i : ℕ) → i < n → stage_at rising n i < n
stage-lt true n i l = l
stage-lt false n i l = omega arith

stage-back : (rising : Bool) (n e : ℕ) → e < n → stage_at rising n (stage_at rising n e) ≡ e
stage-back true n e l = refl
stage-back false n e l = omega arith

-- the code's test of the stages
module _ (rising : Bool) (n : ℕ) (places sources : List ℕ) where
  -- the answer by the tests made, at a stage of what the routes ask
  module _
      (i : ℕ)
      {e x y : ℕ}
      (q : e ≡ stage_at rising n i)
      (f : x ≡ asked_word true n places sources e)
      (g : y ≡ asked_word false n places sources e)
    where
      met : bit_and x y ≡ both rising n places sources i
      met = rw (f, g, q)

      pub met-turn :
          every_below i (λ j. eqb (both rising n places sources j) 0) ≡ true
          → bit_and x y ≡ 0
          → every_below (i + 1) (λ j. eqb (both rising n places sources j) 0) ≡ true
      unfolding every_below
      met-turn t z = rw add-one (ap₂ ◌&&◌ (eq-eqb (both rising n places sources i) 0 (sym met ∙ z)) t)

      pub met-none :
          (stages : List ℕ)
          → i < n
          → (bit_and x y ≡ 0 → ⊥)
          → Answers (agree rising n places sources) stages None
      unfolding agree
      met-none stages l z = go (agree rising n places sources) refl
        where
          go :
              (b : Bool)
              → agree rising n places sources ≡ b
              → Answers b stages None
          go true t = absurd (z (met ∙ tested-equal n (both rising n places sources) (λ j. 0) t i l))
          go false t = refl

  pub met_all :
      {i : ℕ} {out : List ℕ} (stages : List ℕ)
      → i ≡ n
      → every_below i (λ j. eqb (both rising n places sources j) 0) ≡ true
      → out ≡ six stages
      → Answers (agree rising n places sources) stages (Some out)
  unfolding agree
  met_all stages q t f =
      let a : agree rising n places sources ≡ true =
      ap (λ (k : ℕ). every_below k (λ j. eqb (both rising n places sources j) 0)) (sym q) ∙ t
      in
      rw a (ap Some f)

  agree-free : Within (2 ^ n) places → agree rising n places sources ≡ true → (e : ℕ) → e < n → Free places sources (2 ^ n) e
  unfolding agree
  agree-free is t e l s u v =
      let i = stage_at rising n e in
      let small : s < 2 ^ n / 2 = asked-only true places sources e (λ s. s < 2 ^ n / 2) (2 ^ n)
      (λ p m q. crossed-lt n e (entry places p) (entry sources p) l (is.small p m)) s u
      in
      let apart = tested-equal n (both rising n places sources) (λ i. 0) t i (stage-lt rising n e l) in
      let back = stage-back rising n e l in
      words-apart (2 ^ n / 2) (unasked true places sources (2 ^ n) (stage_at rising n i)) (unasked false places sources (2 ^ n) (stage_at rising n i))
      apart s small
      (ap (λ (d : ℕ). unasked true places sources (2 ^ n) d s) back ∙ u)
      (ap (λ (d : ℕ). unasked false places sources (2 ^ n) d s) back ∙ v)

  free-agree : ((e : ℕ) → e < n → Free places sources (2 ^ n) e) → agree rising n places sources ≡ true
  unfolding agree
  free-agree free =
      equal-tested n (both rising n places sources) (λ i. 0)
      (λ i l.
      let e = stage_at rising n i in
      apart_words (2 ^ n / 2) (unasked true places sources (2 ^ n) e) (unasked false places sources (2 ^ n) e)
      (λ s m. free e (stage-lt rising n i l) s))

-- Route p of a permutation: entry p comes to place p. The inverse (rising) undoes the butterfly of the same controls, so there bit p comes
-- to the place that entry p names.
abbrev Linked : Bool → ℕ → List ℕ → List ℕ → List ℕ → Type 0
Linked rising n entries places sources =
    (p : ℕ) → p < 2 ^ n → (entry places p ≡ cond rising (entry entries p) p) × (entry sources p ≡ cond rising p (entry entries p))

module _
    (rising : Bool)
    (n : ℕ)
    (entries places sources : List ℕ)
    (is : ListPermutes (2 ^ n) entries)
    (linked : Linked rising n entries places sources)
  where
    -- controls that lead each bit along its route are those of the definition
    routed-only :
        (c : ℕ → ℕ → Bool)
        → Routed places sources (2 ^ n) n c
        → (fits_alone rising n entries ≡ true) × (stage_words rising n c ≡ alone rising n entries)
    unfolding stage_words
    routed-only c routed = go rising linked
      where
        go :
            (b : Bool)
            → Linked b n entries places sources
            → (fits_alone b n entries ≡ true) × (stage_words b n c ≡ alone b n entries)
        go true k =
            inverse-only n entries is c
            (λ p l.
            ap (inverse n c) (sym (k p l).1 ∙ sym (routed p l) ∙ ap (butterfly n c) (k p l).0)
            ∙ inverse-butterfly n c (entry entries p))
        go false k =
            butterfly-only n entries is c (λ p l. ap (butterfly n c) (sym (k p l).0) ∙ routed p l ∙ (k p l).1)

    -- and the definition has such controls if the permutation fits
    abbrev defined : Bool → ℕ → ℕ → Bool
    defined b = cond b (inverse_from (inverse_alone n entries)) (butterfly_from n (butterfly_alone n entries))

    fits-routed : fits_alone rising n entries ≡ true → Routed places sources (2 ^ n) n (defined rising)
    fits-routed = go rising linked
      where
        go :
            (b : Bool)
            → Linked b n entries places sources
            → fits_alone b n entries ≡ true
            → Routed places sources (2 ^ n) n (defined b)
        go true k e p l =
            ap (butterfly n (defined true)) ((k p l).0 ∙ sym (inverse-brings n entries is e p l))
            ∙ butterfly-inverse n (defined true) p
            ∙ sym (k p l).1
        go false k e p l =
            ap (butterfly n (defined false)) (k p l).0 ∙ butterfly-brings n entries is e p l ∙ sym (k p l).1

    answer :
        {r : Option (List ℕ)}
        → Within (2 ^ n) places
        → Within (2 ^ n) sources
        → Answers (agree rising n places sources) (stage_words rising n (unasked true places sources (2 ^ n))) r
        → Answers (fits_alone rising n entries) (alone rising n entries) r
    answer {r} u v f = go (agree rising n places sources) refl f
      where
        none : fits_alone rising n entries ≡ true → agree rising n places sources ≡ true
        none e =
            free-agree rising n places sources
            (routed-free places sources (2 ^ n) n (defined rising) (fits-routed e))

        turned-back : (d : Bool) → fits_alone rising n entries ≡ d → agree rising n places sources ≡ false → d ≡ false
        turned-back true e t = absurd (false≢true (sym t ∙ none e))
        turned-back false e t = refl

        go :
            (b : Bool)
            → agree rising n places sources ≡ b
            → Answers b (stage_words rising n (unasked true places sources (2 ^ n))) r
            → Answers (fits_alone rising n entries) (alone rising n entries) r
        go true t f =
            let s = routed-only (unasked true places sources (2 ^ n))
            (free-routed places sources n u v (agree-free rising n places sources u t))
            in
            rw (s.0, ← s.1) f
        go false t f = rw (turned-back (fits_alone rising n entries) refl t) f

module _ (n : ℕ) (h : n ≤ 6) (entries every : List ℕ) (is : ListPermutes (2 ^ n) entries) (all : Every every) where
  -- the places of the width
  abbrev pub named : List ℕ
  named = take (length entries) every

  pub named-long : length entries ≤ length every
  named-long = omega (arith, is.long, pow_mono h, all.0)

  pub named-entries : length entries ≡ length named
  named-entries = sym (length-take-le (length entries) every named-long)

  named-width : length named ≡ 2 ^ n
  named-width = sym named-entries ∙ is.long

  at_place : (p : ℕ) → p < 2 ^ n → entry named p ≡ p
  at_place p l = get_or-take (length entries) every p 0 (omega (arith, is.long)) ∙ all.1 p (omega (arith, pow_mono h))

  named-within : Within (2 ^ n) named
  named-within = record { long = omega (arith, named-width); small = λ p l. omega (arith, at_place p l) }

  entries-within : Within (2 ^ n) entries
  entries-within = record { long = omega (arith, is.long); small = is.small }

  -- the entries are the places of the inverse (rising), and the sources of the butterfly
  abbrev places : Bool → List ℕ
  places rising = cond rising entries named

  abbrev sources : Bool → List ℕ
  sources rising = cond rising named entries

  linked : (rising : Bool) → Linked rising n entries (places rising) (sources rising)
  linked true p l = (refl, at_place p l)
  linked false p l = (at_place p l, refl)

  pub lists-fit : (rising : Bool) → (length (places rising) ≡ 2 ^ n) × Within (2 ^ n) (places rising) × Within (2 ^ n) (sources rising)
  lists-fit true = (is.long, entries-within, named-within)
  lists-fit false = (named-width, named-within, entries-within)

  pub answer-of :
      {rising : Bool} {r : Option (List ℕ)} (b : Bool)
      → rising ≡ b
      → Answers (agree rising n (places b) (sources b)) (stage_words rising n (unasked true (places b) (sources b) (2 ^ n))) r
      → Answers (fits_alone rising n entries) (alone rising n entries) r
  answer-of b q f =
      let w = lists-fit b in
      rw q (answer b n entries (places b) (sources b) is (linked b) w.1 w.2 (rw q at f))
