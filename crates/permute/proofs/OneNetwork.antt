-- One network alone, on words: its controls for a permutation, or that there are none. Assumes nothing.
use mathlib.Core.Path.{◌≡◌, sym, ◌∙◌}
use mathlib.Core.Bool.{Bool, true}
use mathlib.Core.List.{List}
use Prim.Native.Nat.{ℕ, ◌^◌, ◌<◌}
use lib.ListN.{length}
use Rattle.bits.specs.Bit.{bit}
use Rattle.network.specs.Stage.{butterfly_of, inverse_of}
use Rattle.network.specs.Calls.{Uses}
use Rattle.network.proofs.MaskRouting.{butterfly-lt, inverse-lt}
use Rattle.routing.specs.Stages as place
use Rattle.routing.specs.Alone.{butterfly_controls, inverse_controls}
use Rattle.routing.specs.Lists.{ListPermutes, entry, find, butterfly_from, inverse_from, butterfly_fits, inverse_fits, butterfly_alone, inverse_alone}
use Rattle.routing.proofs.AloneWords.{butterfly-brings, inverse-brings, butterfly-only, inverse-only}
use Rattle.permute.specs.Calls.{DecidesAlone}
use Rattle.permute.proofs.FirstWords.{butterfly-used, inverse-used, butterfly-back, inverse-back}
use Rattle.permute.proofs.Realised.{butterfly-bit, inverse-bit, words-permuted, places-permuted}

-- Of network f, where the controls cs bring to place p the bit of place `from L cs p`.
module _ (f : ℕ → List ℕ → ℕ → ℕ) (fits : ℕ → List ℕ → Bool) (alone : ℕ → List ℕ → List ℕ) (from : ℕ → List ℕ → ℕ → ℕ)
    (moves : (L : ℕ) (cs : List ℕ) → length cs ≡ L → (x p : ℕ) → x < 2 ^ 2 ^ L → p < 2 ^ L → bit (f L cs x) p ≡ bit x (from L cs p))
    (keeps : (L : ℕ) (cs : List ℕ) (x : ℕ) → x < 2 ^ 2 ^ L → f L cs x < 2 ^ 2 ^ L)
    (used : (L : ℕ) (es : List ℕ) → Uses L (alone L es))
    (brings : (L : ℕ) (es : List ℕ) → ListPermutes (2 ^ L) es → fits L es ≡ true → (p : ℕ) → p < 2 ^ L → from L (alone L es) p ≡ entry es p)
    (only : (L : ℕ) (es : List ℕ) → ListPermutes (2 ^ L) es → (cs : List ℕ) → Uses L cs → ((p : ℕ) → p < 2 ^ L → from L cs p ≡ entry es p)
    → (fits L es ≡ true) × (cs ≡ alone L es))
  where
    decides-alone : DecidesAlone f fits alone
    decides-alone =
        record {
          found = λ L es p e.
              let cs = alone L es in
              let u = used L es in (
                u,
                words-permuted L es p.long (f L cs) (from L cs) (moves L cs u.0) (keeps L cs) (brings L es p e),
              );
          exactly = λ L es p cs c.
              only L es p cs c.0 (places-permuted L es p.long (f L cs) (from L cs) (moves L cs c.0.0) (keeps L cs) p.small c.1);
        }

pub butterfly-alone : DecidesAlone butterfly_of butterfly_fits butterfly_alone
unfolding butterfly_alone
butterfly-alone =
    decides-alone butterfly_of butterfly_fits butterfly_alone (λ L cs. place.butterfly L (butterfly_from L cs)) butterfly-bit (λ L cs x h. butterfly-lt L cs h)
    (λ L es. butterfly-used L (butterfly_controls L (entry es) (λ x. find x es))) butterfly-brings
    (λ L es p cs u b. let o = butterfly-only L es p (butterfly_from L cs) b in (o.0, sym (butterfly-back L cs u) ∙ o.1))

pub inverse-alone : DecidesAlone inverse_of inverse_fits inverse_alone
unfolding inverse_alone
inverse-alone =
    decides-alone inverse_of inverse_fits inverse_alone (λ L cs. place.inverse L (inverse_from cs)) inverse-bit (λ L cs x h. inverse-lt L cs h)
    (λ L es. inverse-used L (inverse_controls L (entry es) (λ x. find x es))) inverse-brings
    (λ L es p cs u b. let o = inverse-only L es p (inverse_from cs) b in (o.0, sym (inverse-back L cs u) ∙ o.1))
