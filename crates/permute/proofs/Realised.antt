-- What controls do to every word, and the places that they bring bits from. Assumes nothing.
use mathlib.Core.Path.{◌≡◌, sym, ◌∙◌, ap}
use mathlib.Core.List.{List}
use Prim.Native.Nat.{ℕ, ◌^◌, ◌<◌}
use native.Mathlib.Omega.{arith}
use lib.ListN.{length}
use lib.Pow.{pow-lt}
use Rattle.bits.specs.Bit.{bit, pick}
use Rattle.bits.proofs.Word.{bit-pow-own, bit-pow-only, ext}
use Rattle.bits.proofs.Places.{bit-pick, pick-lt}
use Rattle.network.specs.Stage.{falling, rising, butterfly_of, inverse_of}
use Rattle.network.proofs.Travel.{origin-below, bit-travel, falling-fit, rising-fit}
use Rattle.network.proofs.MaskRouting.{butterfly-lt, inverse-lt}
use Rattle.routing.specs.Stages as place
use Rattle.routing.specs.FirstControls.{Brings}
use Rattle.routing.specs.Lists.{Words, entry, butterfly_from, inverse_from, from_words}
use Rattle.permute.specs.Permutation.{Realises}
use Rattle.permute.specs.Alike.{through_both}
use Rattle.permute.proofs.Sources.{butterfly-from, inverse-from}

-- If the bit of every place p comes from place f p, then every word comes out permuted exactly if f is the permutation.
module _ (L : ℕ) (entries : List ℕ) (long : length entries ≡ 2 ^ L) (F : ℕ → ℕ) (f : ℕ → ℕ)
    (moves : (x p : ℕ) → x < 2 ^ 2 ^ L → p < 2 ^ L → bit (F x) p ≡ bit x (f p)) (keeps : (x : ℕ) → x < 2 ^ 2 ^ L → F x < 2 ^ 2 ^ L)
  where
    pub words-permuted : ((p : ℕ) → p < 2 ^ L → f p ≡ entry entries p) → (x : ℕ) → x < 2 ^ 2 ^ L → F x ≡ pick entries x
    words-permuted g x h =
        ext (2 ^ L) (keeps x h) (rw long at (pick-lt x entries))
        (λ p l. moves x p h l ∙ ap (bit x) (g p l) ∙ sym (bit-pick x entries p (omega arith)))

    pub places-permuted : ((p : ℕ) → p < 2 ^ L → entry entries p < 2 ^ L) → ((x : ℕ) → x < 2 ^ 2 ^ L → F x ≡ pick entries x)
        → (p : ℕ) → p < 2 ^ L → f p ≡ entry entries p
    places-permuted small g p l =
        let j = entry entries p in
        let h : 2 ^ j < 2 ^ 2 ^ L = pow-lt (small p l) in
        bit-pow-only j (f p)
        (sym (moves (2 ^ j) p h l) ∙ ap (λ (y : ℕ). bit y p) (g (2 ^ j) h) ∙ bit-pick (2 ^ j) entries p (omega arith) ∙ bit-pow-own j)

-- each network, and both

module _ (L : ℕ) (cs : List ℕ) (long : length cs ≡ L) (x p : ℕ) (h : x < 2 ^ 2 ^ L) (l : p < 2 ^ L) where
  pub butterfly-bit : bit (butterfly_of L cs x) p ≡ bit x (place.butterfly L (butterfly_from L cs) p)
  unfolding butterfly_of
  butterfly-bit = bit-travel (2 ^ L) (falling L) cs (falling-fit L (omega arith)) x p l ∙ ap (bit x) (sym (butterfly-from L cs long p))

  pub inverse-bit : bit (inverse_of L cs x) p ≡ bit x (place.inverse L (inverse_from cs) p)
  unfolding inverse_of
  inverse-bit = bit-travel (2 ^ L) (rising L) cs (rising-fit L (omega arith)) x p l ∙ ap (bit x) (sym (inverse-from L cs long p))

module _ (L : ℕ) (k : Words) (b : length k.butterfly ≡ L) (i : length k.inverse ≡ L) where
  through-bit : (x p : ℕ) → x < 2 ^ 2 ^ L → p < 2 ^ L → bit (through_both L k x) p ≡ bit x (place.network L (from_words L k) p)
  unfolding place.network
  through-bit x p h l =
      let q = place.inverse L (inverse_from k.inverse) p in
      let o = origin-below (2 ^ L) (rising L) k.inverse (rising-fit L (omega arith)) p l in
      inverse-bit L k.inverse i (butterfly_of L k.butterfly x) p (butterfly-lt L k.butterfly h) l
      ∙ butterfly-bit L k.butterfly b x q h (omega (arith, o, inverse-from L k.inverse i p))

  through-lt : (x : ℕ) → x < 2 ^ 2 ^ L → through_both L k x < 2 ^ 2 ^ L
  through-lt x h = inverse-lt L k.inverse (butterfly-lt L k.butterfly h)

  pub brings-realises : (entries : List ℕ) → length entries ≡ 2 ^ L → Brings L (from_words L k) (entry entries) → Realises L k entries
  brings-realises entries long g = words-permuted L entries long (through_both L k) (place.network L (from_words L k)) through-bit through-lt g

  pub realises-brings : (entries : List ℕ) → length entries ≡ 2 ^ L → ((p : ℕ) → p < 2 ^ L → entry entries p < 2 ^ L)
      → Realises L k entries → Brings L (from_words L k) (entry entries)
  realises-brings entries long small g = places-permuted L entries long (through_both L k) (place.network L (from_words L k)) through-bit through-lt small g
