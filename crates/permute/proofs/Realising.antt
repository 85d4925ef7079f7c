-- The permutation that a network realises, by what it does to single bits; and that each network, and both in a row, realise one. Assumes nothing.
use mathlib.Core.Path.{◌≡◌, refl, sym, ◌∙◌, ap, subst}
use mathlib.Core.Logic.{◌↔◌}
use mathlib.Core.Bool.{Bool, true, false}
use mathlib.Core.List.{List, [], ◌∷◌}
use Prim.Native.Nat.{ℕ, ◌^◌, ◌<◌}
use native.Mathlib.Omega.{arith}
use lib.ListN.{length, get_or}
use lib.Pow.{pow-lt}
use lib.Seq.{ext_get_or}
use Rattle.bits.specs.Bit.{bit, of_bits, up_to, pick}
use Rattle.bits.proofs.UpTo.{length-up_to, get_or-up_to, up_to-same}
use Rattle.bits.proofs.Word.{bit-pow-own, bit-pow-only}
use Rattle.bits.proofs.Places.{bit-pick, pick-lt}
use Rattle.network.specs.Stage.{switch_of, partner, source, stage, travel, falling, rising, butterfly_of, inverse_of}
use Rattle.network.specs.Word.{distances, travel_of}
use Rattle.network.proofs.Travel.{origin, origin-below, origin-injective, bit-travel, distances-fit}
use Rattle.network.proofs.MaskRouting.{travel-of-lt}
use Rattle.routing.specs.Lists.{Words, find, entry, ListPermutes}
use Rattle.routing.proofs.ListControls.{find-found}
use Rattle.permute.proofs.Realised.{words-permuted}
use Rattle.permute.specs.Alike.{Alike, sources_of, PermutesBits, through_both}

-- the sources of a function that permutes by a list are the list

module _ (w : ℕ) (F : ℕ → ℕ) (es : List ℕ) (long : length es ≡ w) (small : (p : ℕ) → p < w → entry es p < w)
    (single : (b : ℕ) → b < w → F (2 ^ b) ≡ pick es (2 ^ b))
  where
    abbrev arrives : ℕ → ℕ → ℕ
    arrives p b = bit (F (2 ^ b)) p

    arrives_at : (p b : ℕ) → p < w → b < w → get_or (up_to w (arrives p)) b 0 ≡ bit (2 ^ b) (entry es p)
    arrives_at p b h l = get_or-up_to (arrives p) w b l ∙ ap (λ (y : ℕ). bit y p) (single b l) ∙ bit-pick (2 ^ b) es p (omega arith)

    source_is : (p : ℕ) → p < w → find 1 (up_to w (arrives p)) ≡ entry es p
    source_is p h =
        let j = entry es p in
        let i = find 1 (up_to w (arrives p)) in
        let n = length-up_to (arrives p) w in
        let f = find-found 1 (up_to w (arrives p)) j (omega (arith, small p h, n)) (arrives_at p j h (small p h) ∙ bit-pow-own j) in
        sym (bit-pow-only i j (sym (arrives_at p i h (omega (arith, f.small, n))) ∙ f.holds))

    pub sources-are : sources_of w F ≡ es
    unfolding sources_of
    sources-are =
        let g : ℕ → ℕ = λ p. find 1 (up_to w (arrives p)) in
        ext_get_or 0 (up_to w g) es (length-up_to g w ∙ sym long)
        (λ p h. let l : p < w = omega (arith, length-up_to g w) in get_or-up_to g w p l ∙ source_is p l)

pub sources-same : (w : ℕ) (F G : ℕ → ℕ) → Alike w F G → sources_of w F ≡ sources_of w G
unfolding sources_of
sources-same w F G a =
    up_to-same w (λ p. find 1 (up_to w (λ b. bit (F (2 ^ b)) p))) (λ p. find 1 (up_to w (λ b. bit (G (2 ^ b)) p)))
    (λ p h. ap (find 1) (up_to-same w (λ b. bit (F (2 ^ b)) p) (λ b. bit (G (2 ^ b)) p) (λ b l. ap (λ (y : ℕ). bit y p) (a (2 ^ b) (pow-lt l)))))

pub permutes-by : (w : ℕ) (F : ℕ → ℕ) (es : List ℕ) → ListPermutes w es → Alike w F (pick es) → PermutesBits w F
permutes-by w F es p a =
    let s = sources-are w F es p.long p.small (λ b l. a (2 ^ b) (pow-lt l)) in
    record { permutation = subst (ListPermutes w) (sym s) p; realised = λ x h. a x h ∙ ap (λ (l : List ℕ). pick l x) (sym s) }

-- two that permute move every word alike exactly if their sources are the same
pub alike-sources : (w : ℕ) (F G : ℕ → ℕ) → PermutesBits w F → PermutesBits w G → Alike w F G ↔ (sources_of w F ≡ sources_of w G)
alike-sources w F G p q = (
  sources-same w F G,
  λ e x h. p.realised x h ∙ ap (λ (l : List ℕ). pick l x) e ∙ sym (q.realised x h),
)

-- If the bit of every place p comes from place f p, and no two from one place, F permutes.
module _ (L : ℕ) (F f : ℕ → ℕ) (moves : (x p : ℕ) → x < 2 ^ 2 ^ L → p < 2 ^ L → bit (F x) p ≡ bit x (f p))
    (keeps : (x : ℕ) → x < 2 ^ 2 ^ L → F x < 2 ^ 2 ^ L) (below : (p : ℕ) → p < 2 ^ L → f p < 2 ^ L)
    (apart : (p q : ℕ) → p < 2 ^ L → q < 2 ^ L → f p ≡ f q → p ≡ q)
  where
    moved-permutes : PermutesBits (2 ^ L) F
    moved-permutes =
        let es = up_to (2 ^ L) f in
        let n = length-up_to f (2 ^ L) in
        let at : (p : ℕ) → p < 2 ^ L → entry es p ≡ f p = λ p h. get_or-up_to f (2 ^ L) p h in
        permutes-by (2 ^ L) F es
        (record {
          long = n;
          small = λ p h. omega (arith, at p h, below p h);
          once = λ p q h l e. apart p q h l (sym (at p h) ∙ e ∙ at q l);
        })
        (words-permuted L es n F f moves keeps (λ p h. sym (at p h)))

either-permutes : (b : Bool) (L : ℕ) (cs : List ℕ) → PermutesBits (2 ^ L) (travel_of b L cs)
unfolding travel_of
either-permutes b L cs =
    let w = 2 ^ L in
    let ds = distances b L in
    let f = distances-fit b L {L = L} (omega arith) in
    moved-permutes L (travel_of b L cs) (origin ds cs) (λ x p h l. bit-travel w ds cs f x p l) (λ x h. travel-of-lt b L cs h)
    (origin-below w ds cs f) (λ p q h l e. origin-injective w ds cs f p q e)

-- whatever the controls, and however many stages they are

pub butterfly-permutes : (L : ℕ) (cs : List ℕ) → PermutesBits (2 ^ L) (butterfly_of L cs)
unfolding butterfly_of travel_of
butterfly-permutes = either-permutes false

pub inverse-permutes : (L : ℕ) (cs : List ℕ) → PermutesBits (2 ^ L) (inverse_of L cs)
unfolding inverse_of travel_of
inverse-permutes = either-permutes true

-- one after the other
module _ (L : ℕ) (F G : ℕ → ℕ) (p : PermutesBits (2 ^ L) F) (q : PermutesBits (2 ^ L) G) where
  abbrev sources : (ℕ → ℕ) → List ℕ
  sources H = sources_of (2 ^ L) H

  kept : (H : ℕ → ℕ) → PermutesBits (2 ^ L) H → (x : ℕ) → x < 2 ^ 2 ^ L → H x < 2 ^ 2 ^ L
  kept H r x h = rw (r.realised x h) (rw r.permutation.long at (pick-lt x (sources H)))

  permuted-bit : (H : ℕ → ℕ) → PermutesBits (2 ^ L) H → (x i : ℕ) → x < 2 ^ 2 ^ L → i < 2 ^ L → bit (H x) i ≡ bit x (entry (sources H) i)
  permuted-bit H r x i h l = rw (r.realised x h) (bit-pick x (sources H) i (omega (arith, r.permutation.long)))

  permutes-after : PermutesBits (2 ^ L) (λ x. G (F x))
  permutes-after =
      let f = p.permutation in
      let g = q.permutation in
      let at = entry (sources G) in
      moved-permutes L (λ x. G (F x)) (λ i. entry (sources F) (at i))
      (λ x i h l. permuted-bit G q (F x) i (kept F p x h) l ∙ permuted-bit F p x (at i) h (g.small i l))
      (λ x h. kept G q (F x) (kept F p x h)) (λ i h. f.small (at i) (g.small i h))
      (λ i j h l e. g.once i j h l (f.once (at i) (at j) (g.small i h) (g.small j l) e))

pub both-permute : (L : ℕ) (k : Words) → PermutesBits (2 ^ L) (through_both L k)
both-permute L k =
    permutes-after L (butterfly_of L k.butterfly) (inverse_of L k.inverse) (butterfly-permutes L k.butterfly) (inverse-permutes L k.inverse)

-- Outside vectors: the sources that the controls of row 4 trace in a drawing, of which its mask 0xAD fixes five (its marked places take bits 0 to 4, and
-- back), and those of row 8, which are its permutation.
pub row-sources :
    (sources_of 8 (butterfly_of 3 (0x7 ∷ 0x1 ∷ 0x5 ∷ [])) ≡ 0 ∷ 7 ∷ 1 ∷ 2 ∷ 6 ∷ 3 ∷ 5 ∷ 4 ∷ [])
    × (sources_of 8 (inverse_of 3 (0x5 ∷ 0x1 ∷ 0x7 ∷ [])) ≡ 0 ∷ 2 ∷ 3 ∷ 5 ∷ 7 ∷ 6 ∷ 4 ∷ 1 ∷ [])
    × (sources_of 8 (through_both 3 (record { butterfly = 0xD ∷ 0xF ∷ 0xF ∷ []; inverse = 0xB ∷ 0xF ∷ 0xD ∷ [] })) ≡ 0 ∷ 4 ∷ 2 ∷ 3 ∷ 1 ∷ 5 ∷ 6 ∷ 7 ∷ [])
unfolding sources_of up_to find bit butterfly_of inverse_of travel falling rising stage of_bits source partner switch_of
row-sources = (refl, refl, refl)
