-- Both lists of steps give the plane rule: one computed test each, over all 512 places, read at every place of every input. Assumes nothing.
use mathlib.Core.Path.{◌≡◌, refl, sym, ◌∙◌, ap, ap₂}
use mathlib.Core.Bool.{Bool, true, ◌&&◌}
use mathlib.Core.List.{List}
use Prim.Native.Nat.{ℕ, ◌+◌, ◌-◌, ◌*◌, ◌/◌, ◌%◌, ◌^◌, ◌<◌, ◌≤◌}
use native.Mathlib.Omega.{arith}
use lib.Dec.{eqb}
use borrow.Author.Tests.{eqb-true}
use lib.ListN.{length, get_or, length-drop, get_or-eq_default}
use lib.Pow.{pow_pos}
use lib.Seq.{ext_get_or, get_or-drop}
use Rattle.bits.specs.Bit.{bit, of_bits, up_to}
use Rattle.bits.proofs.Word.{bit-mod, bit-mod-two, bit-of_bits, bit-shr, ext, of_bits-lt}
use Rattle.bits.proofs.Refusals.{both}
use Rattle.bits.proofs.UpTo.{length-up_to, get_or-up_to}
use Rattle.bits.proofs.Computed.{every, every-at}
use Rattle.planes.specs.Planes.{byte_of, planes_of, words_of_planes}
use Rattle.planes.specs.Steps.{Step, kept_place, keep_halves, merge_halves, after_steps, last_eight, packing_steps, merging_steps}
use Rattle.planes.proofs.Origins.{bit_at, taken, comes_from, bit-after, after-lt, length-after}

abbrev same_place : ℕ × ℕ → ℕ × ℕ → Bool
same_place q r = eqb q.0 r.0 && eqb q.1 r.1

-- bit n of result number p of the last eight comes from the place that the rule names
abbrev Moves : (ℕ → ℕ → ℕ → ℕ × ℕ) → List Step → (ℕ → ℕ → ℕ × ℕ) → Type 0
Moves from ss rule = every 512 (λ i. same_place (comes_from from 8 ss (24 + i / 64, i % 64)) (rule (i / 64) (i % 64))) ≡ true

moves-at : (from : ℕ → ℕ → ℕ → ℕ × ℕ) (ss : List Step) (rule : ℕ → ℕ → ℕ × ℕ) → Moves from ss rule
    → (ws : List ℕ) (p n : ℕ) → p < 8 → n < 64 → bit_at ws (comes_from from 8 ss (24 + p, n)) ≡ bit_at ws (rule p n)
moves-at from ss rule t ws p n hp hn =
    let d : (64 * p + n) / 64 ≡ p = omega arith in
    let m : (64 * p + n) % 64 ≡ n = omega arith in
    let o = comes_from from 8 ss (24 + p, n) in
    let a : same_place o (rule p n) ≡ true =
    rw (d, m) at (every-at 512 (λ i. same_place (comes_from from 8 ss (24 + i / 64, i % 64)) (rule (i / 64) (i % 64))) t (64 * p + n) (omega arith))
    in
    let b = both (eqb o.0 (rule p n).0) (eqb o.1 (rule p n).1) a in
    ap₂ (λ (k j : ℕ). bit (get_or ws k 0) j) (eqb-true o.0 (rule p n).0 b.0) (eqb-true o.1 (rule p n).1 b.1)

-- so the last eight results are what the rule says, whatever the words
module _ (kind : ℕ → ℕ → ℕ → ℕ → ℕ) (from : ℕ → ℕ → ℕ → ℕ × ℕ) (is : (w half x y : ℕ) → kind w half x y ≡ taken (from w half) x y)
    (ss : List Step) (rule : ℕ → ℕ → ℕ × ℕ) (t : Moves from ss rule) (all : length ss ≡ 24) (ws : List ℕ) (eight : length ws ≡ 8)
  where
    abbrev results : List ℕ
    results = after_steps kind ss ws

    length-results : length results ≡ 32
    length-results = length-after kind ss ws ∙ omega (arith, all, eight)

    first-of-last : length results - 8 ≡ 24
    first-of-last = omega (arith, length-results)

    given-lt : (k : ℕ) → 8 ≤ k → get_or ws k 0 < 2 ^ 64
    given-lt k h = rw (get_or-eq_default ws 0 {n = k} (omega (arith, eight))) (pow_pos 64)

    pub last-by-rule : (g : ℕ → ℕ → ℕ) → ((p n : ℕ) → p < 8 → n < 64 → g p n ≡ bit_at ws (rule p n)) → last_eight results ≡ up_to 8 (λ p. of_bits 64 (g p))
    last-by-rule g e =
        ext_get_or 0 (last_eight results) (up_to 8 f) (length_last ∙ sym (length-up_to f 8)) word
      where
        f : ℕ → ℕ
        f p = of_bits 64 (g p)

        length_last : length (last_eight results) ≡ 8
        length_last = length-drop (length results - 8) results ∙ omega (arith, length-results)

        bits : (p : ℕ) → p < 8 → (n : ℕ) → n < 64 → bit (get_or results (24 + p) 0) n ≡ bit (f p) n
        bits p hp n hn =
            let r = rule p n in
            bit-after kind from is ss ws (24 + p, n)
            ∙ ap (λ (k : ℕ). bit_at ws (comes_from from k ss (24 + p, n))) eight
            ∙ moves-at from ss rule t ws p n hp hn
            ∙ sym (bit-of_bits 64 (g p) n hn ∙ ap (λ (b : ℕ). b % 2) (e p n hp hn) ∙ bit-mod-two (get_or ws r.0 0) r.1)

        word : (p : ℕ) → p < length (last_eight results) → get_or (last_eight results) p 0 ≡ get_or (up_to 8 f) p 0
        word p h =
            let hp : p < 8 = omega (arith, length_last) in
            get_or-drop (length results - 8) results p 0
            ∙ ap (λ (k : ℕ). get_or results (k + p) 0) first-of-last
            ∙ ext 64 (after-lt kind from is 8 ss ws given-lt (24 + p) (omega arith)) (of_bits-lt 64 (g p)) (bits p hp)
            ∙ sym (get_or-up_to f 8 p hp)

-- the list of packing steps

abbrev kept_from : ℕ → ℕ → ℕ → ℕ × ℕ
kept_from w half j = (j / 32, kept_place w half (j % 32))

abbrev by_plane : ℕ → ℕ → ℕ × ℕ
by_plane p n = (n / 8, 8 * (n % 8) + p)

packing-moves : Moves kept_from packing_steps by_plane
unfolding every packing_steps comes_from
packing-moves = refl

keep_taken : (w half x y : ℕ) → keep_halves w half x y ≡ taken (kept_from w half) x y
unfolding keep_halves
keep_taken w half x y = refl

-- bit p of byte n, in its word
pub byte-in-word : (ws : List ℕ) (n p : ℕ) → p < 8 → bit (byte_of ws n) p ≡ bit_at ws (by_plane p n)
unfolding byte_of
byte-in-word ws n p h = bit-mod (get_or ws (n / 8) 0 / 2 ^ (8 * (n % 8))) 8 p h ∙ bit-shr (get_or ws (n / 8) 0) (8 * (n % 8)) p

pub packing-24 : length packing_steps ≡ 24
unfolding packing_steps
packing-24 = refl

-- carrying out the list gives the plane rule for all sixty-four bytes
pub packing-planes : (ws : List ℕ) → length ws ≡ 8 → last_eight (after_steps keep_halves packing_steps ws) ≡ planes_of ws
unfolding planes_of
packing-planes ws eight =
    last-by-rule keep_halves kept_from keep_taken packing_steps by_plane packing-moves packing-24 ws eight (λ p n. bit (byte_of ws n) p) (λ p n hp hn. byte-in-word ws n p hp)

-- the list of merging steps

abbrev merged_from : ℕ → ℕ → ℕ → ℕ × ℕ
merged_from w half i = let h = w / 2 in (i / h % 2, half * 32 + (i / w * h + i % h))

abbrev by_byte : ℕ → ℕ → ℕ × ℕ
by_byte k i = (i % 8, 8 * k + i / 8)

merging-moves : Moves merged_from merging_steps by_byte
unfolding every packing_steps merging_steps comes_from
merging-moves = refl

merge-taken : (w half x y : ℕ) → merge_halves w half x y ≡ taken (merged_from w half) x y
unfolding merge_halves
merge-taken w half x y = refl

pub merging-24 : length merging_steps ≡ 24
unfolding packing_steps merging_steps
merging-24 = refl

pub merging-words : (ps : List ℕ) → length ps ≡ 8 → last_eight (after_steps merge_halves merging_steps ps) ≡ words_of_planes ps
unfolding words_of_planes
merging-words ps eight =
    last-by-rule merge_halves merged_from merge-taken merging_steps by_byte merging-moves merging-24 ps eight (λ k i. bit_at ps (by_byte k i)) (λ k i hk hi. refl)
