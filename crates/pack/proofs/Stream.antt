-- Appending a field to a stream of bits. Assumes nothing.
use mathlib.Core.Path.{◌≡◌, refl, sym, ◌∙◌, ap, ap₂}
use mathlib.Core.List.{List}
use Prim.Native.Nat.{ℕ, zero, suc, ◌+◌, ◌-◌, ◌*◌, ◌/◌, ◌%◌, ◌^◌, ◌<◌, ◌≤◌}
use native.Mathlib.Omega.{arith}
use native.Mathlib.Nat.{mod-eq_of_lt, add-zero}
use lib.Bits.{bit_or, or_shifted_r}
use lib.ListN.{length, set}
use lib.Pow.{pow_pos, pow_mono, shr-shr, high, low, mod-pow-add}
use Rattle.bits.specs.Bit.{of_bits}
use Rattle.bits.proofs.Word.{of_bits-lt, of_bits-same, of_bits-add, of_bits-low}
use Rattle.pack.specs.declared.Cursor.{Cursor}
use Rattle.pack.specs.Fields.{word_at}
use Rattle.pack.specs.Cursor.{Holds}
use Rattle.bits.proofs.FilledLists.{fill-next}

-- words end to end

pub of_bits-none : (w : ℕ) (f : ℕ → ℕ) → ((i : ℕ) → i < w → f i ≡ 0) → of_bits w f ≡ 0
unfolding of_bits
of_bits-none zero f z = refl
of_bits-none (suc w) f z =
    let h = of_bits-none w (λ i. f (suc i)) (λ i l. z (suc i) (omega arith)) in
    omega (arith, h, z 0 (omega arith))

of_bits_fits : (a : ℕ) (g : ℕ → ℕ) → a ≤ 64 → of_bits a g % 2 ^ 64 ≡ of_bits a g
of_bits_fits a g h = mod-eq_of_lt (omega (arith, of_bits-lt a g, pow_mono h))

module _ (x p h : ℕ) (l : p < 2 ^ h) where
  shl-rest : (k : ℕ) → (x * 2 ^ h + p) % 2 ^ (k + h) ≡ x % 2 ^ k * 2 ^ h + p
  shl-rest k = mod-pow-add (x * 2 ^ h + p) k h ∙ rw (high x h l, low x h l)

shl-mod : (x k h : ℕ) → x * 2 ^ h % 2 ^ (k + h) ≡ x % 2 ^ k * 2 ^ h
shl-mod x k h =
    ap (λ (n : ℕ). n % 2 ^ (k + h)) (sym (add-zero (x * 2 ^ h))) ∙ shl-rest x 0 h (pow_pos h) k ∙ add-zero (x % 2 ^ k * 2 ^ h)

-- the code's `p | (x << h)`
or-shl : (x p h k : ℕ) → p < 2 ^ h → bit_or p (x * 2 ^ h % 2 ^ (k + h)) ≡ (x * 2 ^ h + p) % 2 ^ (k + h)
or-shl x p h k l = ap (bit_or p) (shl-mod x k h) ∙ or_shifted_r (x % 2 ^ k) h p l ∙ sym (shl-rest x p h l k)

pub join-bits : (h c : ℕ) (g : ℕ → ℕ) → h ≤ 64 → bit_or (of_bits h g) (of_bits c (λ i. g (h + i)) * 2 ^ h % 2 ^ 64) ≡ of_bits (h + c) g % 2 ^ 64
join-bits h c g u =
    let e : 64 - h + h ≡ 64 = omega arith in
    rw e at (or-shl (of_bits c (λ i. g (h + i))) (of_bits h g) h (64 - h) (of_bits-lt h g)) ∙ ap (λ (n : ℕ). n % 2 ^ 64) (sym (of_bits-add h c g))

-- the bits from d up
pub upper : (d r : ℕ) {w x : ℕ} (f g : ℕ → ℕ) → w ≡ d + r → x ≡ of_bits w f → ((i : ℕ) → f (d + i) ≡ g i) → x / 2 ^ d ≡ of_bits r g
upper d r f g q e s =
    ap (λ (x : ℕ). x / 2 ^ d) (e ∙ ap (λ (w : ℕ). of_bits w f) q ∙ of_bits-add d r f)
    ∙ high (of_bits r (λ i. f (d + i))) d (of_bits-lt d f)
    ∙ of_bits-same r (λ i. f (d + i)) g (λ i _. s i)

-- the code's shift by d, 1 to 64, in two steps
pub shr-two : (x d e : ℕ) → e + 1 ≡ d → x / 2 ^ 1 / 2 ^ e ≡ x / 2 ^ d
shr-two x d e q = let r : 1 + e ≡ d = omega arith in shr-shr x 1 e ∙ ap (λ (n : ℕ). x / 2 ^ n) r

-- Putting a field.

module _ (c : Cursor) (size field : ℕ) (s : ℕ → ℕ) (n : ℕ) (old : List ℕ) {out : List ℕ} (h : Holds s n c old out)
    (e : field ≡ of_bits size (λ i. s (n + i)))
  where
    here : ℕ → ℕ
    here i = s (64 * c.word + i)

    above : field ≡ of_bits size (λ i. here (c.held + i))
    unfolding here
    above =
        e
        ∙ of_bits-same size (λ i. s (n + i)) (λ i. s (64 * c.word + (c.held + i)))
        (λ i l. let q : n + i ≡ 64 * c.word + (c.held + i) = omega (arith, h.at) in ap s q)

    joined : bit_or c.pending (field * 2 ^ c.held % 2 ^ 64) ≡ of_bits (c.held + size) here % 2 ^ 64
    unfolding here
    joined = ap₂ (λ (p x : ℕ). bit_or p (x * 2 ^ c.held % 2 ^ 64)) h.bits above ∙ (join-bits c.held size here (omega (arith, c.within)))

    -- it stays in the word begun
    pub put-stays : (l : c.held + size < 64)
        → Holds s (n + size) (record { word = c.word; held = c.held + size; pending = bit_or c.pending (field * 2 ^ c.held % 2 ^ 64); within = l }) old out
    unfolding here
    put-stays l = record {
      at = omega (arith, h.at);
      bits = joined ∙ of_bits_fits (c.held + size) here (omega arith);
      words = h.words;
    }

    -- it completes the word begun; the rest of it begins the next one
    pub put-completes : (w : c.held + size - 64 < 64) → 64 ≤ c.held + size → c.word < length out
        → Holds s (n + size) (record { word = c.word + 1; held = c.held + size - 64; pending = field / 2 ^ 1 / 2 ^ (63 - c.held); within = w }) old
        (set out c.word (bit_or c.pending (field * 2 ^ c.held % 2 ^ 64)))
    unfolding here word_at
    put-completes w l k =
        let d = 64 - c.held in
        let r = c.held + size - 64 in
        let q : size ≡ d + r = omega (arith, c.within) in
        let t : c.held + size ≡ 64 + r = omega arith in
        let full : bit_or c.pending (field * 2 ^ c.held % 2 ^ 64) ≡ word_at s c.word =
        joined ∙ ap (λ (a : ℕ). of_bits a here % 2 ^ 64) t ∙ of_bits-low 64 r here
        in
        let rest : field / 2 ^ 1 / 2 ^ (63 - c.held) ≡ of_bits r (λ i. s (64 * (c.word + 1) + i)) =
        shr-two field d (63 - c.held) (omega (arith, c.within))
        ∙ upper d r (λ i. here (c.held + i)) (λ i. s (64 * (c.word + 1) + i)) q above
        (λ i. let v : 64 * c.word + (c.held + (d + i)) ≡ 64 * (c.word + 1) + i = omega (arith, c.within) in ap s v)
        in
        record {
          at = omega (arith, h.at, c.within);
          bits = rest;
          words = fill-next (word_at s) c.word old k h.words full;
        }
