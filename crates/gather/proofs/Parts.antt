-- The laws of words in parts of equal size: sums, products and bit operations go part by part, and a part is two of half its size.
-- Assumes nothing.
use mathlib.Core.Path.{◌≡◌, refl, sym, ◌∙◌, ap, ap₂}
use Prim.Native.Nat.{ℕ, zero, suc, ◌+◌, ◌*◌, ◌/◌, ◌%◌, ◌^◌, ◌<◌}
use native.Mathlib.Omega.{arith}
use native.Mathlib.Nat.{div-one, zero-mul, mul-div_cancel}
use lib.Arith.{digits_lt, lt-one}
use lib.Bits.{bit_and, bit_or, bit_xor, and_block, or_block, xor_block}
use lib.Pow.{pow_pos, pow-add, shr-shr, shr_lt, high, split}
use Rattle.gather.specs.Parts.{in_parts}

-- each part is below 2 ^ k
abbrev pub Small : ℕ → (ℕ → ℕ → ℕ) → Type 0
Small k f = (m x : ℕ) → f m x < 2 ^ k

-- c in every part
unfoldable pub every_part : ℕ → ℕ → ℕ → ℕ
every_part k n c = in_parts k n (λ m x. c) 0 0

module _ (k : ℕ) where
  pub parts-ext : {f g : ℕ → ℕ → ℕ} → ((m x : ℕ) → f m x ≡ g m x) → (n m x : ℕ) → in_parts k n f m x ≡ in_parts k n g m x
  unfolding in_parts
  parts-ext e zero m x = refl
  parts-ext e (suc n) m x = ap₂ (λ (a b : ℕ). a * 2 ^ k + b) (parts-ext e n (m / 2 ^ k) (x / 2 ^ k)) (e m x)

  pub parts-lt : {f : ℕ → ℕ → ℕ} → Small k f → (n m x : ℕ) → in_parts k n f m x < 2 ^ (k * n)
  unfolding in_parts
  parts-lt h zero m x = let e : k * 0 ≡ 0 = omega arith in rw e (omega arith)
  parts-lt h (suc n) m x =
      let e : k * suc n ≡ k * n + k = omega arith in
      rw (e, pow-add 2 (k * n) k) (digits_lt (parts-lt h n (m / 2 ^ k) (x / 2 ^ k)) (h m x))

  -- parts that do not look at x
  pub parts-mask : (f : ℕ → ℕ) (n m x y : ℕ) → in_parts k n (λ m x. f m) m x ≡ in_parts k n (λ m x. f m) m y
  unfolding in_parts
  parts-mask f zero m x y = refl
  parts-mask f (suc n) m x y = ap (λ (a : ℕ). a * 2 ^ k + f m) (parts-mask f n (m / 2 ^ k) (x / 2 ^ k) (y / 2 ^ k))

  pub parts-every : (c n m x : ℕ) → in_parts k n (λ m x. c) m x ≡ every_part k n c
  unfolding in_parts every_part
  parts-every c zero m x = refl
  parts-every c (suc n) m x = ap (λ (a : ℕ). a * 2 ^ k + c) (parts-every c n (m / 2 ^ k) (x / 2 ^ k) ∙ sym (parts-every c n (0 / 2 ^ k) (0 / 2 ^ k)))

  -- sums and products by a constant

  module _ (f g : ℕ → ℕ → ℕ) where
    pub parts_add : (n m x : ℕ) → in_parts k n f m x + in_parts k n g m x ≡ in_parts k n (λ m x. f m x + g m x) m x
    unfolding in_parts
    parts_add zero m x = refl
    parts_add (suc n) m x = omega (arith, ap (λ (a : ℕ). a * 2 ^ k) (parts_add n (m / 2 ^ k) (x / 2 ^ k)))

  pub parts-mul : (f : ℕ → ℕ → ℕ) (c n m x : ℕ) → in_parts k n f m x * c ≡ in_parts k n (λ m x. f m x * c) m x
  unfolding in_parts
  parts-mul f c zero m x = zero-mul c
  parts-mul f c (suc n) m x = omega (arith, ap (λ (a : ℕ). a * 2 ^ k) (parts-mul f c n (m / 2 ^ k) (x / 2 ^ k)))

  -- parts with d zeros at the right
  module _ (f : ℕ → ℕ → ℕ) (d : ℕ) (h : (m x : ℕ) → f m x % 2 ^ d ≡ 0) (n m x : ℕ) where
    pub parts_whole : in_parts k n f m x ≡ in_parts k n (λ m x. f m x / 2 ^ d) m x * 2 ^ d
    parts_whole =
        parts-ext (λ m x. omega (arith, split (f m x) d, h m x)) n m x ∙ sym (parts-mul (λ m x. f m x / 2 ^ d) (2 ^ d) n m x)

    pub parts-shr : in_parts k n f m x / 2 ^ d ≡ in_parts k n (λ m x. f m x / 2 ^ d) m x
    parts-shr = ap (λ (a : ℕ). a / 2 ^ d) parts_whole ∙ mul-div_cancel (in_parts k n (λ m x. f m x / 2 ^ d) m x) (pow_pos d)

  -- bit operations

  module _ (op : ℕ → ℕ → ℕ) (none : op 0 0 ≡ 0)
      (block : (k a b r s : ℕ) → r < 2 ^ k → s < 2 ^ k → op (a * 2 ^ k + r) (b * 2 ^ k + s) ≡ op a b * 2 ^ k + op r s)
      {f g : ℕ → ℕ → ℕ} (hf : Small k f) (hg : Small k g) where
    parts-op : (n m x : ℕ) → op (in_parts k n f m x) (in_parts k n g m x) ≡ in_parts k n (λ m x. op (f m x) (g m x)) m x
    unfolding in_parts
    parts-op zero m x = none
    parts-op (suc n) m x =
        block k (in_parts k n f (m / 2 ^ k) (x / 2 ^ k)) (in_parts k n g (m / 2 ^ k) (x / 2 ^ k)) (f m x) (g m x) (hf m x) (hg m x)
        ∙ ap (λ (a : ℕ). a * 2 ^ k + op (f m x) (g m x)) (parts-op n (m / 2 ^ k) (x / 2 ^ k))

  module _ {f g : ℕ → ℕ → ℕ} (hf : Small k f) (hg : Small k g) where
    pub parts-and : (n m x : ℕ) → bit_and (in_parts k n f m x) (in_parts k n g m x) ≡ in_parts k n (λ m x. bit_and (f m x) (g m x)) m x
    parts-and = parts-op bit_and refl and_block hf hg

    pub parts-or : (n m x : ℕ) → bit_or (in_parts k n f m x) (in_parts k n g m x) ≡ in_parts k n (λ m x. bit_or (f m x) (g m x)) m x
    parts-or = parts-op bit_or refl or_block hf hg

    pub parts-xor : (n m x : ℕ) → bit_xor (in_parts k n f m x) (in_parts k n g m x) ≡ in_parts k n (λ m x. bit_xor (f m x) (g m x)) m x
    parts-xor = parts-op bit_xor refl xor_block hf hg

  -- the word itself, in parts

  pub parts_first : (n : ℕ) {m : ℕ} → m < 2 ^ (k * n) → (x : ℕ) → in_parts k n (λ m x. m % 2 ^ k) m x ≡ m
  unfolding in_parts
  parts_first zero {m} h x = let e : k * 0 ≡ 0 = omega arith in sym (lt-one (rw e at h))
  parts_first (suc n) {m} h x =
      let e : k * suc n ≡ k * n + k = omega arith in
      ap (λ (a : ℕ). a * 2 ^ k + m % 2 ^ k) (parts_first n (shr_lt (k * n) k (rw e at h)) (x / 2 ^ k)) ∙ split m k

  parts-flip : (f : ℕ → ℕ → ℕ) (n m x : ℕ) → in_parts k n (λ m x. f x m) m x ≡ in_parts k n f x m
  unfolding in_parts
  parts-flip f zero m x = refl
  parts-flip f (suc n) m x = ap (λ (a : ℕ). a * 2 ^ k + f x m) (parts-flip f n (m / 2 ^ k) (x / 2 ^ k))

  pub parts-second : (n : ℕ) {x : ℕ} → x < 2 ^ (k * n) → (m : ℕ) → in_parts k n (λ m x. x % 2 ^ k) m x ≡ x
  parts-second n {x} h m = parts-flip (λ m x. m % 2 ^ k) n m x ∙ parts_first n h m

  -- what is left of the word from part j up
  pub parts-drop : {f : ℕ → ℕ → ℕ} → Small k f → (j n m x : ℕ) → in_parts k (j + n) f m x / 2 ^ (k * j) ≡ in_parts k n f (m / 2 ^ (k * j)) (x / 2 ^ (k * j))
  unfolding in_parts
  parts-drop {f} h zero n m x =
      let e : k * 0 ≡ 0 = omega arith in
      let z : 0 + n ≡ n = omega arith in
      rw (e, z, div-one (in_parts k n f m x), div-one m, div-one x)
  parts-drop {f} h (suc j) n m x =
      let e : k * suc j ≡ k + k * j = omega arith in
      let z : suc j + n ≡ suc (j + n) = omega arith in
      rw (e, z, ← (shr-shr (in_parts k (suc (j + n)) f m x) k (k * j)), ← (shr-shr m k (k * j)), ← (shr-shr x k (k * j)))
      (ap (λ (a : ℕ). a / 2 ^ (k * j)) (high (in_parts k (j + n) f (m / 2 ^ k) (x / 2 ^ k)) k (h m x)) ∙ parts-drop h j n (m / 2 ^ k) (x / 2 ^ k))

-- two parts of s bits are one of twice as many
abbrev pub paired : ℕ → (ℕ → ℕ → ℕ) → ℕ → ℕ → ℕ
paired s f m x = f (m / 2 ^ s) (x / 2 ^ s) * 2 ^ s + f m x

pub parts-pairs : (s : ℕ) (f : ℕ → ℕ → ℕ) (n m x : ℕ) → in_parts s (n + n) f m x ≡ in_parts (s + s) n (paired s f) m x
unfolding in_parts
parts-pairs s f zero m x = refl
parts-pairs s f (suc n) m x =
    let e : suc n + suc n ≡ suc (suc (n + n)) = omega arith in
    rw (e, shr-shr m s s, shr-shr x s s, parts-pairs s f n (m / 2 ^ (s + s)) (x / 2 ^ (s + s)))
    (omega (arith, ap (λ (a : ℕ). in_parts (s + s) n (paired s f) (m / 2 ^ (s + s)) (x / 2 ^ (s + s)) * a) (pow-add 2 s s)))
