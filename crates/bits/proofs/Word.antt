-- The laws of a word as its bits, over every width. After these no proof speaks of quotients and remainders.
-- Assumes nothing.
use mathlib.Core.Path.{◌≡◌, refl, sym, ◌∙◌, ap, ap₂}
use mathlib.Core.Bool.{Bool, true, false, cond}
use mathlib.Core.Logic.{◌⊎◌, inl, inr, ◌↔◌}
use Prim.Native.Nat.{ℕ, zero, suc, ◌+◌, ◌-◌, ◌*◌, ◌/◌, ◌%◌, ◌^◌, ◌<◌, ◌≤◌, min, max}
use native.Mathlib.Omega.{arith}
use native.Mathlib.Nat.{div-one, pow-suc, pow-zero, pow-succ', mod-lt, mod-eq_of_lt, div-eq_of_lt, div-div-eq-div-mul, zero-div, zero-mod, div-lt_iff_lt-mul, one-mul, mul-le-mul_right, not-suc-le-zero, add-zero}
use native.Mathlib.Decide.{dec_lt}
use lib.Dec.{eqb}
use borrow.Author.Tests.{eq-eqb, eqb-true, eqb-false}
use lib.Arith.{digits_div, digits_mod, lt-one}
use lib.Pow.{pow_pos, pow-lt, pow_mono, pow-add, shr-shr, high, low, field, mod-mod-pow, ones_lt}
use lib.Bits.{bit_and, bit_or, bit_xor, differ, and_step, or_step, xor_step, and_shr, or_shr, xor_shr}
use Rattle.bits.specs.Bit.{bit, of_bits}

-- a bit is a digit

pub bit-lt : (x i : ℕ) → bit x i < 2
unfolding bit
bit-lt x i = mod-lt (x / 2 ^ i) (omega arith)

pub digit : (b : ℕ) → b < 2 → (b ≡ 0) ⊎ (b ≡ 1)
digit zero h = inl refl
digit (suc zero) h = inr refl
digit (suc (suc b)) h = absurd (omega arith)

pub bit-cases : (x i : ℕ) → (bit x i ≡ 0) ⊎ (bit x i ≡ 1)
bit-cases x i = digit (bit x i) (bit-lt x i)

pub bit-mod-two : (x i : ℕ) → bit x i % 2 ≡ bit x i
bit-mod-two x i = mod-eq_of_lt (bit-lt x i)

-- the lowest bit, and the bits above it

pub bit-zero : (x : ℕ) → bit x 0 ≡ x % 2
unfolding bit
bit-zero x = rw (pow-zero, div-one)

pub bit-suc : (x i : ℕ) → bit x (suc i) ≡ bit (x / 2) i
unfolding bit
bit-suc x i = ap (λ (n : ℕ). n % 2) (rw (pow-succ', div-div-eq-div-mul))

pub bit-of-zero : (i : ℕ) → bit 0 i ≡ 0
unfolding bit
bit-of-zero i = rw (zero-div, zero-mod)

-- shifts, remainders, and words end to end

pub bit-shr : (x k i : ℕ) → bit (x / 2 ^ k) i ≡ bit x (k + i)
unfolding bit
bit-shr x k i = ap (λ (n : ℕ). n % 2) (shr-shr x k i)

pub bit-above : {x w : ℕ} (i : ℕ) → x < 2 ^ w → w ≤ i → bit x i ≡ 0
unfolding bit
bit-above {x} {w} i h le = let q : x < 2 ^ i = omega (arith, pow_mono le) in rw (div-eq_of_lt q, zero-mod)

pub bit-cat-high : (a k i : ℕ) {r : ℕ} → r < 2 ^ k → bit (a * 2 ^ k + r) (k + i) ≡ bit a i
bit-cat-high a k i {r} h = sym (bit-shr (a * 2 ^ k + r) k i) ∙ ap (λ (n : ℕ). bit n i) (high a k h)

pub bit-mod : (x k i : ℕ) → i < k → bit (x % 2 ^ k) i ≡ bit x i
unfolding bit
bit-mod x k i h =
    let e : (k - i) + i ≡ k = omega arith in
    let d : (k - i - 1) + 1 ≡ k - i = omega arith in
    ap (λ (n : ℕ). x % 2 ^ n / 2 ^ i % 2) (sym e)
    ∙ ap (λ (n : ℕ). n % 2) (field x (k - i) i)
    ∙ ap (λ (n : ℕ). x / 2 ^ i % 2 ^ n % 2) (sym d)
    ∙ mod-mod-pow (x / 2 ^ i) (k - i - 1) 1

pub bit-mod-above : (x k i : ℕ) → k ≤ i → bit (x % 2 ^ k) i ≡ 0
bit-mod-above x k i h = bit-above i (mod-lt x (pow_pos k)) h

pub bit-cat-low : (a k i : ℕ) {r : ℕ} → r < 2 ^ k → i < k → bit (a * 2 ^ k + r) i ≡ bit r i
bit-cat-low a k i {r} h l = sym (bit-mod (a * 2 ^ k + r) k i l) ∙ ap (λ (n : ℕ). bit n i) (low a k h)

pub bit-shl-low : (a k i : ℕ) → i < k → bit (a * 2 ^ k) i ≡ 0
bit-shl-low a k i l =
    ap (λ (n : ℕ). bit n i) (sym (add-zero (a * 2 ^ k))) ∙ bit-cat-low a k i (pow_pos k) l ∙ bit-of-zero i

pub bit-shl-high : (a k i : ℕ) → bit (a * 2 ^ k) (k + i) ≡ bit a i
bit-shl-high a k i = ap (λ (n : ℕ). bit n (k + i)) (sym (add-zero (a * 2 ^ k))) ∙ bit-cat-high a k i (pow_pos k)

-- a shift that drops what passes the width

module _ (x k : ℕ) {w : ℕ} (i : ℕ) where
  pub bit-shl-below : i < w → i < k → bit (x * 2 ^ k % 2 ^ w) i ≡ 0
  bit-shl-below h l = bit-mod (x * 2 ^ k) w i h ∙ bit-shl-low x k i l

  pub bit-shl-from : (j : ℕ) → i < w → k + j ≡ i → bit (x * 2 ^ k % 2 ^ w) i ≡ bit x j
  bit-shl-from j h e = bit-mod (x * 2 ^ k) w i h ∙ ap (bit (x * 2 ^ k)) (sym e) ∙ bit-shl-high x k j

-- a word is determined by its bits

pub ext : (w : ℕ) {x y : ℕ} → x < 2 ^ w → y < 2 ^ w → ((i : ℕ) → i < w → bit x i ≡ bit y i) → x ≡ y
ext zero {x} {y} hx hy e = lt-one hx ∙ sym (lt-one hy)
ext (suc w) {x} {y} hx hy e =
    let h : x / 2 ≡ y / 2 =
    ext w (omega (arith, pow-suc 2 w)) (omega (arith, pow-suc 2 w))
    (λ i l. sym (bit-suc x i) ∙ e (suc i) (omega arith) ∙ bit-suc y i)
    in
    let z : x % 2 ≡ y % 2 = sym (bit-zero x) ∙ e 0 (omega arith) ∙ bit-zero y in
    omega (arith, h, z)

pub below-pow : (n : ℕ) → n < 2 ^ n
below-pow zero = omega arith
below-pow (suc n) = omega (arith, below-pow n, pow-suc 2 n)

-- a word is below 2 ^ w exactly if it has no one at bit w or above
pub fits_bits : (w x : ℕ) → (x < 2 ^ w) ↔ ((i : ℕ) → w ≤ i → bit x i ≡ 0)
fits_bits w x = ((λ h i l. bit-above i h l), from_bits)
  where
    from_bits : ((i : ℕ) → w ≤ i → bit x i ≡ 0) → x < 2 ^ w
    from_bits f =
        let y = x / 2 ^ w in
        let z : x / 2 ^ w ≡ 0 =
        ext y (below-pow y) (pow_pos y)
        (λ i l. bit-shr x w i ∙ f (w + i) (omega arith) ∙ sym (bit-of-zero i))
        in
        rw one-mul at ((div-lt_iff_lt-mul {k = 2 ^ w} {x = x} {y = 1} (pow_pos w)).0 (omega arith))

-- a word built from its bits

pub of_bits-lt : (w : ℕ) (f : ℕ → ℕ) → of_bits w f < 2 ^ w
unfolding of_bits
of_bits-lt zero f = omega arith
of_bits-lt (suc w) f = omega (arith, of_bits-lt w (λ i. f (suc i)), pow-suc 2 w, mod-lt (f zero) {m = 2} (omega arith))

pub of_bits-same : (w : ℕ) (f g : ℕ → ℕ) → ((i : ℕ) → i < w → f i ≡ g i) → of_bits w f ≡ of_bits w g
unfolding of_bits
of_bits-same zero f g e = refl
of_bits-same (suc w) f g e =
    let h = of_bits-same w (λ i. f (suc i)) (λ i. g (suc i)) (λ i l. e (suc i) (omega arith)) in
    omega (arith, h, e 0 (omega arith))

pub bit-of_bits : (w : ℕ) (f : ℕ → ℕ) (i : ℕ) → i < w → bit (of_bits w f) i ≡ f i % 2
unfolding of_bits
bit-of_bits zero f i l = absurd (not-suc-le-zero l)
bit-of_bits (suc w) f zero l = bit-zero (of_bits w (λ j. f (suc j)) * 2 + f zero % 2) ∙ digits_mod (of_bits w (λ j. f (suc j))) (mod-lt (f zero) (omega arith))
bit-of_bits (suc w) f (suc i) l =
    bit-suc (of_bits w (λ j. f (suc j)) * 2 + f zero % 2) i
    ∙ ap (λ (n : ℕ). bit n i) (digits_div (of_bits w (λ j. f (suc j))) (mod-lt (f zero) (omega arith)))
    ∙ bit-of_bits w (λ j. f (suc j)) i (omega arith)

-- and, or, exclusive or, complement

module _ (x y i : ℕ) where
  pub bit-and : bit (bit_and x y) i ≡ min (bit x i) (bit y i)
  unfolding bit
  bit-and = ap (λ (n : ℕ). n % 2) (and_shr x y i) ∙ omega (arith, and_step (x / 2 ^ i) (y / 2 ^ i))

  pub bit-or : bit (bit_or x y) i ≡ max (bit x i) (bit y i)
  unfolding bit
  bit-or = ap (λ (n : ℕ). n % 2) (or_shr x y i) ∙ omega (arith, or_step (x / 2 ^ i) (y / 2 ^ i))

differ-sum : (a b : ℕ) → a < 2 → b < 2 → differ a b ≡ (a + b) % 2
differ-sum a b ha hb = by_cases (digit a ha) (digit b hb)
  where
    by_cases : (a ≡ 0) ⊎ (a ≡ 1) → (b ≡ 0) ⊎ (b ≡ 1) → differ a b ≡ (a + b) % 2
    by_cases (inl p) (inl q) = rw (p, q)
    by_cases (inl p) (inr q) = rw (p, q)
    by_cases (inr p) (inl q) = rw (p, q)
    by_cases (inr p) (inr q) = rw (p, q)

pub bit-xor : (x y i : ℕ) → bit (bit_xor x y) i ≡ (bit x i + bit y i) % 2
unfolding bit
bit-xor x y i =
    let a = x / 2 ^ i in
    let b = y / 2 ^ i in
    ap (λ (n : ℕ). n % 2) (xor_shr x y i)
    ∙ omega (arith, xor_step a b, differ-sum (a % 2) (b % 2) (mod-lt a (omega arith)) (mod-lt b (omega arith)))

pub bit_not : (w : ℕ) {x : ℕ} (i : ℕ) → x < 2 ^ w → i < w → bit ((2 ^ w - 1) - x) i ≡ 1 - bit x i
bit_not zero i h l = absurd (not-suc-le-zero l)
bit_not (suc w) {x} zero h l =
    bit-zero ((2 ^ suc w - 1) - x) ∙ omega (arith, pow-suc 2 w, pow_pos w, h, bit-zero x)
bit_not (suc w) {x} (suc i) h l =
    let half : ((2 ^ suc w - 1) - x) / 2 ≡ (2 ^ w - 1) - x / 2 = omega (arith, pow-suc 2 w, pow_pos w, h) in
    bit-suc ((2 ^ suc w - 1) - x) i
    ∙ ap (λ (n : ℕ). bit n i) half
    ∙ bit_not w i (omega (arith, pow-suc 2 w, h)) (omega arith)
    ∙ ap (λ (n : ℕ). 1 - n) (sym (bit-suc x i))

-- words built end to end
pub of_bits-add : (a b : ℕ) (f : ℕ → ℕ) → of_bits (a + b) f ≡ of_bits b (λ i. f (a + i)) * 2 ^ a + of_bits a f
of_bits-add a b f =
    ext (a + b) (of_bits-lt (a + b) f)
    (rw pow-add (omega (arith, mul-le-mul_right (2 ^ a) (of_bits-lt b g), of_bits-lt a f)))
    (λ i l. bit-of_bits (a + b) f i l ∙ sym (same i l (dec_lt i a)))
  where
    g : ℕ → ℕ
    g i = f (a + i)

    same : (i : ℕ) → i < a + b → Dec (i < a) → bit (of_bits b g * 2 ^ a + of_bits a f) i ≡ f i % 2
    same i l (yes h) = bit-cat-low (of_bits b g) a i (of_bits-lt a f) h ∙ bit-of_bits a f i h
    same i l (no n) =
        let e : a + (i - a) ≡ i = omega arith in
        ap (bit (of_bits b g * 2 ^ a + of_bits a f)) (sym e)
        ∙ bit-cat-high (of_bits b g) a (i - a) (of_bits-lt a f)
        ∙ bit-of_bits b g (i - a) (omega arith)
        ∙ ap (λ (j : ℕ). f j % 2) e

pub of_bits-low : (a b : ℕ) (g : ℕ → ℕ) → of_bits (a + b) g % 2 ^ a ≡ of_bits a g
of_bits-low a b g = ap (λ (n : ℕ). n % 2 ^ a) (of_bits-add a b g) ∙ low (of_bits b (λ i. g (a + i))) a (of_bits-lt a g)

-- k ones
pub bit-ones : (k i : ℕ) → i < k → bit (2 ^ k - 1) i ≡ 1
bit-ones k i h =
    let e : 2 ^ k - 1 ≡ (2 ^ k - 1) - 0 = omega arith in
    ap (λ (n : ℕ). bit n i) e ∙ bit_not k {x = 0} i (pow_pos k) h ∙ omega (arith, bit-of-zero i)

pub bit-ones-above : (k i : ℕ) → k ≤ i → bit (2 ^ k - 1) i ≡ 0
bit-ones-above k i h = bit-above i (ones_lt k) h

-- a word with one bit set

pub bit-pow : (s i : ℕ) → bit (2 ^ s) i ≡ cond (eqb i s) 1 0
unfolding bit
bit-pow s i = go (eqb i s) refl
  where
    one : 2 ^ s ≡ 1 * 2 ^ s
    one = sym (one-mul (2 ^ s))

    beside : (i ≡ s → ⊥) → Dec (i < s) → bit (2 ^ s) i ≡ 0
    beside n (yes l) = ap (λ (x : ℕ). bit x i) one ∙ bit-shl-low 1 s i l
    beside n (no g) = let h : suc s ≤ i = omega arith in bit-above {w = suc s} i (pow-lt (omega arith)) h

    go : (b : Bool) → eqb i s ≡ b → bit (2 ^ s) i ≡ cond b 1 0
    go true t =
        ap₂ bit one (eqb-true i s t ∙ sym (add-zero s)) ∙ bit-shl-high 1 s 0
    go false t = beside (eqb-false i s t) (dec_lt i s)

pub bit-pow-own : (j : ℕ) → bit (2 ^ j) j ≡ 1
bit-pow-own j = bit-pow j j ∙ ap (λ (b : Bool). cond b 1 0) (eq-eqb j j refl)

pub bit-pow-only : (j i : ℕ) → bit (2 ^ j) i ≡ 1 → i ≡ j
bit-pow-only j i e = by-test (eqb i j) refl
  where
    by-test : (b : Bool) → eqb i j ≡ b → i ≡ j
    by-test true t = eqb-true i j t
    by-test false t = absurd (omega (arith, sym e ∙ bit-pow j i ∙ ap (λ (c : Bool). cond c 1 0) t))
