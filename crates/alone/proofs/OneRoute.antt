-- What the code's steps come to: the switch of a route, and one route more of a stage.
-- Assumes nothing.
use mathlib.Core.Path.{◌≡◌, refl, sym, ap, ap₂, ◌∙◌}
use mathlib.Core.Bool.{Bool, true, false, not, cond}
use mathlib.Core.List.{List}
use Prim.Native.Nat.{ℕ, zero, suc, ◌+◌, ◌-◌, ◌*◌, ◌/◌, ◌%◌, ◌^◌, ◌≤◌, ◌<◌}
use native.Mathlib.Nat.{pow-suc, pow-succ', mul-le-mul_right, mod-lt, one-mul, mod-eq_of_lt, div-lt_iff_lt-mul, div-add-mod', div-div-eq-div-mul}
use native.Mathlib.Numerals.{add-one}
use native.Mathlib.Omega.{arith}
use lib.Bits.{bit_or, bit_xor, or_zero_r}
use lib.Pow.{pow_pos, pow-lt, pow-add}
use borrow.Author.Tests.{eq-eqb, ne_eqb}
use Rattle.bits.specs.Bit.{bit}
use Rattle.bits.proofs.Word.{bit-xor}
use Rattle.routing.specs.Loop.{swap}
use Rattle.routing.specs.Lists.{entry, word_of}
use Rattle.alone.specs.Asked.{crossed, straight, asks, asked, unasked, Within}
use Rattle.alone.proofs.AskedWords.{asked-turn}

-- the places are blocks of twice the distance
blocks : (n e : ℕ) → e < n → 2 ^ n ≡ 2 ^ (n - suc e) * 2 ^ suc e
blocks n e h = let q : n ≡ n - suc e + suc e = omega arith in ap (λ (m : ℕ). 2 ^ m) q ∙ pow-add 2 (n - suc e) (suc e)

pub crossed-lt : (n e a b : ℕ) → e < n → a < 2 ^ n → crossed e a b < 2 ^ n / 2
unfolding crossed
crossed-lt n e a b h l =
    let k = 2 ^ (n - suc e) in
    let j : a / 2 ^ suc e < k = (div-lt_iff_lt-mul {k = 2 ^ suc e} (pow_pos (suc e))).1 (omega (arith, blocks n e h)) in
    let w : 2 ^ n ≡ k * 2 ^ e * 2 = blocks n e h ∙ rw pow-suc (omega arith) in
    omega (arith, mul-le-mul_right (2 ^ e) j, mod-lt b (pow_pos e))

-- the distance as the code has it
abbrev distance : ℕ → ℕ
distance e = 1 * 2 ^ e % 2 ^ 32

-- half the place without its lowest bits, and the source's in their stead
abbrev mixed : ℕ → ℕ → ℕ → ℕ
mixed e a b = a / 2 ^ 1 - a / 2 ^ 1 % distance e + b % distance e

module _ (e : ℕ) (h : e < 6) where
  distance_is : distance e ≡ 2 ^ e
  distance_is = let l : e < 32 = omega arith in rw one-mul (mod-eq_of_lt (pow-lt l))

  pub distance-pos : 0 < distance e
  distance-pos = omega (arith, distance_is, pow_pos e)

  pub switch-is : (a b : ℕ) → a < 64 → (a / 2 ^ 1 % distance e ≤ a / 2 ^ 1) × (mixed e a b < 32) × (mixed e a b ≡ crossed e a b)
  unfolding crossed
  switch-is a b l =
      let x = a / 2 ^ 1 in
      let whole = div-add-mod' x (2 ^ e) in
      let high : x / 2 ^ e ≡ a / 2 ^ suc e = div-div-eq-div-mul a 2 (2 ^ e) ∙ ap (λ (d : ℕ). a / d) (sym (pow-succ' 2 e)) in
      let q : mixed e a b ≡ crossed e a b =
      rw distance_is (ap (λ (y : ℕ). y + b % 2 ^ e) (omega (arith, whole, ap (λ (y : ℕ). y * 2 ^ e) high)))
      in
      (omega (arith, whole, ap (λ (d : ℕ). x % d) distance_is), omega (arith, q, crossed-lt 6 e a b h l), q)

-- a route asks its switch to pass if bits e are the same, or else to swap
module _ (e a b : ℕ) {s : ℕ} (f : (s < 32) × (s ≡ crossed e a b)) where
  abbrev switch : ℕ
  switch = 1 * 2 ^ s % 2 ^ 32

  switch-bit : switch ≡ 2 ^ crossed e a b
  switch-bit = rw one-mul (mod-eq_of_lt (pow-lt f.0)) ∙ ap (λ (i : ℕ). 2 ^ i) f.1

  unequal : bit_xor a b / 2 ^ e % 2 ≡ (a / 2 ^ e % 2 + b / 2 ^ e % 2) % 2
  unfolding bit
  unequal = bit-xor a b e

  by_way : (way t : Bool) → straight e a b ≡ t → asked way e a b ≡ cond (cond way t (not t)) switch 0
  unfolding asked asks
  by_way way t q = ap₂ (λ (u : Bool) (x : ℕ). cond (cond way u (not u)) x 0) q (sym switch-bit)

  module _ (x y : ℕ) where
    abbrev Adds : ℕ → ℕ → Type 0
    Adds p q = (p ≡ bit_or x (asked true e a b)) × (q ≡ bit_or y (asked false e a b))

    pub route-passes : bit_xor a b / 2 ^ e % 2 ≡ 0 → Adds (bit_or x switch) y
    unfolding straight
    route-passes t =
        let q = eq-eqb (a / 2 ^ e % 2) (b / 2 ^ e % 2) (omega (arith, unequal)) in
        (ap (bit_or x) (sym (by_way true true q)), sym (ap (bit_or y) (by_way false true q) ∙ or_zero_r y))

    pub route-swaps : (bit_xor a b / 2 ^ e % 2 ≡ 0 → ⊥) → Adds x (bit_or y switch)
    unfolding straight
    route-swaps t =
        let q = ne_eqb (a / 2 ^ e % 2) (b / 2 ^ e % 2) (λ u. t (unequal ∙ omega arith)) in
        (sym (ap (bit_or x) (by_way true false q) ∙ or_zero_r x), ap (bit_or y) (sym (by_way false false q)))

-- one route more of a stage
word_none : (w : ℕ) → word_of w (λ s. swap) ≡ 0
unfolding word_of
word_none zero = refl
word_none (suc w) = omega (arith, word_none w)

pub none-asked : (way : Bool) (places sources : List ℕ) (w e : ℕ) → 0 ≡ word_of w (unasked way places sources 0 e)
unfolding unasked
none-asked way places sources w e = sym (word_none w)

pub stage-turn :
    (way : Bool) (n : ℕ) (places sources : List ℕ)
    → Within (2 ^ n) places
    → (p e : ℕ) {x y : ℕ}
    → p < 2 ^ n
    → e < n
    → x ≡ word_of (2 ^ n / 2) (unasked way places sources p e)
    → y ≡ bit_or x (asked way e (entry places p) (entry sources p))
    → y ≡ word_of (2 ^ n / 2) (unasked way places sources (p + 1) e)
unfolding unasked
stage-turn way n places sources is p e l h f g =
    let a = entry places p in
    let b = entry sources p in
    g ∙ rw (f, add-one p) (asked-turn way (2 ^ n / 2) e a b (unasked way places sources p e) (crossed-lt n e a b h (is.small p l)))
