-- What the routes of the bits ask of the stages of a network.
-- Assumes nothing.
use Rattle.std.specs.Prelude.{◌≡◌, Bool, true, false, not, cond, ◌&&◌, List, ℕ, zero, suc, ◌+◌, ◌-◌, ◌*◌, ◌/◌, ◌%◌, ◌^◌, ◌≤◌, ◌<◌, eqb, length}
use Rattle.std.specs.Int.Bits.{bit_and}
use Rattle.routing.specs.Alone.{every_below}
use Rattle.routing.specs.Lists.{entry, word_of, butterfly_words, inverse_words}

-- Through the butterfly bit b comes to place a. The stage of exponent e chooses bit e of the place, so there it stands at a place with
-- the bits of b below e and those of a above: at this switch, which it passes if bits e are the same.
unfoldable pub crossed : ℕ → ℕ → ℕ → ℕ
crossed e a b = a / 2 ^ suc e * 2 ^ e + b % 2 ^ e

unfoldable pub straight : ℕ → ℕ → ℕ → Bool
straight e a b = eqb (a / 2 ^ e % 2) (b / 2 ^ e % 2)

-- does the route ask its switch to pass (true), to swap (false)?
unfoldable pub asks : Bool → ℕ → ℕ → ℕ → Bool
asks way e a b = cond way (straight e a b) (not (straight e a b))

-- a one at the switch if it does
unfoldable pub asked : Bool → ℕ → ℕ → ℕ → ℕ
asked way e a b = cond (asks way e a b) (2 ^ crossed e a b) 0

-- Route p brings bit `entry sources p` to place `entry places p`. Does none of the first k routes ask this of switch s?
-- So for `true` these are controls: a switch swaps unless it is asked to pass.
unfoldable pub unasked : Bool → List ℕ → List ℕ → ℕ → ℕ → ℕ → Bool
unasked way places sources zero e s = true
unasked way places sources (suc k) e s =
    let a = entry places k in
    let b = entry sources k in
    cond (asks way e a b && eqb s (crossed e a b)) false (unasked way places sources k e s)

-- as a word: a one at each switch that is asked it
abbrev pub asked_word : Bool → ℕ → List ℕ → List ℕ → ℕ → ℕ
asked_word way n places sources e = word_of (2 ^ n / 2) (unasked way places sources (2 ^ n) e)

-- a list names a place below w for each of w routes
pub record Within (w : ℕ) (l : List ℕ) : Type 0 where
  pub long : w ≤ length l
  pub small : (p : ℕ) → p < w → entry l p < w

-- a list names each place below 64, in order
abbrev pub Every : List ℕ → Type 0
Every l = (length l ≡ 64) × ((p : ℕ) → p < 64 → entry l p ≡ p)

-- where the stage of exponent e stands in the direction of travel
abbrev pub stage_at : Bool → ℕ → ℕ → ℕ
stage_at rising n e = cond rising e (n - 1 - e)

-- the switches that are asked both to pass and to swap, at stage i in the direction of travel; is there none?
abbrev pub both : Bool → ℕ → List ℕ → List ℕ → ℕ → ℕ
both rising n places sources i =
    let e = stage_at rising n i in
    bit_and (asked_word true n places sources e) (asked_word false n places sources e)

unfoldable pub agree : Bool → ℕ → List ℕ → List ℕ → Bool
agree rising n places sources = every_below n (λ i. eqb (both rising n places sources i) 0)

-- controls as n stages
unfoldable pub stage_words : Bool → ℕ → (ℕ → ℕ → Bool) → List ℕ
stage_words rising n c = cond rising (inverse_words (2 ^ n / 2) 0 n c) (butterfly_words (2 ^ n / 2) n c)
