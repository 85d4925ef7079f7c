-- Places of a block of 2^n, as words of n bits, top bit first, and tables over them.
-- Assumes nothing.
use Rattle.std.specs.Prelude.{Bool, true, false, cond, ℕ, zero, suc, ◌+◌, ◌%◌, ◌^◌, leb}

-- the top bit says the half: false the lower, true the upper
abbrev pub Place : ℕ → Type 0
Place zero = Unit {0}
Place (suc n) = Bool × Place n

-- what the half adds to the number of a place in it
unfoldable pub weight : Bool → ℕ → ℕ
weight h n = cond h (2 ^ n) 0

unfoldable pub num : (n : ℕ) → Place n → ℕ
num zero p = 0
num (suc n) p = weight p.0 n + num n p.1

unfoldable pub place : (n : ℕ) → ℕ → Place n
place zero x = tt
place (suc n) x = (leb (2 ^ n) x, place n (x % 2 ^ n))

-- a value for each place
abbrev pub Table : Type 0 → ℕ → Type 0
Table A zero = A
Table A (suc n) = Table A n × Table A n

unfoldable pub at : {A : Type 0} (n : ℕ) → Table A n → Place n → A
at zero t p = t
at (suc n) t p = at n (cond p.0 t.1 t.0) p.1

unfoldable pub tab : {A : Type 0} (n : ℕ) → (Place n → A) → Table A n
tab zero f = f tt
tab (suc n) f = (tab n (λ q. f (false, q)), tab n (λ q. f (true, q)))
