-- Controls in registers, two stages a register. Assumes nothing.
use mathlib.Core.Path.{◌≡◌, ◌∙◌, ap}
use mathlib.Core.List.{List, [], ◌∷◌}
use Prim.Native.Nat.{ℕ, zero, suc, ◌+◌, ◌*◌, ◌/◌, ◌%◌, ◌^◌, ◌<◌, ◌≤◌}
use native.Mathlib.Omega.{arith}
use lib.ListN.{length, get_or, drop, drop_of_length-le}
use lib.Seq.{drop-cons}
use Rattle.unit.specs.Bank.{stages_of, packed_of}

-- n elements of a list from element i
abbrev pub elements : List ℕ → ℕ → ℕ → List ℕ
elements xs i zero = []
elements xs i (suc n) = get_or xs i 0 ∷ elements xs (suc i) n

pub all-elements : (xs : List ℕ) (i n : ℕ) → i + n ≡ length xs → drop i xs ≡ elements xs i n
all-elements xs i zero e = let h : length xs ≤ i = omega arith in drop_of_length-le xs h
all-elements xs i (suc n) e =
    drop-cons xs i 0 (omega arith) ∙ ap (λ (ys : List ℕ). get_or xs i 0 ∷ ys) (all-elements xs (suc i) n (omega arith))

-- two stages come back from their register
halves : (a b : ℕ) → a < 2 ^ 32 → ((b * 2 ^ 32 + a) % 2 ^ 32 ≡ a) × ((b * 2 ^ 32 + a) / 2 ^ 32 ≡ b)
halves a b h = omega arith

-- six stages from their three registers
pub stages-packed : (a b c d e f : ℕ) → a < 2 ^ 32 → c < 2 ^ 32 → e < 2 ^ 32
    → stages_of (packed_of (a ∷ b ∷ c ∷ d ∷ e ∷ f ∷ [])) ≡ a ∷ b ∷ c ∷ d ∷ e ∷ f ∷ []
stages-packed a b c d e f p q r =
    let h = halves a b p in
    let i = halves c d q in
    let j = halves e f r in
    rw (h.0, h.1, i.0, i.1, j.0, j.1)
