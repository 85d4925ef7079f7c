-- Req 10, the remainder that a bank remembers: lists copied and compared byte by byte. Assumes nothing.
use mathlib.Core.Path.{◌≡◌, refl, sym, ◌∙◌, ap, ap₂}
use mathlib.Core.Bool.{Bool, true, false, ◌&&◌, true≢false, and_assoc, and-true}
use mathlib.Core.List.{List, [], ◌∷◌, ◌++◌}
use Prim.Native.Nat.{ℕ, suc, ◌+◌, ◌<◌}
use native.Mathlib.Omega.{arith}
use lib.Dec.{eqb}
use lib.ListN.{length, get_or, set, take, drop, length-take}
use lib.Seq.{drop-cons, set_at, length-take-le, append_snoc, take-suc}
use borrow.Author.Tests.{eq-eqb, eqb-true}
use Rattle.bits.proofs.Refusals.{both}
use Rattle.runs.specs.Run.{same}

-- one byte more of xs at the start of ys
pub start-next : (xs ys : List ℕ) (i : ℕ) → i < length xs → i < length ys → set (take i xs ++ drop i ys) i (get_or xs i 0) ≡ take (i + 1) xs ++ drop (i + 1) ys
start-next xs ys i h l =
    let n : suc i ≡ i + 1 = omega arith in
    ap (λ (zs : List ℕ). set (take i xs ++ zs) i (get_or xs i 0)) (drop-cons ys i 0 l)
    ∙ set_at (take i xs) (get_or ys i 0) (drop (suc i) ys) (get_or xs i 0) i (length-take-le i xs (omega arith))
    ∙ sym (append_snoc (take i xs) (get_or xs i 0) (drop (suc i) ys))
    ∙ ap (λ (zs : List ℕ). zs ++ drop (suc i) ys) (sym (take-suc xs i 0 h))
    ∙ ap (λ (m : ℕ). take m xs ++ drop m ys) n

-- `same` is exact
pub same-eq : (xs ys : List ℕ) → same xs ys ≡ true → xs ≡ ys
unfolding same
same-eq [] [] e = refl
same-eq [] (y ∷ ys) e = absurd (true≢false (sym e))
same-eq (x ∷ xs) [] e = absurd (true≢false (sym e))
same-eq (x ∷ xs) (y ∷ ys) e = let b = both (eqb x y) (same xs ys) e in ap₂ ◌∷◌ (eqb-true x y b.0) (same-eq xs ys b.1)

pub same_refl : (xs : List ℕ) → same xs xs ≡ true
unfolding same
same_refl [] = refl
same_refl (x ∷ xs) = rw (eq-eqb x x refl) (same_refl xs)

-- by the steps of the code: one byte more, and no more bytes
pub same_next : (b : Bool) (x : ℕ) (xs : List ℕ) (y : ℕ) (ys : List ℕ) {t : Bool} → (b && same (take (length (y ∷ ys)) (x ∷ xs)) (y ∷ ys)) ≡ t
    → (b && eqb x y && same (take (length ys) xs) ys) ≡ t
unfolding same
same_next b x xs y ys e = and_assoc b (eqb x y) (same (take (length ys) xs) ys) ∙ e

pub same_end : (b : Bool) (xs ys : List ℕ) {t : Bool} → length ys ≡ 0 → (b && same (take (length ys) xs) ys) ≡ t → b ≡ t
unfolding same
same_end b xs [] z e = sym (and-true b) ∙ e
same_end b xs (y ∷ ys) z e = absurd (omega (arith, z))

-- a longer list than the bank's is not the start of that
pub not_same : (n : ℕ) (xs ys : List ℕ) → length xs < length ys → same (take n xs) ys ≡ false
not_same n xs ys h = by-test (same (take n xs) ys) refl
  where
    by-test : (b : Bool) → same (take n xs) ys ≡ b → b ≡ false
    by-test true e =
        let l = sym (ap length (same-eq (take n xs) ys e)) ∙ length-take n xs in
        absurd (omega (arith, l, h))
    by-test false e = refl
