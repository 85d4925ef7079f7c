-- Arrays filled from the front, most of them of six stages. Assumes nothing.
use mathlib.Core.Path.{◌≡◌, sym, ◌∙◌, ap}
use mathlib.Core.List.{List, [], ◌∷◌, ◌++◌, append_assoc, append-nil, reverse, reverse-cons}
use Prim.Native.Nat.{ℕ, suc, ◌+◌, ◌-◌, ◌<◌, ◌≤◌}
use native.Mathlib.Omega.{arith}
use native.Mathlib.Decide.{dec_lt}
use native.Mathlib.Nat.{not-suc-le-zero}
use native.Mathlib.Numerals.{add-one}
use lib.ListN.{length, get_or, take, set, replicate, length-reverse, get_or-append}
use lib.Seq.{take-suc, take-length, take_all, set_at, get_or_at, get_or-take, length-take-le}
use Rattle.network.specs.Calls.{six}

-- an array of n words filled with the first i of the list cs, and a behind them
abbrev pub filled_to : ℕ → ℕ → ℕ → List ℕ → List ℕ
filled_to n a i cs = take i cs ++ replicate (n - i) a

pub fill_more : (n a : ℕ) (cs : List ℕ) (i : ℕ) {out : List ℕ} {v : ℕ} → i < n → i < length cs → out ≡ filled_to n a i cs → v ≡ get_or cs i 0
    → set out i v ≡ filled_to n a (i + 1) cs
fill_more n a cs i {out} {v} h l e f =
    let m : n - i ≡ suc (n - suc i) = omega arith in
    ap (λ (o : List ℕ). set o i v) (e ∙ ap (λ (k : ℕ). take i cs ++ replicate k a) m)
    ∙ set_at (take i cs) a (replicate (n - suc i) a) v i (length-take-le i cs (omega arith))
    ∙ rw (add-one i, take-suc cs i 0, ← f, append_assoc)

abbrev pub filled : ℕ → ℕ → List ℕ → List ℕ
filled a i cs = filled_to 6 a i cs

pub fill-turn : (a : ℕ) (cs : List ℕ) (i : ℕ) {out : List ℕ} {v : ℕ} → i < 6 → i < length cs → out ≡ filled a i cs → v ≡ get_or cs i 0
    → set out i v ≡ filled a (i + 1) cs
fill-turn a cs i h l e f = fill_more 6 a cs i h l e f

pub fill_end : (cs : List ℕ) (i : ℕ) → i ≡ length cs → filled 0 i cs ≡ six cs
fill_end cs i e = rw (e, take-length)

pub fill-whole : (a : ℕ) (cs : List ℕ) (i : ℕ) → i ≡ 6 → length cs ≡ 6 → filled a i cs ≡ cs
fill-whole a cs i e l = rw (e, take_all 6 cs (omega arith)) (append-nil cs)

pub reverse-at : (xs : List ℕ) (i : ℕ) → i < length xs → get_or (reverse xs) i 0 ≡ get_or xs (length xs - 1 - i) 0
reverse-at [] i h = absurd (not-suc-le-zero h)
reverse-at (x ∷ xs) i h = ap (λ (l : List ℕ). get_or l i 0) (reverse-cons x xs) ∙ by_cases (dec_lt i (length xs)) (reverse-at xs i)
  where
    by_cases : Dec (i < length xs) → (i < length xs → get_or (reverse xs) i 0 ≡ get_or xs (length xs - 1 - i) 0)
        → get_or (reverse xs ++ (x ∷ [])) i 0 ≡ get_or (x ∷ xs) (suc (length xs) - 1 - i) 0
    by_cases (yes l) ih =
        let e : suc (length xs - 1 - i) ≡ suc (length xs) - 1 - i = omega arith in
        get_or-append (reverse xs) (x ∷ []) 0 i (omega (arith, length-reverse xs))
        ∙ ih l ∙ ap (λ (n : ℕ). get_or (x ∷ xs) n 0) e
    by_cases (no n) ih =
        let e : 0 ≡ suc (length xs) - 1 - i = omega arith in
        get_or_at (reverse xs) x [] 0 i (length-reverse xs ∙ omega arith) ∙ ap (λ (k : ℕ). get_or (x ∷ xs) k 0) e

-- the first L of a list, reversed
module _ (xs : List ℕ) (L : ℕ) (h : L ≤ length xs) where
  pub length-reversed : length (reverse (take L xs)) ≡ L
  length-reversed = length-reverse (take L xs) ∙ length-take-le L xs h

  pub reversed-at : (i : ℕ) → i < L → get_or xs (L - 1 - i) 0 ≡ get_or (reverse (take L xs)) i 0
  reversed-at i l =
      let n = length-take-le L xs h in
      sym (reverse-at (take L xs) i (omega (arith, n))
      ∙ ap (λ (k : ℕ). get_or (take L xs) (k - 1 - i) 0) n
      ∙ get_or-take L xs (L - 1 - i) 0 (omega arith))
