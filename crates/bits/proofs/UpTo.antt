-- Laws of the list f 0, .., f (n - 1), also as stored in an array, and of a function over a list. Assumes nothing.
use mathlib.Core.Path.{◌≡◌, refl, sym, ◌∙◌, ap, ap₂}
use mathlib.Core.List.{List, [], ◌∷◌, ◌++◌, append_assoc, append-nil, map}
use Prim.Native.Nat.{ℕ, zero, suc, ◌+◌, ◌<◌}
use native.Mathlib.Omega.{arith}
use native.Mathlib.Decide.{dec_lt}
use native.Mathlib.Nat.{not-suc-le-zero}
use lib.ListN.{length, get_or, set, length-append, get_or-append}
use lib.Seq.{get_or_at, take-append_seam, drop-append-add, drop_at, sets, sets-eq}
use Rattle.bits.specs.Bit.{up_to}

module _ (f : ℕ → ℕ) where
  pub length-up_to : (n : ℕ) → length (up_to n f) ≡ n
  unfolding up_to
  length-up_to zero = refl
  length-up_to (suc n) = length-append (up_to n f) (f n ∷ []) ∙ omega (arith, length-up_to n)

  pub get_or-up_to : (n i : ℕ) → i < n → get_or (up_to n f) i 0 ≡ f i
  unfolding up_to
  get_or-up_to zero i h = absurd (not-suc-le-zero h)
  get_or-up_to (suc n) i h = by_cases (dec_lt i n) (get_or-up_to n i)
    where
      by_cases : Dec (i < n) → (i < n → get_or (up_to n f) i 0 ≡ f i) → get_or (up_to n f ++ (f n ∷ [])) i 0 ≡ f i
      by_cases (yes l) ih = get_or-append (up_to n f) (f n ∷ []) 0 i (omega (arith, length-up_to n)) ∙ ih l
      by_cases (no m) ih = let e : i ≡ n = omega arith in rw e (get_or_at (up_to n f) (f n) [] 0 n (length-up_to n))

pub up_to-add : (a b : ℕ) (f : ℕ → ℕ) → up_to (a + b) f ≡ up_to a f ++ up_to b (λ i. f (a + i))
unfolding up_to
up_to-add a zero f = let e : a + zero ≡ a = omega arith in ap (λ (n : ℕ). up_to n f) e ∙ sym (append-nil (up_to a f))
up_to-add a (suc b) f =
    let e : a + suc b ≡ suc (a + b) = omega arith in
    ap (λ (n : ℕ). up_to n f) e
    ∙ ap (λ (l : List ℕ). l ++ (f (a + b) ∷ [])) (up_to-add a b f)
    ∙ append_assoc (up_to a f) (up_to b (λ i. f (a + i))) (f (a + b) ∷ [])

pub up_to-same : (n : ℕ) (f g : ℕ → ℕ) → ((i : ℕ) → i < n → f i ≡ g i) → up_to n f ≡ up_to n g
unfolding up_to
up_to-same zero f g e = refl
up_to-same (suc n) f g e =
    ap₂ (λ (l : List ℕ) (x : ℕ). l ++ (x ∷ [])) (up_to-same n f g (λ i h. e i (omega arith))) (e n (omega arith))

pub map_at : (f : ℕ → ℕ) (xs : List ℕ) (i : ℕ) → i < length xs → get_or (map f xs) i 0 ≡ f (get_or xs i 0)
map_at f [] i h = absurd (not-suc-le-zero h)
map_at f (x ∷ xs) zero h = refl
map_at f (x ∷ xs) (suc i) h = map_at f xs i (omega arith)

-- f 0, f 1, .. stored from index i on, one more
pub sets_more : (f : ℕ → ℕ) (l : List ℕ) (i n : ℕ) {out : List ℕ} {v : ℕ} → out ≡ sets l i (up_to n f) → v ≡ f n → set out (i + n) v ≡ sets l i (up_to (n + 1) f)
unfolding up_to
sets_more f l i n {out} {v} e q =
    let s : n + 1 ≡ suc n = omega arith in
    rw (s, e, q) (ap (λ (k : ℕ). set (sets l i (up_to n f)) (i + k) (f n)) (sym (length-up_to f n)) ∙ sets-snoc (up_to n f) l i (f n))
  where
    sets-snoc : (vs l : List ℕ) (i a : ℕ) → set (sets l i vs) (i + length vs) a ≡ sets l i (vs ++ (a ∷ []))
    sets-snoc [] l i a = let z : i + zero ≡ i = omega arith in ap (λ (k : ℕ). set l k a) z
    sets-snoc (b ∷ vs) l i a =
        let z : i + suc (length vs) ≡ suc i + length vs = omega arith in
        ap (λ (k : ℕ). set (sets (set l i b) (suc i) vs) k a) z ∙ sets-snoc vs (set l i b) (suc i) a

-- stored in place of as many others
pub sets-between : (xs old vs ys : List ℕ) → length old ≡ length vs → sets (xs ++ (old ++ ys)) (length xs) vs ≡ xs ++ vs ++ ys
sets-between xs old vs ys e =
    sets-eq vs (xs ++ (old ++ ys)) (length xs) (omega (arith, e, length-append xs (old ++ ys), length-append old ys))
    ∙ ap₂ (λ (a b : List ℕ). a ++ vs ++ b) (take-append_seam xs (old ++ ys)) (drop-append-add xs (old ++ ys) (length vs) ∙ drop_at old ys (length vs) e)
