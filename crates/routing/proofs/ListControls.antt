-- Permutations as lists: a permutation of 2^n entries gets its first controls.
-- Assumes nothing.
use mathlib.Core.Path.{◌≡◌, refl, sym, ap, ◌∙◌}
use mathlib.Core.Bool.{Bool, true, false, cond}
use mathlib.Core.List.{List, [], ◌∷◌}
use Prim.Native.Nat.{ℕ, zero, suc, ◌^◌, ◌≤◌, ◌<◌}
use native.Mathlib.Decide.{dec_lt}
use native.Mathlib.Omega.{arith}
use lib.Dec.{eqb, ltb}
use lib.ListN.{length, get_or}
use borrow.Author.Tests.{eqb-true, eqb-false, lt-ltb, le-ltb}
use Rattle.routing.specs.FirstControls.{Permutes, IsFirst}
use Rattle.routing.specs.Lists.{find, entry, ListPermutes, controls_of}
use Rattle.routing.proofs.Finite.{Collision, pigeonhole}
use Rattle.routing.proofs.FirstControls.{first-controls}

-- x is found where it stands
pub record Found (x : ℕ) (l : List ℕ) : Type 0 where
  pub small : find x l < length l
  pub holds : get_or l (find x l) 0 ≡ x

find-here : (x y : ℕ) (ys : List ℕ) → eqb x y ≡ true → find x (y ∷ ys) ≡ 0
unfolding find
find-here x y ys t = ap (λ (b : Bool). cond b 0 (suc (find x ys))) t

find-there : (x y : ℕ) (ys : List ℕ) → eqb x y ≡ false → find x (y ∷ ys) ≡ suc (find x ys)
unfolding find
find-there x y ys t = ap (λ (b : Bool). cond b 0 (suc (find x ys))) t

found_at : (x : ℕ) (l : List ℕ) (i : ℕ) → find x l ≡ i → i < length l → get_or l i 0 ≡ x → Found x l
found_at x l i q h e = record { small = omega arith; holds = ap (λ (j : ℕ). get_or l j 0) q ∙ e }

pub find-found : (x : ℕ) (l : List ℕ) (p : ℕ) → p < length l → get_or l p 0 ≡ x → Found x l
find-found x [] p h e = absurd (omega arith)
find-found x (y ∷ ys) p h e = go (eqb x y) refl p h e (find-found x ys)
  where
    go :
        (b : Bool)
        → eqb x y ≡ b
        → (p : ℕ)
        → p < length (y ∷ ys)
        → get_or (y ∷ ys) p 0 ≡ x
        → ((p : ℕ) → p < length ys → get_or ys p 0 ≡ x → Found x ys)
        → Found x (y ∷ ys)
    go true t p h e ih = found_at x (y ∷ ys) 0 (find-here x y ys t) (omega arith) (sym (eqb-true x y t))
    go false t zero h e ih = absurd (eqb-false x y t (sym e))
    go false t (suc p) h e ih =
        let f = ih p (omega arith) e in
        found_at x (y ∷ ys) (suc (find x ys)) (find-there x y ys t) (omega (arith, f.small)) f.holds

module _ (w : ℕ) (entries : List ℕ) (is : ListPermutes w entries) where
  -- the entries, and x after them
  padded : ℕ → ℕ → ℕ
  padded x i = cond (ltb i w) (entry entries i) x

  padded-in : (x i : ℕ) → i < w → padded x i ≡ entry entries i
  unfolding padded
  padded-in x i h = ap (λ (b : Bool). cond b (entry entries i) x) (lt-ltb i w h)

  padded-out : (x i : ℕ) → w ≤ i → padded x i ≡ x
  unfolding padded
  padded-out x i h = ap (λ (b : Bool). cond b (entry entries i) x) (le-ltb i w h)

  -- each number below w is an entry
  entries-cover : (x : ℕ) → x < w → Found x entries
  entries-cover x l = last c (dec_lt c.high w)
    where
      small : (i : ℕ) → i ≤ w → Dec (i < w) → padded x i < w
      small i h (yes k) = rw (padded-in x i k) (is.small i k)
      small i h (no g) = rw (padded-out x i (omega arith)) l

      c : Collision (padded x) w
      c = pigeonhole w (padded x) (λ i h. small i h (dec_lt i w))

      last : (c : Collision (padded x) w) → Dec (c.high < w) → Found x entries
      last c (yes k) =
          let h : c.low < w = omega (arith, c.ordered) in
          let e = is.once c.low c.high h k (sym (padded-in x c.low h) ∙ c.same ∙ padded-in x c.high k) in
          absurd (omega (arith, c.ordered))
      last c (no g) =
          let h : c.low < w = omega (arith, c.ordered, c.within) in
          find-found x entries c.low (omega (arith, is.long))
          (sym (padded-in x c.low h) ∙ c.same ∙ padded-out x c.high (omega arith))

  pub list-permutes : Permutes w (entry entries) (λ x. find x entries)
  list-permutes =
      record {
        to-small = is.small;
        from-small = λ x l. omega (arith, (entries-cover x l).small, is.long);
        to-from = λ x l. (entries-cover x l).holds;
        from-to = λ p l.
            let f = entries-cover (entry entries p) (is.small p l) in
            is.once (find (entry entries p) entries) p (omega (arith, f.small, is.long)) l f.holds;
      }

-- a permutation gets the first controls that bring each bit to the place whose entry names it
pub list-first : (n : ℕ) (entries : List ℕ) → ListPermutes (2 ^ n) entries → IsFirst n (controls_of n entries) (entry entries)
unfolding controls_of
list-first n entries is =
    first-controls n (entry entries) (λ x. find x entries) (list-permutes (2 ^ n) entries is)
