-- Laws of the marked places, of picking the bits at listed places, and of putting bits there. Assumes nothing.
use mathlib.Core.Path.{◌≡◌, refl, sym, ◌∙◌, ap, ap₂}
use mathlib.Core.Logic.{◌⊎◌, inl, inr}
use mathlib.Core.Bool.{Bool, cond}
use mathlib.Core.List.{List, [], ◌∷◌, ◌++◌, append-nil}
use Prim.Native.Nat.{ℕ, zero, suc, ◌+◌, ◌-◌, ◌*◌, ◌/◌, ◌%◌, ◌^◌, ◌<◌, ◌≤◌, min}
use native.Mathlib.Omega.{arith}
use native.Mathlib.Decide.{dec_lt, ℕ_discrete}
use native.Mathlib.Nat.{not-suc-le-zero, pow-suc, pow-succ', div-one, div-div-eq-div-mul, mod-eq_of_lt, mul-le-mul_right, add-zero, zero-add, zero-mul, zero-min}
use lib.Dec.{eqb}
use borrow.Author.Tests.{eq-eqb, ne_eqb}
use lib.ListN.{length, get_or, length-append, get_or-append}
use lib.Seq.{get_or-append_seam, get_or_at}
use Rattle.bits.specs.Bit.{bit, rank, of_bits, places, marked, unmarked, pick, put}
use Rattle.bits.proofs.Word.{bit-lt, bit-cases, bit-zero, bit-shr, bit-mod-two, bit-of_bits, bit_not, bit-above, bit-cat-low, bit-cat-high, of_bits-lt}
use Rattle.bits.proofs.Rank.{rank_lt}

-- one place more: it joins the list, or not

module _ (v m w : ℕ) where
  pub places-in : bit m w ≡ v → places v m (suc w) ≡ places v m w ++ (w ∷ [])
  unfolding places
  places-in e = ap (λ (b : Bool). places v m w ++ cond b (w ∷ []) []) (eq-eqb (bit m w) v e)

  pub places-out : (bit m w ≡ v → ⊥) → places v m (suc w) ≡ places v m w
  unfolding places
  places-out e = ap (λ (b : Bool). places v m w ++ cond b (w ∷ []) []) (ne_eqb (bit m w) v e) ∙ append-nil (places v m w)

-- what holds of each entry and of one more holds of the longer list
pub snoc-at : (Q : ℕ → ℕ → Type 0) (ps : List ℕ) (w : ℕ) → ((j : ℕ) → j < length ps → Q j (get_or ps j 0)) → Q (length ps) w
    → (j : ℕ) → j < length (ps ++ (w ∷ [])) → Q j (get_or (ps ++ (w ∷ [])) j 0)
snoc-at Q ps w each last j h = by_cases (dec_lt j (length ps))
  where
    by_cases : Dec (j < length ps) → Q j (get_or (ps ++ (w ∷ [])) j 0)
    by_cases (yes l) = rw (get_or-append ps (w ∷ []) 0 j l) (each j l)
    by_cases (no n) =
        let q : length ps ≡ j = omega (arith, length-append ps (w ∷ [])) in
        rw (get_or_at ps w [] 0 j q) (rw q at last)

module _ (v m : ℕ) where
  -- places below w that have the bit v, in rising order
  pub record Rise (w : ℕ) (ps : List ℕ) : Type 0 where
    pub below : (j : ℕ) → j < length ps → get_or ps j 0 < w
    pub has : (j : ℕ) → j < length ps → bit m (get_or ps j 0) ≡ v
    pub rise : (i j : ℕ) → i < j → j < length ps → get_or ps i 0 < get_or ps j 0

  rise-more : (w : ℕ) (ps : List ℕ) → bit m w ≡ v → Rise w ps → Rise (suc w) (ps ++ (w ∷ []))
  rise-more w ps e r =
      record {
        below = snoc-at (λ j x. x < suc w) ps w (λ j l. omega (arith, r.below j l)) (omega arith);
        has = snoc-at (λ j x. bit m x ≡ v) ps w r.has e;
        rise = λ i j l h.
            snoc-at (λ j x. i < j → get_or (ps ++ (w ∷ [])) i 0 < x) ps w
            (λ j h k. rw (get_or-append ps (w ∷ []) 0 i (omega arith)) (r.rise i j k h))
            (λ k. rw (get_or-append ps (w ∷ []) 0 i k) (r.below i k)) j h l;
      }

  pub places-rise : (w : ℕ) → Rise w (places v m w)
  unfolding places
  places-rise zero = record { below = λ j h. absurd (not-suc-le-zero h); has = λ j h. absurd (not-suc-le-zero h); rise = λ i j l h. absurd (not-suc-le-zero h) }
  places-rise (suc w) = by_cases (ℕ_discrete (bit m w) v) (places-rise w)
    where
      by_cases : Dec (bit m w ≡ v) → Rise w (places v m w) → Rise (suc w) (places v m (suc w))
      by_cases (yes e) r = rw (places-in v m w e) (rise-more w (places v m w) e r)
      by_cases (no n) r =
          rw (places-out v m w n) (record { below = λ j h. omega (arith, r.below j h); has = r.has; rise = r.rise })

  -- the list grows, at each place that has the bit
  pub places-grow : (p w : ℕ) → p ≤ w → length (places v m p) ≤ length (places v m w)
  places-grow p zero h = let e : p ≡ zero = omega arith in rw e (omega arith)
  places-grow p (suc w) h = by_cases (dec_lt w p) (ℕ_discrete (bit m w) v) (places-grow p w)
    where
      by_cases : Dec (w < p) → Dec (bit m w ≡ v) → (p ≤ w → length (places v m p) ≤ length (places v m w))
          → length (places v m p) ≤ length (places v m (suc w))
      by_cases (yes l) c ih = let e : p ≡ suc w = omega arith in rw e (omega arith)
      by_cases (no n) (yes e) ih = rw (places-in v m w e) (omega (arith, length-append (places v m w) (w ∷ []), ih (omega arith)))
      by_cases (no n) (no d) ih = rw (places-out v m w d) (ih (omega arith))

  pub places-before : (p w : ℕ) → p < w → bit m p ≡ v → length (places v m p) < length (places v m w)
  places-before p w h b =
      omega (arith, ap length (places-in v m p b), length-append (places v m p) (p ∷ []), places-grow (suc p) w h)

-- each place is marked or unmarked
pub places-all : (m w : ℕ) → length (marked m w) + length (unmarked m w) ≡ w
unfolding places
places-all m zero = refl
places-all m (suc w) = by_cases (bit-cases m w) (places-all m w)
  where
    by_cases : (bit m w ≡ 0) ⊎ (bit m w ≡ 1) → length (marked m w) + length (unmarked m w) ≡ w
        → length (marked m (suc w)) + length (unmarked m (suc w)) ≡ suc w
    by_cases (inl e) ih = rw (places-out 1 m w (λ q. omega arith), places-in 0 m w e, length-append (unmarked m w) (w ∷ [])) (omega arith)
    by_cases (inr e) ih = rw (places-in 1 m w e, places-out 0 m w (λ q. omega arith), length-append (marked m w) (w ∷ [])) (omega arith)

pub length-all : (m w : ℕ) → length (marked m w ++ unmarked m w) ≡ w
length-all m w = length-append (marked m w) (unmarked m w) ∙ places-all m w

pub marked-one : (m w : ℕ) → bit m w ≡ 1 → marked m (suc w) ≡ marked m w ++ (w ∷ [])
marked-one m w e = places-in 1 m w e

pub marked-zero : (m w : ℕ) → bit m w ≡ 0 → marked m (suc w) ≡ marked m w
marked-zero m w e = places-out 1 m w (λ q. omega arith)

pub length_marked : (m w : ℕ) → length (marked m w) ≡ rank m w
unfolding places rank
length_marked m zero = refl
length_marked m (suc w) = by_cases (bit-cases m w) (length_marked m w)
  where
    by_cases : (bit m w ≡ 0) ⊎ (bit m w ≡ 1) → length (marked m w) ≡ rank m w → length (marked m (suc w)) ≡ rank m w + bit m w
    by_cases (inl e) ih = rw (marked-zero m w e, ih) (omega arith)
    by_cases (inr e) ih = rw (marked-one m w e, length-append (marked m w) (w ∷ []), ih, e)

-- the marked place of rank i is number i of the list
pub marked-at : (m w p : ℕ) → p < w → bit m p ≡ 1 → get_or (marked m w) (rank m p) 0 ≡ p
marked-at m zero p h b = absurd (not-suc-le-zero h)
marked-at m (suc w) p h b = by_cases (dec_lt p w) (bit-cases m w) (marked-at m w p)
  where
    by_cases : Dec (p < w) → (bit m w ≡ 0) ⊎ (bit m w ≡ 1) → (p < w → bit m p ≡ 1 → get_or (marked m w) (rank m p) 0 ≡ p)
        → get_or (marked m (suc w)) (rank m p) 0 ≡ p
    by_cases (yes l) (inl e) ih = rw (marked-zero m w e) (ih l b)
    by_cases (yes l) (inr e) ih =
        let r : rank m p < length (marked m w) = omega (arith, length_marked m w, rank_lt m b l) in
        rw (marked-one m w e, get_or-append (marked m w) (w ∷ []) 0 (rank m p) r) (ih l b)
    by_cases (no n) c ih =
        let q : p ≡ w = omega arith in
        rw (marked-one m w (rw q at b), q, ← (length_marked m w), get_or-append_seam (marked m w) w [] 0)

-- picking

module _ (x : ℕ) where
  pub pick-lt : (ps : List ℕ) → pick ps x < 2 ^ length ps
  unfolding pick
  pick-lt ps = of_bits-lt (length ps) (λ i. bit x (get_or ps i 0))

  pub bit-pick : (ps : List ℕ) (i : ℕ) → i < length ps → bit (pick ps x) i ≡ bit x (get_or ps i 0)
  unfolding pick
  bit-pick ps i h = bit-of_bits (length ps) (λ j. bit x (get_or ps j 0)) i h ∙ bit-mod-two x (get_or ps i 0)

  pub bit-pick-above : (ps : List ℕ) (i : ℕ) → length ps ≤ i → bit (pick ps x) i ≡ 0
  bit-pick-above ps i h = bit-above i (pick-lt ps) h

  pick-nil : pick [] x ≡ 0
  unfolding pick of_bits
  pick-nil = refl

  pick-cons : (p : ℕ) (ps : List ℕ) → pick (p ∷ ps) x ≡ pick ps x * 2 + bit x p
  unfolding pick of_bits
  pick-cons p ps = ap (λ (b : ℕ). pick ps x * 2 + b) (bit-mod-two x p)

  pub pick-append : (ps qs : List ℕ) → pick (ps ++ qs) x ≡ pick qs x * 2 ^ length ps + pick ps x
  pick-append [] qs = omega (arith, pick-nil)
  pick-append (p ∷ ps) qs =
      omega (
        arith,
        pick-cons p (ps ++ qs),
        pick-cons p ps,
        pick-append ps qs,
        ap (λ (n : ℕ). pick qs x * n) (pow-suc 2 (length ps)),
      )

-- one place more: the bit of x there, above those picked, if the place is marked
pub pick-marked-suc : (m w x : ℕ) → pick (marked m (suc w)) x ≡ min (bit m w) (bit x w) * 2 ^ rank m w + pick (marked m w) x
pick-marked-suc m w x = by_cases (bit-cases m w)
  where
    by_cases : (bit m w ≡ 0) ⊎ (bit m w ≡ 1)
        → pick (marked m (suc w)) x ≡ min (bit m w) (bit x w) * 2 ^ rank m w + pick (marked m w) x
    by_cases (inl e) = rw (marked-zero m w e, e, zero-min, zero-mul, zero-add)
    by_cases (inr e) =
        let one : pick (w ∷ []) x ≡ min (bit m w) (bit x w) = omega (arith, pick-cons x w [], pick-nil x, bit-lt x w) in
        rw (marked-one m w e, pick-append x (marked m w) (w ∷ []), one, length_marked m w)

pub pick-marked-lt : (m w x : ℕ) → pick (marked m w) x < 2 ^ rank m w
pick-marked-lt m w x = rw (length_marked m w) at (pick-lt x (marked m w))

-- putting

pub put-append : (ps qs : List ℕ) (x : ℕ) → put (ps ++ qs) x ≡ put ps x + put qs (x / 2 ^ length ps)
unfolding put
put-append [] qs x = ap (put qs) (sym (div-one x)) ∙ sym (zero-add (put qs (x / 1)))
put-append (p ∷ ps) qs x =
    let e : x / 2 / 2 ^ length ps ≡ x / 2 ^ suc (length ps) = rw (pow-succ', div-div-eq-div-mul) in
    omega (arith, put-append ps qs (x / 2), ap (put qs) e)

-- one place more: the next bit of x if the place is marked
pub put-marked-suc : (m w x : ℕ) → put (marked m (suc w)) x ≡ min (bit m w) (bit x (rank m w)) * 2 ^ w + put (marked m w) x
unfolding put
put-marked-suc m w x = by_cases (bit-cases m w)
  where
    by_cases : (bit m w ≡ 0) ⊎ (bit m w ≡ 1)
        → put (marked m (suc w)) x ≡ min (bit m w) (bit x (rank m w)) * 2 ^ w + put (marked m w) x
    by_cases (inl e) = rw (marked-zero m w e, e, zero-min, zero-mul, zero-add)
    by_cases (inr e) =
        let r : bit (x / 2 ^ length (marked m w)) 0 ≡ bit x (rank m w) =
        bit-shr x (length (marked m w)) 0 ∙ ap (bit x) (omega (arith, length_marked m w))
        in
        let l : min (bit m w) (bit x (rank m w)) ≡ bit x (rank m w) = omega (arith, bit-lt x (rank m w)) in
        rw (marked-one m w e, put-append (marked m w) (w ∷ []) x, l) (omega (arith, ap (λ (b : ℕ). b * 2 ^ w) r))

pub put-marked-lt : (m w x : ℕ) → put (marked m w) x < 2 ^ w
put-marked-lt m zero x = unfold places put in omega arith
put-marked-lt m (suc w) x =
    let l : min (bit m w) (bit x (rank m w)) ≤ 1 = omega (arith, bit-lt m w) in
    omega (arith, put-marked-suc m w x, put-marked-lt m w x, pow-suc 2 w, mul-le-mul_right (2 ^ w) l)

pub bit-put-marked : (m w x p : ℕ) → p < w → bit (put (marked m w) x) p ≡ min (bit m p) (bit x (rank m p))
bit-put-marked m zero x p h = absurd (not-suc-le-zero h)
bit-put-marked m (suc w) x p h = by_cases (dec_lt p w) (bit-put-marked m w x p)
  where
    low : p < w → bit (put (marked m (suc w)) x) p ≡ bit (put (marked m w) x) p
    low l = rw (put-marked-suc m w x) (bit-cat-low _ w p (put-marked-lt m w x) l)

    top : bit (put (marked m (suc w)) x) (w + 0) ≡ bit (min (bit m w) (bit x (rank m w))) 0
    top = rw (put-marked-suc m w x) (bit-cat-high _ w 0 (put-marked-lt m w x))

    by_cases : Dec (p < w) → (p < w → bit (put (marked m w) x) p ≡ min (bit m p) (bit x (rank m p)))
        → bit (put (marked m (suc w)) x) p ≡ min (bit m p) (bit x (rank m p))
    by_cases (yes l) ih = low l ∙ ih l
    by_cases (no n) ih =
        let q : p ≡ w = omega arith in
        let d : min (bit m w) (bit x (rank m w)) % 2 ≡ min (bit m w) (bit x (rank m w)) = mod-eq_of_lt (omega (arith, bit-lt m w)) in
        rw q (ap (bit (put (marked m (suc w)) x)) (sym (add-zero w)) ∙ top ∙ bit-zero _ ∙ d)

-- the unmarked places are the marked ones of the complement
pub unmarked-not : (w : ℕ) {m : ℕ} → m < 2 ^ w → (n : ℕ) → n ≤ w → unmarked m n ≡ marked ((2 ^ w - 1) - m) n
unfolding places
unmarked-not w {m} h zero l = refl
unmarked-not w {m} h (suc n) l =
    ap₂ (λ (ps : List ℕ) (b : Bool). ps ++ cond b (n ∷ []) []) (unmarked-not w h n (omega arith)) (by_cases (bit-cases m n))
  where
    by_cases : (bit m n ≡ 0) ⊎ (bit m n ≡ 1) → eqb (bit m n) 0 ≡ eqb (bit ((2 ^ w - 1) - m) n) 1
    by_cases (inl e) = rw (bit_not w n h l, e)
    by_cases (inr e) = rw (bit_not w n h l, e)
