-- Laws of a window of three by three pixels that moves on along a row: one column, and many of them end to end. Assumes nothing.
use mathlib.Core.Path.{◌≡◌, refl, sym, ◌∙◌, ap, ap₂}
use mathlib.Core.Bool.{Bool, true, false, cond, ◌&&◌}
use mathlib.Core.List.{List}
use Prim.Native.Nat.{ℕ, zero, suc, ◌+◌, ◌-◌, ◌*◌, ◌/◌, ◌%◌, ◌^◌, ◌<◌, ◌≤◌, min, max}
use native.Mathlib.Omega.{arith}
use native.Mathlib.Nat.{mod-eq_of_lt, mul-le-mul_right}
use lib.Pow.{pow_pos, pow-add, pow_mono, shr-shr}
use native.Mathlib.Decide.{ℕ_discrete}
use lib.Dec.{eqb, ltb}
use lib.Bits.{bit_and, bit_or, and_le_r, or_shifted, or_lt}
use borrow.Author.Tests.{eqb-true, eq-eqb, ne_eqb}
use Rattle.bits.specs.Bit.{bit, of_bits, up_to, rank}
use Rattle.bits.proofs.Computed.{every, every-at, entries}
use Rattle.bits.proofs.Word.{ext, bit-lt, bit-zero, bit-shl-below, bit-shl-from, bit-shr, bit-and, bit-or, bit-of_bits, of_bits-lt, of_bits-same, of_bits-add}
use Rattle.despeckle.specs.Plane.{window, lit_rule}
use Rattle.despeckle.specs.Window.{IsTable, column_of, Slides, Columns, Passes}

-- three numbers of at most three bits end to end
pub three-joined : {a o b : ℕ} → a < 8 → o < 8 → b < 8 → bit_or (bit_or (a * 2 ^ 6 % 2 ^ 64) (o * 2 ^ 3 % 2 ^ 64)) b ≡ a * 2 ^ 6 + (o * 2 ^ 3 + b)
three-joined {a} {o} {b} ha ho hb =
    let p : a * 2 ^ 6 % 2 ^ 64 ≡ a * 2 ^ 6 = mod-eq_of_lt (omega (arith, ha)) in
    let q : o * 2 ^ 3 % 2 ^ 64 ≡ o * 2 ^ 3 = mod-eq_of_lt (omega (arith, ho)) in
    let e : a * 2 ^ 6 + o * 2 ^ 3 ≡ (a * 8 + o) * 2 ^ 3 = omega arith in
    ap₂ (λ (m n : ℕ). bit_or (bit_or m n) b) p q
    ∙ ap (λ (m : ℕ). bit_or m b) (or_shifted a 6 (o * 2 ^ 3) (omega (arith, ho)) ∙ e)
    ∙ or_shifted (a * 8 + o) 3 b hb
    ∙ omega arith

-- the first two pixels of three rows end to end make a window's number
pub first-lt : (a o b : ℕ) → a < 2 ^ 64 → o < 2 ^ 64 → b < 2 ^ 64 → bit_or (bit_or (a / 2 ^ 62 * 2 ^ 6 % 2 ^ 64) (o / 2 ^ 62 * 2 ^ 3 % 2 ^ 64)) (b / 2 ^ 62) < 2 ^ 9
first-lt a o b ha ho hb =
    let q = three-joined {a = a / 2 ^ 62} {o = o / 2 ^ 62} {b = b / 2 ^ 62} (omega (arith, ha)) (omega (arith, ho)) (omega (arith, hb)) in
    omega (arith, q, ha, ho, hb)

pub column-joined : (a o b : ℕ) → bit_or (bit_or (a % 2 * 2 ^ 6 % 2 ^ 64) (o % 2 * 2 ^ 3 % 2 ^ 64)) (b % 2) ≡ column_of a o b
column-joined a o b = three-joined (omega arith) (omega arith) (omega arith)

-- a window by its bits

pub window-lt : (g : ℕ → ℕ → ℕ) (y x : ℕ) → window g y x < 2 ^ 9
unfolding window
window-lt g y x = of_bits-lt 9 _

pub bit-window : (g : ℕ → ℕ → ℕ) (y x i : ℕ) → i < 9 → bit (window g y x) i ≡ g (y + 2 - i / 3) (x + 2 - i % 3) % 2
unfolding window
bit-window g y x i h = bit-of_bits 9 _ i h

-- a window's last two columns, one place to the left

kept_two : ℕ → Bool
kept_two j = eqb (bit 219 j) (cond (eqb (suc j % 3) 0) 0 1)

kept-two : every 8 kept_two ≡ true
unfolding every kept_two bit
kept-two = refl

shifted_at : (n i : ℕ) → i < 9 → bit (bit_and n 219 * 2 ^ 1 % 2 ^ 64) i ≡ cond (eqb (i % 3) 0) 0 (bit n (i - 1))
unfolding kept_two
shifted_at n zero h = bit-shl-below (bit_and n 219) 1 {w = 64} 0 (omega arith) (omega arith)
shifted_at n (suc j) h =
    let e : j ≡ suc j - 1 = omega arith in
    bit-shl-from (bit_and n 219) 1 {w = 64} (suc j) j (omega arith) (omega arith)
    ∙ bit-and n 219 j
    ∙ ap (min (bit n j)) (eqb-true _ _ (every-at 8 kept_two kept-two j (omega arith)))
    ∙ by (eqb (suc j % 3) 0)
    ∙ ap (λ (k : ℕ). cond (eqb (suc j % 3) 0) 0 (bit n k)) e
  where
    by : (t : Bool) → min (bit n j) (cond t 0 1) ≡ cond t 0 (bit n j)
    by true = omega arith
    by false = omega (arith, bit-lt n j)

-- the column after them
column-is : (g : ℕ → ℕ → ℕ) (y x : ℕ) → column_of (g y x) (g (y + 1) x) (g (y + 2) x) ≡ of_bits 9 (λ i. cond (eqb (i % 3) 0) (g (y + 2 - i / 3) x) 0)
unfolding of_bits
column-is g y x =
    let p : y + 2 - 1 ≡ y + 1 = omega arith in
    let q : y + 2 - 2 ≡ y = omega arith in
    let r : y + 2 - 0 ≡ y + 2 = omega arith in
    rw (p, q, r) (omega arith)

module _ (g : ℕ → ℕ → ℕ) (y x : ℕ) where
  slid_at : (i : ℕ) → i < 9
      → max (cond (eqb (i % 3) 0) 0 (bit (window g y x) (i - 1))) (cond (eqb (i % 3) 0) (g (y + 2 - i / 3) (x + 3)) 0 % 2)
      ≡ g (y + 2 - i / 3) (x + 1 + 2 - i % 3) % 2
  slid_at i h = by (ℕ_discrete (i % 3) 0)
    where
      by : Dec (i % 3 ≡ 0) → max (cond (eqb (i % 3) 0) 0 (bit (window g y x) (i - 1))) (cond (eqb (i % 3) 0) (g (y + 2 - i / 3) (x + 3)) 0 % 2)
          ≡ g (y + 2 - i / 3) (x + 1 + 2 - i % 3) % 2
      by (yes z) =
          let e : x + 1 + 2 - i % 3 ≡ x + 3 = omega (arith, z) in
          rw (eq-eqb _ _ z, e) (omega arith)
      by (no z) =
          let e : x + 2 - (i - 1) % 3 ≡ x + 1 + 2 - i % 3 = omega (arith, z) in
          let d : (i - 1) / 3 ≡ i / 3 = omega (arith, z) in
          rw (ne_eqb _ _ z, bit-window g y x (i - 1) (omega arith), d, e) (omega arith)

  slid : (i : ℕ) → i < 9 → bit (bit_or (bit_and (window g y x) 219 * 2 ^ 1 % 2 ^ 64) (column_of (g y (x + 3)) (g (y + 1) (x + 3)) (g (y + 2) (x + 3)))) i
      ≡ bit (window g y (x + 1)) i
  slid i h =
      bit-or _ _ i
      ∙ ap₂ max (shifted_at (window g y x) i h) (ap (λ (c : ℕ). bit c i) (column-is g y (x + 3)) ∙ bit-of_bits 9 _ i h)
      ∙ slid_at i h
      ∙ sym (bit-window g y (x + 1) i h)

pub slide-lt : (n c : ℕ) → c < 2 ^ 9 → bit_or (bit_and n 219 * 2 ^ 1 % 2 ^ 64) c < 2 ^ 9
slide-lt n c h = or_lt 9 (bit_and n 219 * 2 ^ 1 % 2 ^ 64) c (omega (arith, and_le_r n 219)) h

pub slides : (n c : ℕ) → c < 2 ^ 9 → Slides n c (bit_or (bit_and n 219 * 2 ^ 1 % 2 ^ 64) c)
slides n c h = record {
  next = λ g y x e f. ext 9 (slide-lt n c h) (window-lt g y (x + 1)) (λ i l. ap₂ (λ (m k : ℕ). bit (bit_or (bit_and m 219 * 2 ^ 1 % 2 ^ 64) k) i) e f ∙ slid g y x i l);
}

-- the rule's outcome is a bit
pub rule-lt : (n : ℕ) → lit_rule n < 2
unfolding lit_rule
rule-lt n = by (eqb (bit n 4) 1 && ltb 1 (rank n 9))
  where
    by : (t : Bool) → cond t 1 0 < 2
    by true = omega arith
    by false = omega arith

-- the rule at each entry of the table
pub rule-at : {t : List ℕ} → t ≡ up_to 512 lit_rule → IsTable t
rule-at e = record { entry = entries lit_rule 512 e }

-- no column, one column, and more of them

pub passes_none : {start : ℕ} (above own below : ℕ) → Passes 0 start above own below start 0
unfolding of_bits
passes_none above own below = record {
  fits = omega arith;
  passed = λ g y x e c. (let z : x ≡ x + 0 = omega arith in e ∙ ap (window g y) z, refl);
}

module _ (above own below : ℕ) {start column number word : ℕ} where
  pub passes-one : Slides start column number → column ≡ column_of above own below → word ≡ lit_rule start → Passes 1 start above own below number word
  unfolding of_bits
  passes-one s e w = record {
    fits = omega (arith, w, rule-lt start);
    passed = λ g y x n c. (s.next g y x n (e ∙ same g y x c), w ∙ new g y x n);
  }
    where
      same : (g : ℕ → ℕ → ℕ) (y x : ℕ) → Columns 1 g y (x + 3) above own below → column_of above own below ≡ column_of (g y (x + 3)) (g (y + 1) (x + 3)) (g (y + 2) (x + 3))
      same g y x c =
          let z : x + 3 + (1 - 1 - 0) ≡ x + 3 = omega arith in
          let a = rw z at (c.above_at 0 (omega arith)) in
          let o = rw z at (c.own_at 0 (omega arith)) in
          let b = rw z at (c.below_at 0 (omega arith)) in
          omega (arith, a, bit-zero above, o, bit-zero own, b, bit-zero below)

      new : (g : ℕ → ℕ → ℕ) (y x : ℕ) → start ≡ window g y x → lit_rule start ≡ of_bits 1 (λ i. lit_rule (window g y (x + (1 - 1 - i))))
      new g y x n =
          let z : x + (1 - 1 - 0) ≡ x = omega arith in
          rw (z, ← n) (omega (arith, rule-lt start))

module _ (n k above own below : ℕ) {start middle number high low : ℕ} where
  pub passes-more : Passes n start (above / 2 ^ k) (own / 2 ^ k) (below / 2 ^ k) middle high → Passes k middle above own below number low
      → Passes (n + k) start above own below number (high * 2 ^ k + low)
  passes-more p q = record {
    fits = omega (arith, mul-le-mul_right (2 ^ k) p.fits, q.fits, pow-add 2 n k);
    passed = λ g y x e c.
        let f = p.passed g y x e (high-columns g y x c) in
        let l = q.passed g y (x + n) f.0 (low-columns g y x c) in
        (let z : x + n + k ≡ x + (n + k) = omega arith in l.0 ∙ ap (window g y) z, ap₂ (λ (a b : ℕ). a * 2 ^ k + b) f.1 l.1 ∙ joined g y x);
  }
    where
      above-by : (f : ℕ → ℕ) (row : ℕ) (x : ℕ) → ((i : ℕ) → i < n + k → bit row i ≡ f (x + (n + k - 1 - i))) → (i : ℕ) → i < n → bit (row / 2 ^ k) i ≡ f (x + (n - 1 - i))
      above-by f row x c i h = let z : n + k - 1 - (k + i) ≡ n - 1 - i = omega arith in bit-shr row k i ∙ c (k + i) (omega arith) ∙ ap (λ (j : ℕ). f (x + j)) z

      below_by : (f : ℕ → ℕ) (row : ℕ) (x : ℕ) → ((i : ℕ) → i < n + k → bit row i ≡ f (x + 3 + (n + k - 1 - i))) → (i : ℕ) → i < k → bit row i ≡ f (x + n + 3 + (k - 1 - i))
      below_by f row x c i h = let z : x + 3 + (n + k - 1 - i) ≡ x + n + 3 + (k - 1 - i) = omega arith in c i (omega arith) ∙ ap f z

      high-columns : (g : ℕ → ℕ → ℕ) (y x : ℕ) → Columns (n + k) g y (x + 3) above own below → Columns n g y (x + 3) (above / 2 ^ k) (own / 2 ^ k) (below / 2 ^ k)
      high-columns g y x c = record {
        above_at = above-by (g y) above (x + 3) c.above_at;
        own_at = above-by (g (y + 1)) own (x + 3) c.own_at;
        below_at = above-by (g (y + 2)) below (x + 3) c.below_at;
      }

      low-columns : (g : ℕ → ℕ → ℕ) (y x : ℕ) → Columns (n + k) g y (x + 3) above own below → Columns k g y (x + n + 3) above own below
      low-columns g y x c = record {
        above_at = below_by (g y) above x c.above_at;
        own_at = below_by (g (y + 1)) own x c.own_at;
        below_at = below_by (g (y + 2)) below x c.below_at;
      }

      joined : (g : ℕ → ℕ → ℕ) (y x : ℕ)
          → of_bits n (λ i. lit_rule (window g y (x + (n - 1 - i)))) * 2 ^ k + of_bits k (λ i. lit_rule (window g y (x + n + (k - 1 - i))))
          ≡ of_bits (n + k) (λ i. lit_rule (window g y (x + (n + k - 1 - i))))
      joined g y x =
          let z : k + n ≡ n + k = omega arith in
          sym (
          ap (λ (m : ℕ). of_bits m (λ i. lit_rule (window g y (x + (n + k - 1 - i))))) (sym z)
          ∙ of_bits-add k n (λ i. lit_rule (window g y (x + (n + k - 1 - i))))
          ∙ ap₂ (λ (a b : ℕ). a * 2 ^ k + b)
          (of_bits-same n _ _ (λ i h. let e : n + k - 1 - (k + i) ≡ n - 1 - i = omega arith in ap (λ (j : ℕ). lit_rule (window g y (x + j))) e))
          (of_bits-same k _ _ (λ i h. let e : x + (n + k - 1 - i) ≡ x + n + (k - 1 - i) = omega arith in ap (λ (j : ℕ). lit_rule (window g y j)) e))
          )

-- A turn of a loop over the places of three words, from the highest: k columns more of `total`, down to `place`.
module _ (total from place k above own below : ℕ) (e : place + k ≡ from) (h : from ≤ total) (l : total ≤ 64) {start middle number high low : ℕ} where
  pub passes_on : Passes (total - from) start (above / 2 ^ from) (own / 2 ^ from) (below / 2 ^ from) middle high
      → Passes k middle (above / 2 ^ place) (own / 2 ^ place) (below / 2 ^ place) number low
      → Passes (total - place) start (above / 2 ^ place) (own / 2 ^ place) (below / 2 ^ place) number (bit_or (high * 2 ^ k % 2 ^ 64) low)
  passes_on p q =
      let n = total - from in
      let d : n + k ≡ total - place = omega arith in
      let f : high * 2 ^ k < 2 ^ 64 =
      omega (arith, mul-le-mul_right (2 ^ k) p.fits, pow_pos k, pow-add 2 n k, pow_mono {i = n + k} {j = 64} (omega arith))
      in
      let m : Passes (n + k) start (above / 2 ^ place) (own / 2 ^ place) (below / 2 ^ place) number (high * 2 ^ k + low) =
      passes-more n k (above / 2 ^ place) (own / 2 ^ place) (below / 2 ^ place) (rw (apart above, apart own, apart below) at p) q
      in
      rw (mod-eq_of_lt f, or_shifted high k low q.fits, ← d) m
    where
      apart : (row : ℕ) → row / 2 ^ from ≡ row / 2 ^ place / 2 ^ k
      apart row = ap (λ (m : ℕ). row / 2 ^ m) (sym e) ∙ sym (shr-shr row place k)
