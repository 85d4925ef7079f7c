-- A word of the new plane from the window that passed it, and the words of a row. Assumes nothing.
use mathlib.Core.Path.{◌≡◌, sym, ◌∙◌, ap, ap₂}
use mathlib.Core.List.{List, ◌++◌, append_assoc}
use Prim.Native.Nat.{ℕ, ◌+◌, ◌-◌, ◌*◌, ◌<◌}
use native.Mathlib.Omega.{arith}
use lib.Arith.{digits_div, digits_mod}
use lib.ListN.{take, drop}
use lib.Seq.{take_at, drop_at, drop-drop}
use Rattle.bits.specs.Bit.{bit, of_bits, up_to, overwritten}
use Rattle.bits.proofs.Word.{of_bits-same}
use Rattle.bits.proofs.UpTo.{length-up_to, up_to-add}
use Rattle.despeckle.specs.Plane.{bordered, around, lit_rule, new_word}
use Rattle.despeckle.specs.Window.{Columns, Passes}

module _ (ws : List ℕ) (v h y at : ℕ) where
  -- word `at` of row y
  pub new_word_lem : at < v → new_word ws v h (y * v + at) ≡ of_bits 64 (λ i. lit_rule (around ws v h y (64 * at + (63 - i))))
  unfolding new_word
  new_word_lem l =
      of_bits-same 64 _ _
      (λ i b. ap₂ (λ (r c : ℕ). lit_rule (around ws v h r (64 * c + (63 - i)))) (digits_div y l) (digits_mod y l))

  -- a turn of the loop along the row
  module _ (above own below : ℕ) {start number word : ℕ} (p : Passes 64 start above own below number word)
      (a : (k : ℕ) → k < 64 → bit above k ≡ bordered ws v h y (64 * at + (66 - k)))
      (o : (k : ℕ) → k < 64 → bit own k ≡ bordered ws v h (y + 1) (64 * at + (66 - k)))
      (b : (k : ℕ) → k < 64 → bit below k ≡ bordered ws v h (y + 2) (64 * at + (66 - k)))
      (e : start ≡ around ws v h y (64 * at)) where
    columns : Columns 64 (bordered ws v h) y (64 * at + 3) above own below
    columns = record { above_at = by y above a; own_at = by (y + 1) own o; below_at = by (y + 2) below b }
      where
        by : (r row : ℕ) → ((k : ℕ) → k < 64 → bit row k ≡ bordered ws v h r (64 * at + (66 - k)))
            → (i : ℕ) → i < 64 → bit row i ≡ bordered ws v h r (64 * at + 3 + (64 - 1 - i))
        by r row f i l = let z : 64 * at + (66 - i) ≡ 64 * at + 3 + (64 - 1 - i) = omega arith in f i l ∙ ap (bordered ws v h r) z

    pub number-next : number ≡ around ws v h y (64 * (at + 1))
    number-next = let z : 64 * at + 64 ≡ 64 * (at + 1) = omega arith in (p.passed (bordered ws v h) y (64 * at) e columns).0 ∙ ap (around ws v h y) z

    pub word-passed : at < v → word ≡ new_word ws v h (y * v + at)
    word-passed l = (p.passed (bordered ws v h) y (64 * at) e columns).1 ∙ sym (new_word_lem l)

-- the rows above are filled, and then this one
pub row-filled : (f : ℕ → ℕ) (a v : ℕ) (old : List ℕ) {out ys : List ℕ} → out ≡ overwritten a f old → ys ≡ up_to v (λ i. f (a + i))
    → take a out ++ (ys ++ drop (a + v - a) (drop a out)) ≡ overwritten (a + v) f old
row-filled f a v old e s =
    let xs = up_to a f in
    let n = length-up_to f a in
    let d : a + v - a ≡ v = omega arith in
    rw (e, s, d, take_at xs (drop a old) a n, drop_at xs (drop a old) a n, drop-drop v a old)
    (sym (append_assoc xs (up_to v (λ i. f (a + i))) (drop (a + v) old)) ∙ ap (λ (l : List ℕ). l ++ drop (a + v) old) (sym (up_to-add a v f)))
