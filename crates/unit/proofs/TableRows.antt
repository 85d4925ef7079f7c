-- The table's rows by the steps of the code: kind 5's stores, and each kind's result. Assumes nothing.
use mathlib.Core.Path.{◌≡◌, refl, sym, ◌∙◌, ap, ap₂}
use mathlib.Core.Bool.{cond}
use mathlib.Core.List.{List}
use mathlib.Core.Logic.{◌⊎◌, inl, inr}
use Prim.Native.Nat.{ℕ, ◌-◌, ◌*◌, ◌^◌, ◌<◌, ◌≤◌}
use native.Mathlib.Omega.{arith}
use native.Mathlib.Nat.{mod-eq_of_lt}
use lib.Bits.{bit_and, bit_xor, and_mask, and_zero_r, xor_zero_r, xor_lt}
use lib.Dec.{eqb, leb}
use lib.ListN.{set}
use lib.Seq.{set-set}
use borrow.Author.Tests.{ne_eqb}
use Rattle.bits.proofs.Word.{digit, bit-lt, bit-xor, ext}
use Rattle.gather.specs.Gather.{gather_of, scatter_of, group_of}
use Rattle.network.specs.Stage.{butterfly_of, inverse_of}
use Rattle.network.specs.Decoder.{decode_of, decode_inverse_of}
use Rattle.unit.specs.declared.Registers.{Registers}
use Rattle.unit.specs.Bank.{with_words, with_register, with_b, with_ib, stages_of, packed_of}
use Rattle.unit.specs.Operation.{loads, load_of, effects, effect_of}
use Rattle.unit.specs.Lent.{loaded_at}
use Rattle.unit.proofs.Tables.{by-entry, entry_other}

-- kind 5, by the code's steps: of two stores the second is y, or x again
module _ (rs : List ℕ) (x y : ℕ) (hx : x < 2 ^ 64) (hy : y < 2 ^ 64) where
  last-is : {odd : ℕ} → (odd ≡ 0) ⊎ (odd ≡ 1) → bit_xor x (bit_and (bit_xor x y) (odd * (2 ^ 64 - 1))) ≡ cond (eqb odd 1) y x
  last-is (inl e) = rw e (ap (bit_xor x) (and_zero_r (bit_xor x y)) ∙ xor_zero_r x)
  last-is (inr e) =
      rw e
      (ap (bit_xor x) (and_mask (bit_xor x y) 64 ∙ mod-eq_of_lt (xor_lt 64 x y hx hy))
      ∙ ext 64 (xor_lt 64 x (bit_xor x y) hx (xor_lt 64 x y hx hy)) hy (λ i l. rw (bit-xor, bit-xor) (omega (arith, bit-lt x i, bit-lt y i))))

  pub loaded-by : (odd : ℕ) → odd < 2
      → set (set rs (2 - 2 * odd) x) (2 - odd) (bit_xor x (bit_and (bit_xor x y) (odd * (2 ^ 64 - 1)))) ≡ loaded_at (2 - odd) rs x y
  loaded-by odd h = ap (set (set rs (2 - 2 * odd) x) (2 - odd)) (last-is (digit odd h)) ∙ by-digit (digit odd h)
    where
      by-digit : (odd ≡ 0) ⊎ (odd ≡ 1) → set (set rs (2 - 2 * odd) x) (2 - odd) (cond (eqb odd 1) y x) ≡ loaded_at (2 - odd) rs x y
      by-digit (inl e) = rw e (set-set rs 2 x x)
      by-digit (inr e) = rw e

-- nothing is loaded at any other number
pub loaded-none : (rs : List ℕ) (x y : ℕ) {r : ℕ} → (r ≡ 1 → ⊥) → (r ≡ 2 → ⊥) → loaded_at r rs x y ≡ rs
loaded-none rs x y {r} n k = rw (ne_eqb r 1 n, ne_eqb r 2 k)

-- both triples loaded so are what kind 5 loads
load_is : (k : Registers) (r1 x y : ℕ) → with_words k k.general (loaded_at r1 k.b x y) (loaded_at (r1 - 2) k.ib x y) ≡ load_of k r1 x y
unfolding load_of
load_is k r1 x y =
    by-entry (λ r j. with_words k k.general (loaded_at r k.b x y) (loaded_at (r - 2) k.ib x y) ≡ j) r1 (loads k x y) k
    (refl, (refl, (refl, (refl, tt))))
    (λ n.
    let three : r1 - 2 ≡ 1 → ⊥ = λ e. n.1.1.0 (omega arith) in
    let four : r1 - 2 ≡ 2 → ⊥ = λ e. n.1.1.1.0 (omega arith) in
    ap₂ (with_words k k.general) (loaded-none k.b x y n.0 n.1.0) (loaded-none k.ib x y three four))

-- and where r1 says so, one of them is left as it was, or both are
module _ (k : Registers) (r1 x y : ℕ) where
  pub load-none : (r1 ≡ 0) ⊎ (4 < r1) → k ≡ load_of k r1 x y
  load-none (inl e) = sym (ap₂ (with_words k k.general) (loaded-none k.b x y {r = r1} (λ q. omega arith) (λ q. omega arith)) (loaded-none k.ib x y {r = r1 - 2} (λ q. omega arith) (λ q. omega arith))) ∙ load_is k r1 x y
  load-none (inr l) = sym (ap₂ (with_words k k.general) (loaded-none k.b x y {r = r1} (λ q. omega arith) (λ q. omega arith)) (loaded-none k.ib x y {r = r1 - 2} (λ q. omega arith) (λ q. omega arith))) ∙ load_is k r1 x y

  pub load-b : r1 ≤ 2 → with_b k (loaded_at r1 k.b x y) ≡ load_of k r1 x y
  load-b l = sym (ap (with_words k k.general (loaded_at r1 k.b x y)) (loaded-none k.ib x y {r = r1 - 2} (λ q. omega arith) (λ q. omega arith))) ∙ load_is k r1 x y

  pub load-ib : 2 < r1 → with_ib k (loaded_at (r1 - 2) k.ib x y) ≡ load_of k r1 x y
  load-ib l = sym (ap (λ (b : List ℕ). with_words k k.general b (loaded_at (r1 - 2) k.ib x y)) (loaded-none k.b x y {r = r1} (λ q. omega arith) (λ q. omega arith))) ∙ load_is k r1 x y

and-ones : (u : ℕ) → u < 2 ^ 64 → bit_and u (2 ^ 64 - 1) ≡ u
and-ones u l = and_mask u 64 ∙ mod-eq_of_lt l

-- at any other kind the table has no row
pub row-none : (k : Registers) (kind r1 x y : ℕ) → (kind ≡ 0) ⊎ (10 < kind) → k ≡ effect_of k kind r1 x y
unfolding effect_of
row-none k kind r1 x y n = entry_other kind (effects k r1 x y) k (((((((((((tt, none n 1 (omega arith) (omega arith)), none n 2 (omega arith) (omega arith)), none n 3 (omega arith) (omega arith)), none n 4 (omega arith) (omega arith)), none n 5 (omega arith) (omega arith)), none n 6 (omega arith) (omega arith)), none n 7 (omega arith) (omega arith)), none n 8 (omega arith) (omega arith)), none n 9 (omega arith) (omega arith)), none n 10 (omega arith) (omega arith)))
  where
    none : (kind ≡ 0) ⊎ (10 < kind) → (j : ℕ) → 0 < j → j ≤ 10 → kind ≡ j → ⊥
    none (inl e) j l h q = omega arith
    none (inr e) j l h q = omega arith

-- The table's rows, by the steps of the code: the kind's number, the operands as they were read, and what was computed of them
module _ (k : Registers) (r1 : ℕ) {n kind x y x' y' : ℕ} (s : n ≡ kind) (p : x' ≡ x) (q : y' ≡ y) where
  at-kind : (m : ℕ) → n ≡ m → {j : Registers} → j ≡ effect_of k m r1 x y → j ≡ effect_of k kind r1 x y
  at-kind m e h = h ∙ ap (λ (i : ℕ). effect_of k i r1 x y) (sym e ∙ s)

  row-1 : n ≡ 1 → {v : ℕ} → v ≡ butterfly_of 6 (stages_of k.b) x' → with_register k r1 v ≡ effect_of k kind r1 x y
  unfolding effect_of
  row-1 e h = at-kind 1 e (ap (with_register k r1) (h ∙ ap (butterfly_of 6 (stages_of k.b)) p))

  row-2 : n ≡ 2 → {v : ℕ} → v ≡ inverse_of 6 (stages_of k.ib) x' → with_register k r1 v ≡ effect_of k kind r1 x y
  unfolding effect_of
  row-2 e h = at-kind 2 e (ap (with_register k r1) (h ∙ ap (inverse_of 6 (stages_of k.ib)) p))

  row-3 : n ≡ 3 → {v : ℕ} → v ≡ inverse_of 6 (stages_of k.ib) (bit_and x' y') → with_register k r1 v ≡ effect_of k kind r1 x y
  unfolding effect_of
  row-3 e h = at-kind 3 e (ap (with_register k r1) (h ∙ ap (inverse_of 6 (stages_of k.ib)) (ap₂ bit_and p q)))

  row-4 : n ≡ 4 → {v : ℕ} → v ≡ bit_and (butterfly_of 6 (stages_of k.b) x') y' → with_register k r1 v ≡ effect_of k kind r1 x y
  unfolding effect_of
  row-4 e h = at-kind 4 e (ap (with_register k r1) (h ∙ ap₂ (λ a b. bit_and (butterfly_of 6 (stages_of k.b) a) b) p q))

  -- kinds 1 and 4, and 2 and 3, by one mask: kinds 1 and 2 mask nothing
  pub row-1-4 : (n ≡ 1) ⊎ (n ≡ 4) → {u : ℕ} → u ≡ butterfly_of 6 (stages_of k.b) x' → u < 2 ^ 64 → {w : ℕ} → w ≡ cond (leb n 2) (2 ^ 64 - 1) y'
      → with_register k r1 (bit_and u w) ≡ effect_of k kind r1 x y
  row-1-4 (inl e) {u} h l m = row-1 e (ap (bit_and u) (m ∙ rw e) ∙ and-ones u l ∙ h)
  row-1-4 (inr e) h l m = row-4 e (ap₂ bit_and h (m ∙ rw e))

  pub row-2-3 : (n ≡ 2) ⊎ (n ≡ 3) → x' < 2 ^ 64 → {w : ℕ} → w ≡ cond (leb n 2) (2 ^ 64 - 1) y' → {v : ℕ} → v ≡ inverse_of 6 (stages_of k.ib) (bit_and x' w)
      → with_register k r1 v ≡ effect_of k kind r1 x y
  row-2-3 (inl e) l m h = row-2 e (h ∙ ap (inverse_of 6 (stages_of k.ib)) (ap (bit_and x') (m ∙ rw e) ∙ and-ones x' l))
  row-2-3 (inr e) l m h = row-3 e (h ∙ ap (λ (w : ℕ). inverse_of 6 (stages_of k.ib) (bit_and x' w)) (m ∙ rw e))

  pub row-5 : n ≡ 5 → load_of k r1 x' y' ≡ effect_of k kind r1 x y
  unfolding effect_of
  row-5 e = at-kind 5 e (ap₂ (load_of k r1) p q)

  pub row-6 : n ≡ 6 → {v : ℕ} → v ≡ gather_of 64 y' x' → with_register k r1 v ≡ effect_of k kind r1 x y
  unfolding effect_of
  row-6 e h = at-kind 6 e (ap (with_register k r1) (h ∙ ap₂ (gather_of 64) q p))

  pub row-7 : n ≡ 7 → {v : ℕ} → v ≡ scatter_of 64 y' x' → with_register k r1 v ≡ effect_of k kind r1 x y
  unfolding effect_of
  row-7 e h = at-kind 7 e (ap (with_register k r1) (h ∙ ap₂ (scatter_of 64) q p))

  pub row-8 : n ≡ 8 → {i : List ℕ} → i ≡ packed_of (decode_inverse_of 6 y') → with_ib k i ≡ effect_of k kind r1 x y
  unfolding effect_of
  row-8 e f = at-kind 8 e (ap (with_ib k) (f ∙ ap (λ (m : ℕ). packed_of (decode_inverse_of 6 m)) q))

  pub row-9 : n ≡ 9 → {b : List ℕ} → b ≡ packed_of (decode_of 6 y') → with_b k b ≡ effect_of k kind r1 x y
  unfolding effect_of
  row-9 e f = at-kind 9 e (ap (with_b k) (f ∙ ap (λ (m : ℕ). packed_of (decode_of 6 m)) q))

  pub row-10 : n ≡ 10 → {v : ℕ} → v ≡ group_of 64 y' x' → with_register k r1 v ≡ effect_of k kind r1 x y
  unfolding effect_of
  row-10 e h = at-kind 10 e (ap (with_register k r1) (h ∙ ap₂ (group_of 64) q p))
