-- The rule in the words of the paper: of a number, and of a pixel and the eight around it. Assumes nothing.
use mathlib.Core.Path.{◌≡◌, refl, sym, ◌∙◌, ap, ap₂}
use mathlib.Core.Bool.{Bool, true, false, cond, ◌&&◌}
use mathlib.Core.Logic.{◌⊎◌, inl, inr, ◌↔◌}
use mathlib.Core.List.{List}
use Prim.Native.Nat.{ℕ, ◌+◌, ◌-◌, ◌*◌, ◌/◌, ◌%◌, ◌<◌}
use native.Mathlib.Omega.{arith}
use native.Mathlib.Nat.{mod-eq_of_lt}
use native.Mathlib.Decide.{dec_lt, ℕ_discrete}
use lib.Dec.{eqb, ltb}
use borrow.Author.Tests.{lt-ltb, ltb-true, eq-eqb, eqb-true}
use Rattle.bits.specs.Bit.{bit, rank}
use Rattle.bits.proofs.Word.{digit}
use Rattle.bits.proofs.Rank.{rank_lt, select}
use Rattle.bits.proofs.Refusals.{both}
use Rattle.despeckle.specs.Plane.{pixel, bordered, around, lit_rule}
use Rattle.despeckle.specs.Beside.{LitBeside}
use Rattle.despeckle.proofs.Border.{bordered-is, bordered-lt}
use Rattle.despeckle.proofs.Sliding.{bit-window, rule-lt}

-- of a number

-- a bit of nine other than bit 4
abbrev pub OtherOne : ℕ → Type 0
OtherOne n = (i : ℕ) × (i < 9) × (i ≡ 4 → ⊥) × (bit n i ≡ 1)

pub rule-lit : (n : ℕ) → bit n 4 ≡ 1 → OtherOne n → lit_rule n ≡ 1
unfolding lit_rule
rule-lit n e o = rw (eq-eqb _ _ e, lt-ltb 1 (rank n 9) (two (dec_lt o.0 4)))
  where
    two : Dec (o.0 < 4) → 1 < rank n 9
    two (yes l) = omega (arith, rank_lt n {p = o.0} {w = 4} o.3 l, rank_lt n {p = 4} {w = 9} e (omega arith))
    two (no l) = omega (arith, rank_lt n {p = 4} {w = o.0} e (omega (arith, o.2)), rank_lt n {p = o.0} {w = 9} o.3 o.1)

pub rule-bits : (n : ℕ) → lit_rule n ≡ 1 → (bit n 4 ≡ 1) × OtherOne n
unfolding lit_rule
rule-bits n e = found (tests (eqb (bit n 4) 1 && ltb 1 (rank n 9)) e)
  where
    tests : (t : Bool) → cond {A = ℕ} t 1 0 ≡ 1 → t ≡ true
    tests true q = refl
    tests false q = absurd (omega (arith, q))

    found : (eqb (bit n 4) 1 && ltb 1 (rank n 9)) ≡ true → (bit n 4 ≡ 1) × OtherOne n
    found q =
        let b = both (eqb (bit n 4) 1) (ltb 1 (rank n 9)) q in
        let l : 1 < rank n 9 = ltb-true 1 (rank n 9) b.1 in
        let first = select n 0 9 (omega (arith, l)) in
        let second = select n 1 9 l in
        (eqb-true _ _ b.0, by first second (ℕ_discrete first.0 4))
      where
        by : (p : (p : ℕ) × (p < 9) × (bit n p ≡ 1) × (rank n p ≡ 0)) → (q : (p : ℕ) × (p < 9) × (bit n p ≡ 1) × (rank n p ≡ 1)) → Dec (p.0 ≡ 4) → OtherOne n
        by p q (yes z) = (q.0, q.1, (λ w. absurd (omega (arith, p.3, q.3, ap (rank n) (z ∙ sym w)))), q.2)
        by p q (no z) = (p.0, p.1, z, p.2)

-- of a pixel

module _ (ws : List ℕ) (v h y x : ℕ) where
  around-bit : (i : ℕ) → i < 9 → bit (around ws v h y x) i ≡ bordered ws v h (y + (2 - i / 3)) (x + (2 - i % 3))
  around-bit i l =
      let p : y + 2 - i / 3 ≡ y + (2 - i / 3) = omega arith in
      let q : x + 2 - i % 3 ≡ x + (2 - i % 3) = omega arith in
      bit-window (bordered ws v h) y x i l ∙ mod-eq_of_lt (bordered-lt ws v h (y + 2 - i / 3) (x + 2 - i % 3)) ∙ ap₂ (bordered ws v h) p q

  pub own-pixel : bordered ws v h (y + 1) (x + 1) ≡ pixel ws v h y x
  own-pixel =
      let p : y + 1 - 1 ≡ y = omega arith in
      let q : x + 1 - 1 ≡ x = omega arith in
      bordered-is ws v h (y + 1) (x + 1) (omega arith) (omega arith) ∙ ap₂ (pixel ws v h) p q

  -- "the new dot is lit exactly if bit 4 and at least one other bit are one"
  pub new-exactly : (lit_rule (around ws v h y x) ≡ 1) ↔ ((pixel ws v h y x ≡ 1) × LitBeside ws v h y x)
  new-exactly = (to, from)
    where
      to : lit_rule (around ws v h y x) ≡ 1 → (pixel ws v h y x ≡ 1) × LitBeside ws v h y x
      to e =
          let b = rule-bits (around ws v h y x) e in
          let o = b.1 in (
            sym own-pixel ∙ sym (around-bit 4 (omega arith)) ∙ b.0,
            record {
              down = 2 - o.0 / 3;
              right = 2 - o.0 % 3;
              down_near = omega arith;
              right_near = omega arith;
              other = λ q. o.2 (omega (arith, q.0, q.1, o.1));
              lit = sym (around-bit o.0 o.1) ∙ o.3;
            },
          )

      from : (pixel ws v h y x ≡ 1) × LitBeside ws v h y x → lit_rule (around ws v h y x) ≡ 1
      from q =
          let b = q.1 in
          let i = (2 - b.down) * 3 + (2 - b.right) in
          let r : 2 - i / 3 ≡ b.down = omega (arith, b.down_near, b.right_near) in
          let c : 2 - i % 3 ≡ b.right = omega (arith, b.down_near, b.right_near) in
          let l : i < 9 = omega (arith, b.down_near, b.right_near) in
          rule-lit (around ws v h y x) (around-bit 4 (omega arith) ∙ own-pixel ∙ q.0)
          (i, l, (λ z. b.other (omega (arith, z, r), omega (arith, z, c))), around-bit i l ∙ ap₂ (λ (m n : ℕ). bordered ws v h (y + m) (x + n)) r c ∙ b.lit)

  -- so a pixel that is dark stays dark, and one with no lit pixel beside it goes out

  not-lit : (lit_rule (around ws v h y x) ≡ 1 → ⊥) → lit_rule (around ws v h y x) ≡ 0
  not-lit f = by (digit (lit_rule (around ws v h y x)) (rule-lt _))
    where
      by : (lit_rule (around ws v h y x) ≡ 0) ⊎ (lit_rule (around ws v h y x) ≡ 1) → lit_rule (around ws v h y x) ≡ 0
      by (inl z) = z
      by (inr o) = absurd (f o)

  pub dark-stays : pixel ws v h y x ≡ 0 → lit_rule (around ws v h y x) ≡ 0
  dark-stays z = not-lit (λ e. absurd (omega (arith, (new-exactly.0 e).0, z)))

  pub lone-goes-out : ((down right : ℕ) → down < 3 → right < 3 → ((down ≡ 1) × (right ≡ 1) → ⊥) → bordered ws v h (y + down) (x + right) ≡ 0)
      → lit_rule (around ws v h y x) ≡ 0
  lone-goes-out f =
      not-lit (λ e. let b = (new-exactly.0 e).1 in absurd (omega (arith, f b.down b.right b.down_near b.right_near b.other, b.lit)))
