-- The code's test of the register numbers in use: comparisons of the kind, and no table. Assumes nothing.
use mathlib.Core.Path.{◌≡◌, refl, ◌∙◌}
use mathlib.Core.Bool.{Bool, true, false, not, ◌&&◌, ◌||◌}
use mathlib.Core.List.{List, []}
use Prim.Native.Nat.{ℕ, ◌%◌}
use lib.Dec.{eqb, leb}
use Rattle.unit.specs.Operation.{table_entry, is_kind, load_uses, uses, used_of, are_registers}
use Rattle.unit.proofs.Tables.{outside, by-entry}

and-true : (b : Bool) → (b && true) ≡ b
and-true true = refl
and-true false = refl

module _ (r2 r3 : ℕ) where
  -- each number is one of a general register, or not in use at this kind
  abbrev tested : ℕ → ℕ → Bool
  tested r1 kind =
      (leb kind 2 || eqb kind 5 && eqb (r1 % 2) 0 || leb r3 15) && (eqb kind 8 || eqb kind 9 || leb r2 15)
      && (eqb kind 5 || eqb kind 8 || eqb kind 9 || leb r1 15)

  -- the test is right where these numbers are in use; at what is no kind it answers yes
  abbrev Right : ℕ → ℕ → List ℕ → Type 0
  Right r1 kind ns = (not (is_kind kind r1) || tested r1 kind) ≡ are_registers ns

  loads-tested : (r1 : ℕ) → Right r1 5 (table_entry r1 (load_uses r2 r3) [])
  loads-tested r1 =
      by-entry (λ r ns. Right r 5 ns) r1 (load_uses r2 r3) [] (and-true _, (and-true _, (and-true _, (and-true _, tt))))
      (λ none. rw (outside (load_uses r2 r3) r1 (refl, (refl, (refl, (refl, tt)))) none))

  pub registers-tested : (kind r1 : ℕ) → Right r1 kind (used_of kind r1 r2 r3)
  registers-tested kind r1 =
      by-entry (Right r1) kind (uses r1 r2 r3) []
      (refl, (refl, (refl, (refl, (loads-tested r1, (refl, (refl, (and-true _ ∙ and-true _, (and-true _ ∙ and-true _, (refl, tt))))))))))
      (λ none. rw (outside (uses r1 r2 r3) kind (refl, (refl, (refl, (refl, (refl, (refl, (refl, (refl, (refl, (refl, tt)))))))))) none))
