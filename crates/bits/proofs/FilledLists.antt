-- Lists filled from the front. Assumes nothing.
use mathlib.Core.Path.{◌≡◌, refl, sym, ◌∙◌, ap}
use mathlib.Core.List.{List, ◌∷◌, ◌++◌, append_assoc, append-nil}
use Prim.Native.Nat.{ℕ, suc, ◌+◌, ◌-◌, ◌<◌, ◌≤◌}
use native.Mathlib.Omega.{arith}
use native.Mathlib.Numerals.{add-one}
use lib.ListN.{length, get_or, drop, set, length-append, length-drop, drop_of_length-le}
use lib.Seq.{drop-cons, drop_at, set_at}
use Rattle.bits.specs.Bit.{up_to, overwritten}
use Rattle.bits.proofs.UpTo.{length-up_to}

module _ (f : ℕ → ℕ) where
  pub length-overwritten : (j : ℕ) (old : List ℕ) → length (overwritten j f old) ≡ j + (length old - j)
  length-overwritten j old = length-append (up_to j f) (drop j old) ∙ omega (arith, length-up_to f j, length-drop j old)

  pub fill_none : (old : List ℕ) → old ≡ overwritten 0 f old
  unfolding up_to
  fill_none old = refl

  -- one word more
  pub fill-next : (j : ℕ) (old : List ℕ) {out : List ℕ} {v : ℕ} → j < length out → out ≡ overwritten j f old → v ≡ f j
      → set out j v ≡ overwritten (j + 1) f old
  unfolding up_to
  fill-next j old {out} {v} h e q =
      let l : j < length old = omega (arith, length-overwritten j old, ap length e) in
      ap (λ (o : List ℕ). set o j v) (e ∙ ap (λ (l : List ℕ). up_to j f ++ l) (drop-cons old j 0 l))
      ∙ set_at (up_to j f) (get_or old j 0) (drop (suc j) old) v j (length-up_to f j)
      ∙ rw (add-one j, q, append_assoc)

  -- what stood behind the words that are filled is in the list itself
  pub fill-own : (j : ℕ) (old : List ℕ) {out : List ℕ} → out ≡ overwritten j f old → out ≡ overwritten j f out
  fill-own j old {out} e =
      e ∙ ap (λ (l : List ℕ). up_to j f ++ l) (sym (ap (drop j) e ∙ drop_at (up_to j f) (drop j old) j (length-up_to f j)))

  -- the last of them may count as one behind
  pub fill-less : (j : ℕ) (old : List ℕ) {out : List ℕ} → out ≡ overwritten (j + 1) f old → out ≡ overwritten j f out
  unfolding up_to
  fill-less j old {out} e =
      let q : out ≡ up_to j f ++ (f j ∷ drop (suc j) old) = e ∙ rw (add-one j, append_assoc) in
      q ∙ ap (λ (l : List ℕ). up_to j f ++ l) (sym (ap (drop j) q ∙ drop_at (up_to j f) (f j ∷ drop (suc j) old) j (length-up_to f j)))

  pub fill-all : (j : ℕ) (old : List ℕ) → length old ≤ j → overwritten j f old ≡ up_to j f
  fill-all j old h = ap (λ (l : List ℕ). up_to j f ++ l) (drop_of_length-le old h) ∙ append-nil (up_to j f)
