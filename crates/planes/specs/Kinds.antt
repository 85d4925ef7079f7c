-- What the code's functions on lists of steps ask of the step that is handed to them. Internal: no answer of a call cites it. Assumes nothing.
use Rattle.std.specs.Prelude.{◌≡◌, ℕ, ◌*◌}
use Rattle.planes.specs.declared.fields.Kept.{Kept}

-- A step, by what it asks and what it may answer, is of the kind named.
pub record Makes (kind : ℕ → ℕ → ℕ → ℕ → ℕ) (pre : Kept → ℕ → ℕ → Type 0) (post : Kept → ℕ → ℕ → ℕ → Type 0) : Type 0 where
  pub callable : (kept : Kept) (first second : ℕ) → pre kept first second
  pub makes : (kept : Kept) (first second word : ℕ) → post kept first second word → word ≡ kind (2 * kept.fields.half_width) kept.half first second
