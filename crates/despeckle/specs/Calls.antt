-- What the call answers, and what it leaves in the words lent to it, refused calls included. Assumes nothing.
use Rattle.std.specs.Prelude.{ℕ, ◌*◌, Bool, not, ◌||◌, List, [], ◌∷◌, eqb, ltb, length}
use Rattle.bits.specs.Bit.{overwritten}
use Rattle.bits.specs.Refusal.{lowest, left_of}
use Rattle.despeckle.specs.Plane.{new_word}

-- For a plane of h rows of v words in `own` words, and `other` words for the new one: "A strip above 2,048 words meets 9 and a second strip shorter than v×h words
-- meets 10"; "13, h or v is zero, or v×h differs from the first strip's length, after 12"
abbrev pub plane_conditions : ℕ → ℕ → ℕ → ℕ → List (ℕ × Bool)
plane_conditions own h v other =
    (9, ltb 2048 own || ltb 2048 other) ∷ (10, ltb other (v * h)) ∷ (13, eqb h 0 || (eqb v 0 || not (eqb (v * h) own))) ∷ []

-- the answer: the refusal, 0 if the call is carried out
unfoldable pub plane_refusal : ℕ → ℕ → ℕ → ℕ → ℕ
plane_refusal own h v other = lowest (plane_conditions own h v other)

abbrev pub despeckle_answer : List ℕ → ℕ → ℕ → List ℕ → ℕ
despeckle_answer ws h v out = plane_refusal (length ws) h v (length out)

-- "The new plane goes into a second lent strip [..]; its words past the plane keep their values."
abbrev pub despeckled_out : List ℕ → ℕ → ℕ → List ℕ → List ℕ
despeckled_out ws h v out = left_of (despeckle_answer ws h v out) (overwritten (v * h) (new_word ws v h) out) out
