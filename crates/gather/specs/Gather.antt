-- Gather, scatter and group of paper 01, 'Lines, masks, orders', and what their calls answer. Assumes nothing.
use Rattle.std.specs.Prelude.{ℕ, Bool, not, cond, ◌||◌, List, [], ◌∷◌, ◌++◌, eqb}
use Rattle.bits.specs.Bit.{rank, marked, unmarked, pick, put}
use Rattle.bits.specs.Refusal.{accepted, fits, lowest}
use Rattle.gather.specs.declared.Gathered.{Gathered}

-- "if the marked lines, from the right, are m0, m1, .., then line i of the result is line mi of the word. With k marked lines, lines k and up are zero."
unfoldable pub gather_of : ℕ → ℕ → ℕ → ℕ
gather_of w m x = pick (marked m w) x

-- "line mi of the result is line i of the word; unmarked lines are zero."
unfoldable pub scatter_of : ℕ → ℕ → ℕ → ℕ
scatter_of w m x = put (marked m w) x

-- "lines 0 to k-1 as gather; lines k to w-1 are the unmarked lines in their order."
unfoldable pub group_of : ℕ → ℕ → ℕ → ℕ
group_of w m x = pick (marked m w ++ unmarked m w) x

-- 'Calls turned back': 1, "width not 8, 16, 32, 64"; 2, "word or mask has a one at line w or above"
abbrev pub conditions_of : ℕ → ℕ → ℕ → List (ℕ × Bool)
conditions_of w m x = (1, not (accepted w)) ∷ (2, not (fits w x) || not (fits w m)) ∷ []

unfoldable pub refusal_of : ℕ → ℕ → ℕ → ℕ
refusal_of w m x = lowest (conditions_of w m x)

-- The whole answer of a call that means f. Paper 02, Req 01: "Gather, scatter and group now answer the count of marked lines beside the word, 0 to w.
-- .. A refused call shows 0."
unfoldable pub answer_of : (ℕ → ℕ → ℕ → ℕ) → ℕ → ℕ → ℕ → Gathered
answer_of f w m x =
    cond (eqb (refusal_of w m x) 0) (record { refusal = 0; count = rank m w; word = f w m x })
    (record { refusal = refusal_of w m x; count = 0; word = 0 })
