-- Lists of steps, each with two words in and one out, of paper 02, Req 03, and of source document 000, sections 5 and 6. Assumes nothing.
use Rattle.std.specs.Prelude.{ℕ, ◌+◌, ◌-◌, ◌*◌, ◌/◌, ◌%◌, cond, List, [], ◌∷◌, ◌++◌, map, eqb, length, get_or, drop}
use Rattle.bits.specs.Bit.{bit, of_bits}

-- a step, "each saying its two sources, its field width (8, 4 or 2) and which half of every field it keeps": 0 the low half, 1 the high one. Sources 0 to 7
-- are the words that a list begins with, 8 and up the results so far
pub record Step : Type 0 where
  pub first : ℕ
  pub second : ℕ
  pub width : ℕ
  pub half : ℕ

-- the place in a word of bit j of its kept halves, taken "in order": bit j % h of half number `half` of field j / h, where h is half a field's width
abbrev pub kept_place : ℕ → ℕ → ℕ → ℕ
kept_place w half j = let h = w / 2 in j / h * w + half * h + j % h

-- "The first source's halves, in order, fill the low half of the result, the second's the high half."
unfoldable pub keep_halves : ℕ → ℕ → ℕ → ℕ → ℕ
keep_halves w half x y = of_bits 64 (λ j. bit (cond (eqb (j / 32) 0) x y) (kept_place w half (j % 32)))

-- Document 000's merging, the mirror: of the low (0) or the high (1) half of both words, h bits at a time, the first's fill the low half of each field of the
-- result, the second's the high half
unfoldable pub merge_halves : ℕ → ℕ → ℕ → ℕ → ℕ
merge_halves w half x y = let h = w / 2 in of_bits 64 (λ i. bit (cond (eqb (i / h % 2) 0) x y) (half * 32 + (i / w * h + i % h)))

-- what a step of a kind (keep_halves or merge_halves) makes of the words so far
abbrev pub result_of : (ℕ → ℕ → ℕ → ℕ → ℕ) → Step → List ℕ → ℕ
result_of kind s ws = kind s.width s.half (get_or ws s.first 0) (get_or ws s.second 0)

-- the words that a list begins with and all its results, one after the other
unfoldable pub after_steps : (ℕ → ℕ → ℕ → ℕ → ℕ) → List Step → List ℕ → List ℕ
after_steps kind [] ws = ws
after_steps kind (s ∷ ss) ws = after_steps kind ss (ws ++ (result_of kind s ws ∷ []))

-- the last eight results
abbrev pub last_eight : List ℕ → List ℕ
last_eight ws = drop (length ws - 8) ws

-- a step by its sources, its field width and its half
abbrev pub step_on : ℕ → ℕ → ℕ → ℕ → Step
step_on first second width half = record { first = first; second = second; width = width; half = half }

-- "a list of just 24 such steps": document 000's (its Figure 6), with the low half before the high one, so that the planes come out in rising order. Its bit 0
-- is the highest bit, plane 7 here.
unfoldable pub packing_steps : List Step
packing_steps =
    step_on 0 1 8 0
    ∷ step_on 0 1 8 1
    ∷ step_on 2 3 8 0
    ∷ step_on 2 3 8 1
    ∷ step_on 4 5 8 0
    ∷ step_on 4 5 8 1
    ∷ step_on 6 7 8 0
    ∷ step_on 6 7 8 1
    ∷ step_on 8 10 4 0
    ∷ step_on 8 10 4 1
    ∷ step_on 9 11 4 0
    ∷ step_on 9 11 4 1
    ∷ step_on 12 14 4 0
    ∷ step_on 12 14 4 1
    ∷ step_on 13 15 4 0
    ∷ step_on 13 15 4 1
    ∷ step_on 16 20 2 0
    ∷ step_on 16 20 2 1
    ∷ step_on 17 21 2 0
    ∷ step_on 17 21 2 1
    ∷ step_on 18 22 2 0
    ∷ step_on 18 22 2 1
    ∷ step_on 19 23 2 0
    ∷ step_on 19 23 2 1
    ∷ []

-- the same sources and half, and fields of 2, 4 or 8 bits in place of 8, 4 or 2
abbrev pub mirrored : Step → Step
mirrored s = step_on s.first s.second (16 / s.width) s.half

-- the way back: document 000's Figure 7
unfoldable pub merging_steps : List Step
merging_steps = map mirrored packing_steps
