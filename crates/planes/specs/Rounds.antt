-- The list of steps as the code runs it: a table of bytes, and 32 words of which the results so far fill the first. Internal: no answer of a call cites it.
-- `filled-steps` says that it is `after_steps`. Assumes nothing.
use Rattle.std.specs.Prelude.{ℕ, zero, suc, ◌+◌, ◌*◌, ◌/◌, ◌%◌, ◌^◌, Bool, false, cond, ◌&&◌, ◌||◌, List, [], ◌∷◌, eqb, ltb, get_or, set}
use Rattle.bits.specs.Bit.{bit, byte_at, of_bits}
use Rattle.planes.specs.declared.Round.{Round}
use Rattle.planes.specs.Steps.{Step, kept_place, merge_halves, result_of, step_on}

-- each result into its place, from n up
unfoldable pub fill_steps : (ℕ → ℕ → ℕ → ℕ → ℕ) → ℕ → List Step → List ℕ → List ℕ
fill_steps kind n [] ws = ws
fill_steps kind n (s ∷ ss) ws = fill_steps kind (suc n) ss (set ws n (result_of kind s ws))

-- a merging step by the packing step that it mirrors
abbrev pub mirrored_merge : ℕ → ℕ → ℕ → ℕ → ℕ
mirrored_merge width half x y = merge_halves (16 / width) half x y

-- the step of byte t
abbrev pub step_at : Round → ℕ → Step
step_at r t = step_on (byte_at (get_or r.sources 0 0) t) (byte_at (get_or r.sources 1 0) t) (byte_at (get_or r.fields 0 0) t) (byte_at (get_or r.fields 1 0) t)

-- n steps from byte t on
unfoldable pub steps_from : Round → ℕ → ℕ → List Step
steps_from r t zero = []
steps_from r t (suc n) = step_at r t ∷ steps_from r (suc t) n

abbrev pub round_steps : Round → List Step
round_steps r = steps_from r 0 8

-- the code's table
abbrev pub rounds : List Round
rounds =
    record { sources = 0x0606040402020000 ∷ 0x0707050503030101 ∷ []; fields = 0x0808080808080808 ∷ 0x0100010001000100 ∷ [] }
    ∷ record { sources = 0x0D0D0C0C09090808 ∷ 0x0F0F0E0E0B0B0A0A ∷ []; fields = 0x0404040404040404 ∷ 0x0100010001000100 ∷ [] }
    ∷ record { sources = 0x1313121211111010 ∷ 0x1717161615151414 ∷ []; fields = 0x0202020202020202 ∷ 0x0100010001000100 ∷ [] }
    ∷ []

abbrev pub no_round : Round
no_round = record { sources = []; fields = [] }

abbrev pub round_at : ℕ → Round
round_at n = get_or rounds n no_round

-- a field's width in a step
abbrev pub is_width : ℕ → Bool
is_width w = eqb w 2 || (eqb w 4 || eqb w 8)

-- a step that has its sources among 32 words
abbrev pub is_step : Step → Bool
is_step s = ltb s.first 32 && (ltb s.second 32 && (is_width s.width && ltb s.half 2))

-- half a field's width, where fields fill a word: 2^e for an e below n, which is 6
abbrev pub is_power : ℕ → ℕ → Bool
is_power zero h = false
is_power (suc n) h = eqb h (2 ^ n) || is_power n h

abbrev pub is_half : ℕ → Bool
is_half h = is_power 6 h

-- the kept halves of one word, end to end
unfoldable pub kept_halves : ℕ → ℕ → ℕ → ℕ
kept_halves w half x = of_bits 32 (λ j. bit x (kept_place w half j))

-- h bits of x and of y by turns: the low half of field J is bits J×h to J×h + h - 1 of x, the high half those of y
unfoldable pub by_turns : ℕ → ℕ → ℕ → ℕ
by_turns h x y = of_bits 64 (λ p. bit (cond (eqb (p / h % 2) 0) x y) (p / h / 2 * h + p % h))

-- in every two fields, four halves, the second half and the third change places
abbrev pub cross_place : ℕ → ℕ → ℕ
cross_place h p = let n = p / h in ((n / 2 / 2 * 2 + n % 2) * 2 + n / 2 % 2) * h + p % h

unfoldable pub crossed_of : ℕ → ℕ → ℕ
crossed_of h x = of_bits 64 (λ p. bit x (cross_place h p))
