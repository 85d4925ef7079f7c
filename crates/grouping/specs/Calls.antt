-- What the call on a permutation by groups answers. Assumes nothing.
use Rattle.std.specs.Prelude.{◌≡◌, Bool, not, cond, List, [], ◌∷◌, ℕ, ◌^◌, ◌<◌, eqb, take}
use Rattle.bits.specs.Bit.{pick}
use Rattle.bits.specs.Refusal.{log_to_64, accepted_to_64, lowest}
use Rattle.gather.specs.Gather.{group_of, answer_of}
use Rattle.network.specs.Calls.{six}
use Rattle.permute.specs.Calls.{entries_conditions}
use Rattle.grouping.specs.declared.Masks.{Masks}
use Rattle.grouping.specs.Groups.{group_masks}

-- "Refusals 1, 4 and 5 are met as in the finder", "at all four widths"
abbrev pub groups_conditions : ℕ → List ℕ → List (ℕ × Bool)
groups_conditions w entries = (1, not (accepted_to_64 w)) ∷ entries_conditions w entries

unfoldable pub groups_refusal : ℕ → List ℕ → ℕ
groups_refusal w entries = lowest (groups_conditions w entries)

-- the masks of steps 0 to L - 1, and zeros after them
unfoldable pub groups_answer : ℕ → List ℕ → Masks
groups_answer w entries =
    cond (eqb (groups_refusal w entries) 0) (record { refusal = 0; masks = six (group_masks (log_to_64 w) entries) })
    (record { refusal = groups_refusal w entries; masks = six [] })

-- The calls of group by masks in turn, each on the word that the one before answered: every one is carried out, and the last word is y.
abbrev pub CallsGroup : ℕ → List ℕ → ℕ → ℕ → Type 0
CallsGroup w [] x y = x ≡ y
CallsGroup w (m ∷ ms) x y = let a = answer_of group_of w m x in (a.refusal ≡ 0) × CallsGroup w ms a.word y

-- "Grouping by these masks in turn must bring every line of every word to its place": so do the masks of an answer that is not a refusal
abbrev pub AnswersGroups : ℕ → List ℕ → Masks → Type 0
AnswersGroups w entries r = r.refusal ≡ 0 → (x : ℕ) → x < 2 ^ w → CallsGroup w (take (log_to_64 w) r.masks) x (pick entries x)
