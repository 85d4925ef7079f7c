-- What the calls on permutations answer. Assumes nothing.
use Rattle.std.specs.Prelude.{◌≡◌, Bool, true, not, cond, List, [], ◌∷◌, ◌++◌, ℕ, ◌^◌, eqb, length, take}
use Rattle.bits.specs.Refusal.{log_of, accepted, lowest}
use Rattle.network.specs.Calls.{Uses, controls}
use Rattle.routing.specs.Lists.{Words, ListPermutes, first_words}
use Rattle.permute.specs.declared.Routed.{Routed}
use Rattle.permute.specs.declared.RoutedOne.{RoutedOne}
use Rattle.permute.specs.Permutation.{names_once, RealisesAlone}
use Rattle.permute.specs.First.{First}

-- 'Calls turned back': 4, "order not w long"; 5, "order entry w or above, or repeated"
abbrev pub entries_conditions : ℕ → List ℕ → List (ℕ × Bool)
entries_conditions w entries = (4, not (eqb (length entries) w)) ∷ (5, not (names_once w entries)) ∷ []

-- before these 1, the width
abbrev pub route_conditions : ℕ → List ℕ → List (ℕ × Bool)
route_conditions w entries = (1, not (accepted w)) ∷ entries_conditions w entries

unfoldable pub route_refusal : ℕ → List ℕ → ℕ
route_refusal w entries = lowest (route_conditions w entries)

-- the first controls for both networks, or zeros
unfoldable pub route_answer : ℕ → List ℕ → Routed
route_answer w entries =
    let k = first_words (log_of w) entries in
    cond (eqb (route_refusal w entries) 0)
    (record { refusal = 0; butterfly = controls k.butterfly; inverse = controls k.inverse })
    (record { refusal = route_refusal w entries; butterfly = controls []; inverse = controls [] })

-- the stages in use of an answer
abbrev pub stages_in : ℕ → Routed → Words
stages_in L r = record { butterfly = take L r.butterfly.stages; inverse = take L r.inverse.stages }

-- an answer that is not a refusal holds the first controls
abbrev pub AnswersFirst : ℕ → List ℕ → Routed → Type 0
AnswersFirst w entries r = r.refusal ≡ 0 → First (log_of w) (stages_in (log_of w) r) entries

-- One network: 1, 4, 5 as above; 6, "order not realised by the one network named". `fits` says whether it is, `alone` gives its controls.
abbrev pub one_conditions : (ℕ → List ℕ → Bool) → ℕ → List ℕ → List (ℕ × Bool)
one_conditions fits w entries = route_conditions w entries ++ ((6, not (fits (log_of w) entries)) ∷ [])

unfoldable pub one_refusal : (ℕ → List ℕ → Bool) → ℕ → List ℕ → ℕ
one_refusal fits w entries = lowest (one_conditions fits w entries)

unfoldable pub one_answer : (ℕ → List ℕ → Bool) → (ℕ → List ℕ → List ℕ) → ℕ → List ℕ → RoutedOne
one_answer fits alone w entries =
    cond (eqb (one_refusal fits w entries) 0) (record { refusal = 0; controls = controls (alone (log_of w) entries) })
    (record { refusal = one_refusal fits w entries; controls = controls [] })

-- controls of network f (butterfly_of or inverse_of) that realise the permutation
abbrev pub ControlsAlone : (ℕ → List ℕ → ℕ → ℕ) → ℕ → List ℕ → List ℕ → Type 0
ControlsAlone f L cs entries = Uses L cs × RealisesAlone f L cs entries

-- "It gets the settings that realise it, or refusal 6 exactly if there are none."
pub record AnswersAlone (f : ℕ → List ℕ → ℕ → ℕ) (w : ℕ) (entries : List ℕ) (r : RoutedOne) : Type 0 where
  pub found : r.refusal ≡ 0 → ControlsAlone f (log_of w) (take (log_of w) r.controls.stages) entries
  pub none : r.refusal ≡ 6 → (cs : List ℕ) → ControlsAlone f (log_of w) cs entries → ⊥

-- The same of the definitions, for every permutation at width 2^L: if `fits` says so, `alone` gives controls that realise it; if any controls do, `fits` says so
-- and they are these.
pub record DecidesAlone (f : ℕ → List ℕ → ℕ → ℕ) (fits : ℕ → List ℕ → Bool) (alone : ℕ → List ℕ → List ℕ) : Type 0 where
  pub found : (L : ℕ) (entries : List ℕ) → ListPermutes (2 ^ L) entries → fits L entries ≡ true → ControlsAlone f L (alone L entries) entries
  pub exactly : (L : ℕ) (entries : List ℕ) → ListPermutes (2 ^ L) entries → (cs : List ℕ) → ControlsAlone f L cs entries
      → (fits L entries ≡ true) × (cs ≡ alone L entries)
