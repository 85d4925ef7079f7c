-- The list of steps as the code runs it, round by round over 32 words, is the list of steps. Assumes nothing.
use mathlib.Core.Path.{◌≡◌, refl, sym, ◌∙◌, ap, ap₂}
use mathlib.Core.Bool.{true}
use mathlib.Core.List.{List, [], ◌∷◌, ◌++◌, append_assoc, append-nil, map}
use Prim.Native.Nat.{ℕ, zero, suc, ◌+◌, ◌-◌, ◌*◌, ◌/◌, ◌%◌, ◌<◌}
use native.Mathlib.Omega.{arith}
use native.Mathlib.Decide.{dec_lt}
use native.Mathlib.Nat.{suc-add, zero-add}
use lib.ListN.{length, get_or, drop, set, replicate, length-append, get_or-append, get_or-eq_default, get_or-replicate, length-replicate}
use lib.Seq.{drop-cons, get_or-append-add, set_at}
use Rattle.bits.proofs.Computed.{every, every-at}
use Rattle.planes.specs.Steps.{Step, merge_halves, result_of, after_steps, mirrored, packing_steps, merging_steps}
use Rattle.planes.specs.declared.Round.{Round}
use Rattle.planes.specs.Rounds.{fill_steps, step_at, steps_from, round_steps, no_round, rounds, round_at, is_step, mirrored_merge}
use Rattle.planes.proofs.PlaneRules.{packing-24}

-- one list after the other
fill-append : (kind : ℕ → ℕ → ℕ → ℕ → ℕ) (n : ℕ) (ss ts : List Step) (ws : List ℕ) → fill_steps kind n (ss ++ ts) ws ≡ fill_steps kind (n + length ss) ts (fill_steps kind n ss ws)
unfolding fill_steps
fill-append kind n [] ts ws = let e : n ≡ n + 0 = omega arith in ap (λ (k : ℕ). fill_steps kind k ts ws) e
fill-append kind n (s ∷ ss) ts ws =
    let vs = fill_steps kind (suc n) ss (set ws n (result_of kind s ws)) in
    let e : suc n + length ss ≡ n + suc (length ss) = omega arith in
    fill-append kind (suc n) ss ts (set ws n (result_of kind s ws)) ∙ ap (λ (k : ℕ). fill_steps kind k ts vs) e

-- a turn of a round
pub step-turn : (kind : ℕ → ℕ → ℕ → ℕ → ℕ) (r : Round) (n t : ℕ) (ws : List ℕ) {v : ℕ} → t < 8 → v ≡ result_of kind (step_at r t) ws
    → fill_steps kind (n + (t + 1)) (steps_from r (t + 1) (8 - (t + 1))) (set ws (n + t) v) ≡ fill_steps kind (n + t) (steps_from r t (8 - t)) ws
unfolding fill_steps steps_from
step-turn kind r n t ws {v} h e =
    let m : 8 - t ≡ suc (8 - (t + 1)) = omega arith in
    let i : n + (t + 1) ≡ suc (n + t) = omega arith in
    let j : t + 1 ≡ suc t = omega arith in
    rw (m, i, j, e)

length_from : (r : Round) (t n : ℕ) → length (steps_from r t n) ≡ n
unfolding steps_from
length_from r t zero = refl
length_from r t (suc n) = ap suc (length_from r (suc t) n)

-- rounds one after the other
unfoldable pub listed : List Round → List Step
listed [] = []
listed (r ∷ rs) = round_steps r ++ listed rs

pub round-turn : (kind : ℕ → ℕ → ℕ → ℕ → ℕ) (r : Round) (rs : List Round) (n : ℕ) (ws : List ℕ) {vs : List ℕ} → vs ≡ fill_steps kind n (round_steps r) ws
    → fill_steps kind (n + 8) (listed rs) vs ≡ fill_steps kind n (listed (r ∷ rs)) ws
unfolding listed
round-turn kind r rs n ws e =
    ap (fill_steps kind (n + 8) (listed rs)) e
    ∙ ap (λ (k : ℕ). fill_steps kind (n + k) (listed rs) (fill_steps kind n (round_steps r) ws)) (sym (length_from r 0 8))
    ∙ sym (fill-append kind n (round_steps r) (listed rs) ws)

-- Results into their places among zeros are results one after the other.

get_or-room : (xs : List ℕ) (m i : ℕ) → get_or (xs ++ replicate m 0) i 0 ≡ get_or xs i 0
get_or-room xs m i = by_cases (dec_lt i (length xs))
  where
    beyond : (k : ℕ) → Dec (k < m) → get_or (replicate {A = ℕ} m 0) k 0 ≡ 0
    beyond k (yes l) = get_or-replicate m k 0 0 l
    beyond k (no n) = get_or-eq_default (replicate m 0) 0 {n = k} (omega (arith, length-replicate {A = ℕ} m 0))

    by_cases : Dec (i < length xs) → get_or (xs ++ replicate m 0) i 0 ≡ get_or xs i 0
    by_cases (yes l) = get_or-append xs (replicate m 0) 0 i l
    by_cases (no n) =
        let e : length xs + (i - length xs) ≡ i = omega arith in
        ap (λ (k : ℕ). get_or (xs ++ replicate m 0) k 0) (sym e)
        ∙ get_or-append-add xs (replicate m 0) (i - length xs) 0
        ∙ beyond (i - length xs) (dec_lt (i - length xs) m)
        ∙ sym (get_or-eq_default xs 0 {n = i} (omega arith))

result-room : (kind : ℕ → ℕ → ℕ → ℕ → ℕ) (s : Step) (xs : List ℕ) (m : ℕ) → result_of kind s (xs ++ replicate m 0) ≡ result_of kind s xs
result-room kind s xs m = rw (get_or-room xs m s.first, get_or-room xs m s.second)

pub filled-steps : (kind : ℕ → ℕ → ℕ → ℕ → ℕ) (ss : List Step) (xs : List ℕ) (n m : ℕ) → length xs ≡ n
    → fill_steps kind n ss (xs ++ replicate (length ss + m) 0) ≡ after_steps kind ss xs ++ replicate m 0
unfolding fill_steps after_steps
filled-steps kind [] xs n m e = ap (λ (k : ℕ). xs ++ replicate k 0) (zero-add m)
filled-steps kind (s ∷ ss) xs n m e =
    let k = length ss + m in
    let r = result_of kind s xs in
    let room : xs ++ replicate {A = ℕ} (suc (length ss) + m) 0 ≡ xs ++ (0 ∷ replicate (length ss + m) 0) = ap (λ (j : ℕ). xs ++ replicate j 0) (suc-add (length ss) m) in
    let put : set (xs ++ replicate (suc (length ss) + m) 0) n (result_of kind s (xs ++ replicate (suc (length ss) + m) 0)) ≡ (xs ++ (r ∷ [])) ++ replicate k 0 =
    ap₂ (λ (ws : List ℕ) (v : ℕ). set ws n v) room (result-room kind s xs (suc (length ss) + m))
    ∙ set_at xs 0 (replicate k 0) r n e
    ∙ sym (append_assoc xs (r ∷ []) (replicate k 0))
    in
    ap (fill_steps kind (suc n) ss) put ∙ filled-steps kind ss (xs ++ (r ∷ [])) (suc n) m (length-append xs (r ∷ []) ∙ omega (arith, e))

-- The rounds of the table are the list.

listed-all : listed rounds ≡ packing_steps
unfolding listed steps_from packing_steps
listed-all = refl

all-steps : every 24 (λ i. is_step (step_at (round_at (i / 8)) (i % 8))) ≡ true
unfolding every
all-steps = refl

pub rounds-step : (k t : ℕ) → k < 3 → t < 8 → is_step (step_at (round_at k) t) ≡ true
rounds-step k t hk ht =
    let d : (8 * k + t) / 8 ≡ k = omega arith in
    let m : (8 * k + t) % 8 ≡ t = omega arith in
    rw (d, m) at (every-at 24 (λ i. is_step (step_at (round_at (i / 8)) (i % 8))) all-steps (8 * k + t) (omega arith))

pub rounds-turn : (kind : ℕ → ℕ → ℕ → ℕ → ℕ) (k : ℕ) (ws : List ℕ) {vs : List ℕ} → k < 3 → vs ≡ fill_steps kind (8 + 8 * k) (round_steps (round_at k)) ws
    → fill_steps kind (8 + 8 * (k + 1)) (listed (drop (k + 1) rounds)) vs ≡ fill_steps kind (8 + 8 * k) (listed (drop k rounds)) ws
rounds-turn kind k ws {vs} h e =
    let r = round_at k in
    let n : 8 + 8 * (k + 1) ≡ 8 + 8 * k + 8 = omega arith in
    let j : k + 1 ≡ suc k = omega arith in
    rw (n, j) (round-turn kind r (drop (suc k) rounds) (8 + 8 * k) ws e) ∙ ap (λ (rs : List Round). fill_steps kind (8 + 8 * k) (listed rs) ws) (sym (drop-cons rounds k no_round h))

pub rounds-end : (kind : ℕ → ℕ → ℕ → ℕ → ℕ) (k : ℕ) (ws : List ℕ) {begun filled : List ℕ} → length ws ≡ 8 → k ≡ 3 → begun ≡ ws ++ replicate 24 0
    → fill_steps kind (8 + 8 * k) (listed (drop k rounds)) filled ≡ fill_steps kind 8 (listed rounds) begun → filled ≡ after_steps kind packing_steps ws
unfolding fill_steps listed
rounds-end kind k ws {begun} {filled} eight e s q =
    rw e at q
    ∙ ap₂ (fill_steps kind 8) listed-all (s ∙ ap (λ (n : ℕ). ws ++ replicate (n + 0) 0) (sym packing-24))
    ∙ filled-steps kind packing_steps ws 8 0 eight
    ∙ append-nil (after_steps kind packing_steps ws)

-- a list by the mirrored kind is the mirrored list
after-mirrored : (ss : List Step) (ws : List ℕ) → after_steps mirrored_merge ss ws ≡ after_steps merge_halves (map mirrored ss) ws
unfolding after_steps
after-mirrored [] ws = refl
after-mirrored (s ∷ ss) ws = after-mirrored ss (ws ++ (result_of mirrored_merge s ws ∷ []))

pub merging-list : (ws : List ℕ) → after_steps mirrored_merge packing_steps ws ≡ after_steps merge_halves merging_steps ws
unfolding merging_steps
merging-list ws = after-mirrored packing_steps ws
