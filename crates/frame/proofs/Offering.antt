-- The rest of the guarantees, and how it is offered in number order, one channel more. Assumes nothing.
use Rattle.std.proofs.Common.{◌≡◌, refl, ◌∙◌, ap, List, [], ◌∷◌, ℕ, zero, suc, ◌+◌, ◌-◌, ◌*◌, ◌<◌, ◌≤◌, map, length, length-drop, get_or, set, take, drop, Bor, replicate, sum, add-one, arith}
use Rattle.bits.specs.Bit.{up_to, overwritten}
use Rattle.bits.proofs.FilledLists.{fill_none, fill-next}
use Rattle.unit.specs.Bank.{fresh_bank}
use Rattle.runs.specs.declared.Turn.{Turn}
use Rattle.std.proofs.Math.ListN.{get_or-map}
use Rattle.std.proofs.Math.Seq.{take-length}
use Rattle.std.proofs.lemmas.List.Sums.{sum_by-cons}
use Rattle.runs.specs.Run.{operations_of}
use Rattle.runs.proofs.OperationLists.{operations-after}
use Rattle.frame.specs.Frame.{brought_by, rest_of}
use Rattle.frame.specs.Offers.{counted_of, turn_at, first_of, unused_of, rest_after, offered_to, budget_of, budgets_by}

-- a list of four, entry by entry, and its sum
pub four-are : {A : Type 0} (d : A) (xs : List A) → length xs ≡ 4 → xs ≡ get_or xs 0 d ∷ get_or xs 1 d ∷ get_or xs 2 d ∷ get_or xs 3 d ∷ []
four-are d (a ∷ b ∷ c ∷ e ∷ []) h = refl
four-are d [] h = absurd (omega (arith, h))
four-are d (a ∷ []) h = absurd (omega (arith, h))
four-are d (a ∷ b ∷ []) h = absurd (omega (arith, h))
four-are d (a ∷ b ∷ c ∷ []) h = absurd (omega (arith, h))
four-are d (a ∷ b ∷ c ∷ e ∷ x ∷ xs) h = absurd (omega (arith, h))

pub sum-of-four : (xs : List ℕ) → length xs ≡ 4 → sum xs ≡ get_or xs 0 0 + get_or xs 1 0 + get_or xs 2 0 + get_or xs 3 0
sum-of-four xs h = ap sum (four-are 0 xs h) ∙ omega arith

-- first turns, each by its number, in a list
pub first-turns : (ls : List (List ℕ)) (gs : List ℕ) (ts : List Turn) → length ts ≡ 4 → ((n : ℕ) → n < 4 → turn_at ts n ≡ first_of ls gs n)
    → ts ≡ first_of ls gs 0 ∷ first_of ls gs 1 ∷ first_of ls gs 2 ∷ first_of ls gs 3 ∷ []
first-turns ls gs ts h f =
    four-are (record { ran = 0; cycles = 0 }) ts h ∙ (λ i. f 0 (omega arith) i ∷ f 1 (omega arith) i ∷ f 2 (omega arith) i ∷ f 3 (omega arith) i ∷ [])

-- what is left of guarantees is no more than all of them, nor is it with what one channel used
pub unused-fits : (ts : List Turn) (gs : List ℕ) → unused_of ts gs ≤ sum gs
unused-fits [] gs = omega arith
unused-fits (t ∷ ts) [] = omega arith
unused-fits (t ∷ ts) (g ∷ gs) = omega (arith, unused-fits ts gs, sum_by-cons (λ x. x) g gs)

pub used-fits : (ts : List Turn) (gs : List ℕ) → length ts ≡ length gs → (n : ℕ) → n < length ts
    → ((m : ℕ) → m < length ts → (turn_at ts m).cycles ≤ get_or gs m 0) → (turn_at ts n).cycles + unused_of ts gs ≤ sum gs
used-fits [] gs l n h k = absurd (omega (arith, h))
used-fits (t ∷ ts) [] l n h k = absurd (omega (arith, l))
used-fits (t ∷ ts) (g ∷ gs) l zero h k = omega (arith, unused-fits ts gs, k 0 (omega arith), sum_by-cons (λ x. x) g gs)
used-fits (t ∷ ts) (g ∷ gs) l (suc n) h k = omega (arith, used-fits ts gs (omega (arith, l)) n (omega (arith, h)) (λ m e. k (suc m) (omega (arith, e))), sum_by-cons (λ x. x) g gs)

-- a list among those lent
abbrev pub lent_at : List (Bor (List ℕ)) → ℕ → List ℕ
lent_at ls n = (get_or ls n (record { ref_ptr = (0, 0); now = [] })).now

pub list-at : (ls : List (Bor (List ℕ))) (n : ℕ) → get_or (map (λ l. l.now) ls) n [] ≡ lent_at ls n
list-at ls n = get_or-map (λ (l : Bor (List ℕ)). l.now) ls n (record { ref_ptr = (0, 0); now = [] })

-- what a second turn leaves, counted from the byte where the first one stopped
pub second-leaves : (bytes : List ℕ) (ran left : ℕ) {at : ℕ} {second : Turn} → at ≡ 4 * ran → second ≡ counted_of (operations_of (take (length bytes - at) (drop at bytes))) left
    → left - second.cycles ≡ rest_after bytes ran left
second-leaves bytes ran left {at} e f =
    let all : take (length bytes - at) (drop at bytes) ≡ drop at bytes = rw (← length-drop at bytes) (take-length (drop at bytes)) in
    rw (f, all, e, operations-after ran bytes)

module _ (ls : List (List ℕ)) (ts : List Turn) (rest : ℕ) where
  -- before channel n: the budgets of the channels before it, and what is left of the rest
  pub record Offered (n : ℕ) (budgets : List ℕ) (left : ℕ) : Type 0 where
    pub filled : budgets ≡ overwritten n (budget_of ls ts rest) (replicate 4 0)
    pub is : left ≡ offered_to ls ts rest n
    pub within : left ≤ rest

  pub offered-none : Offered 0 (replicate 4 0) rest
  unfolding offered_to
  offered-none = record { filled = fill_none (budget_of ls ts rest) (replicate 4 0); is = refl; within = omega arith }

  module _ {n : ℕ} {budgets : List ℕ} {left : ℕ} (h : Offered n budgets left) where
    pub offered-next : n < length budgets → {more : List ℕ} {less : ℕ} → more ≡ set budgets n ((turn_at ts n).cycles + left)
        → less ≡ rest_after (get_or ls n []) (turn_at ts n).ran left → Offered (n + 1) more less
    unfolding offered_to
    offered-next l e f =
        let w = h.within in
        record {
          filled = e ∙ fill-next (budget_of ls ts rest) n (replicate 4 0) l h.filled (ap (λ (m : ℕ). (turn_at ts n).cycles + m) h.is);
          is = f ∙ ap (rest_after (get_or ls n []) (turn_at ts n).ran) h.is ∙ rw (add-one n);
          within = omega (arith, w, f);
        }

-- four channels after their first turns
pub budgets-by : (ls : List (List ℕ)) (gs : List ℕ) (ts : List Turn) → length ls ≡ 4 → length gs ≡ 4 → length ts ≡ 4 → ((n : ℕ) → n < 4 → turn_at ts n ≡ first_of ls gs n)
    → {rest : ℕ} → rest ≡ unused_of ts gs → up_to 4 (budget_of ls ts rest) ≡ budgets_by ls gs
unfolding rest_of
budgets-by ls gs ts h k long f {rest} g =
    let e = first-turns ls gs ts long f in
    let four = get_or ls 0 [] ∷ get_or ls 1 [] ∷ get_or ls 2 [] ∷ get_or ls 3 [] ∷ [] in
    let r : rest ≡ rest_of (brought_by (replicate 4 fresh_bank) four gs) = g ∙ rw e (rw (four-are 0 gs k) (omega arith)) in
    let q : rest ≡ rest_of (brought_by (replicate 4 fresh_bank) ls gs) = rw (four-are [] ls h) r in
    λ i. up_to 4 (budget_of ls (e i) (q i))
