-- The lowest refusal over all lists, from the lowest of each. Assumes nothing.
use Rattle.std.proofs.Common.{append_assoc, append-nil, ◌≡◌, refl, sym, ◌∙◌, ap, subst, ◌⊎◌, inl, inr, Bool, true, false, cond, ◌||◌, List, [], ◌∷◌, ◌++◌, map, ℕ, zero, suc, ◌<◌, ◌≤◌, arith, eqb, leb, ltb, length, get_or, sum, All, Bor}
use native.Mathlib.Decide.{ℕ_discrete}
use borrow.Author.Tests.{eq-eqb, ne_eqb, le-leb, lt-leb, ltb-false}
use Rattle.bits.specs.Refusal.{lowest, Rising}
use Rattle.bits.proofs.Refusals.{lowest-more}
use Rattle.unit.specs.declared.Bank.{Bank}
use Rattle.unit.specs.Bank.{fresh_bank}
use Rattle.runs.specs.Run.{run_conditions, run_refusal}
use Rattle.runs.proofs.OperationLists.{run-within}
use Rattle.frame.specs.Frame.{Brought, brought_from, brought_by, other_waits, applying, applying_to_some, guaranteed, list_numbers, lists_conditions, frame_refusal}
use Rattle.frame.specs.Offers.{Whole, lower_of, sum_conditions}
use Rattle.frame.proofs.Offering.{four-are, sum-of-four, list-at}
use Rattle.std.proofs.Math.Bool.{or-false, or_assoc}
use Rattle.std.proofs.lemmas.List.Elements.{All-from_get_or}

-- numbers with the condition of each
abbrev asking : (ℕ → Bool) → List ℕ → List (ℕ × Bool)
asking p ns = map (λ n. (n, p n)) ns

-- the lowest of numbers above b is none, or above b
above : (p : ℕ → Bool) (b : ℕ) (ns : List ℕ) → Rising b (asking p ns) → (lowest (asking p ns) ≡ 0) ⊎ (b < lowest (asking p ns))
above p b [] r = inl refl
above p b (n ∷ ns) r = by-test (p n) (above p n ns r.1)
  where
    by-test : (t : Bool) → (lowest (asking p ns) ≡ 0) ⊎ (n < lowest (asking p ns)) → (cond t n (lowest (asking p ns)) ≡ 0) ⊎ (b < cond t n (lowest (asking p ns)))
    by-test true h = inr r.0
    by-test false (inl z) = inl z
    by-test false (inr l) = inr (omega (arith, r.0, l))

-- of two refusals, where one is not above the other
lower-first : (n m : ℕ) → 0 < n → (m ≡ 0) ⊎ (n < m) → lower_of n m ≡ n
lower-first n m h (inl z) = rw (ne_eqb n 0 (λ e. omega (arith, h, e)), eq-eqb m 0 z)
lower-first n m h (inr l) = rw (ne_eqb n 0 (λ e. omega (arith, h, e)), ne_eqb m 0 (λ e. omega (arith, l, e)), le-leb n m (omega arith))

lower-second : (n m : ℕ) → 0 < m → (n ≡ 0) ⊎ (m < n) → lower_of n m ≡ m
lower-second n m h (inl z) = rw (eq-eqb n 0 z)
lower-second n m h (inr l) = rw (ne_eqb n 0 (λ e. omega (arith, l, e)), ne_eqb m 0 (λ e. omega (arith, h, e)), lt-leb n m l)

lower-same : (n : ℕ) → 0 < n → lower_of n n ≡ n
lower-same n h = rw (ne_eqb n 0 (λ e. omega (arith, h, e)), le-leb n n (omega arith))

lower-either : (p q : ℕ → Bool) (b : ℕ) (ns : List ℕ) → Rising b (asking p ns) → Rising b (asking q ns) → lower_of (lowest (asking p ns)) (lowest (asking q ns)) ≡ lowest (asking (λ n. p n || q n) ns)
lower-either p q b [] r s = refl
lower-either p q b (n ∷ ns) r s = by_tests (p n) (q n) (above p n ns r.1) (above q n ns s.1) (lower-either p q n ns r.1 s.1)
  where
    x : ℕ
    x = lowest (asking p ns)

    y : ℕ
    y = lowest (asking q ns)

    z : ℕ
    z = lowest (asking (λ n. p n || q n) ns)

    by_tests : (t u : Bool) → (x ≡ 0) ⊎ (n < x) → (y ≡ 0) ⊎ (n < y) → lower_of x y ≡ z → lower_of (cond t n x) (cond u n y) ≡ cond (t || u) n z
    by_tests true true f g e = lower-same n (omega (arith, r.0))
    by_tests true false f g e = lower-first n y (omega (arith, r.0)) g
    by_tests false true f g e = lower-second x n (omega (arith, r.0)) f
    by_tests false false f g e = e

-- one channel more
pub lists-more : (c : Brought) (cs : List Brought) {r s : ℕ} → r ≡ run_refusal (other_waits c) c.bytes → s ≡ lowest (lists_conditions cs) → lower_of r s ≡ lowest (lists_conditions (c ∷ cs))
unfolding run_refusal
lists-more c cs e f =
    (λ i. lower_of (e i) (f i)) ∙ lower-either (λ n. applying n (run_conditions (other_waits c) c.bytes)) (λ n. applying_to_some n cs) 0 list_numbers (omega arith) (omega arith)

-- one channel more at the end
or-last : (n : ℕ) (cs : List Brought) (c : Brought) → (applying_to_some n cs || applying n (run_conditions (other_waits c) c.bytes)) ≡ applying_to_some n (cs ++ (c ∷ []))
or-last n [] c = sym (or-false (applying n (run_conditions (other_waits c) c.bytes)))
or-last n (b ∷ cs) c =
    or_assoc (applying n (run_conditions (other_waits b) b.bytes)) (applying_to_some n cs) (applying n (run_conditions (other_waits c) c.bytes))
    ∙ ap (λ (t : Bool). applying n (run_conditions (other_waits b) b.bytes) || t) (or-last n cs c)

pub lists-last : (c : Brought) (cs : List Brought) {r s : ℕ} → r ≡ lowest (lists_conditions cs) → s ≡ run_refusal (other_waits c) c.bytes → lower_of r s ≡ lowest (lists_conditions (cs ++ (c ∷ [])))
unfolding run_refusal
lists-last c cs e f =
    (λ i. lower_of (e i) (f i)) ∙ lower-either (λ n. applying_to_some n cs) (λ n. applying n (run_conditions (other_waits c) c.bytes)) 0 list_numbers (omega arith) (omega arith)
    ∙ (λ i. lowest ((4, or-last 4 cs c i) ∷ (7, or-last 7 cs c i) ∷ (8, or-last 8 cs c i) ∷ (14, or-last 14 cs c i) ∷ []))

-- with none over all lists there is none of each
lower-none-of : (r s : ℕ) → lower_of r s ≡ 0 → (r ≡ 0) × (s ≡ 0)
lower-none-of r s e = by_cases (ℕ_discrete r 0) (ℕ_discrete s 0)
  where
    by_cases : Dec (r ≡ 0) → Dec (s ≡ 0) → (r ≡ 0) × (s ≡ 0)
    by_cases (yes y) (yes z) = (y, z)
    by_cases (yes y) (no z) = absurd (z (rw (eq-eqb r 0 y) at e))
    by_cases (no y) (yes z) = absurd (y (rw (ne_eqb r 0 y, eq-eqb s 0 z) at e))
    by_cases (no y) (no z) = absurd (by-test (leb r s) (rw (ne_eqb r 0 y, ne_eqb s 0 z) at e))
      where
        by-test : (b : Bool) → cond b r s ≡ 0 → ⊥
        by-test true f = y f
        by-test false f = z f

abbrev pub AllAccepted : List Brought → Type 0
AllAccepted [] = Unit
AllAccepted (c ∷ cs) = (run_refusal (other_waits c) c.bytes ≡ 0) × AllAccepted cs

lists-accept : (cs : List Brought) → lowest (lists_conditions cs) ≡ 0 → AllAccepted cs
lists-accept [] e = tt
lists-accept (c ∷ cs) e = let r = lower-none-of _ _ (lists-more c cs refl refl ∙ e) in (r.0, lists-accept cs r.1)

pub lists-accepted : (cs : List Brought) → AllAccepted cs → lowest (lists_conditions cs) ≡ 0
lists-accepted [] a = refl
lists-accepted (c ∷ cs) a = sym (lists-more c cs (sym a.0) (sym (lists-accepted cs a.1)))

-- a frame's refusal from that of its lists, and back
module _ (cs : List Brought) (cycles : ℕ) where
  split : frame_refusal cs cycles ≡ cond (eqb (lowest (lists_conditions cs)) 0) (lowest ((15, ltb cycles (guaranteed cs)) ∷ [])) (lowest (lists_conditions cs))
  unfolding frame_refusal
  split = lowest-more 0 (lists_conditions cs) ((15, ltb cycles (guaranteed cs)) ∷ []) (omega arith)

  pub frame-refusal-by : AllAccepted cs → frame_refusal cs cycles ≡ lowest ((15, ltb cycles (guaranteed cs)) ∷ [])
  frame-refusal-by a = split ∙ ap (λ (r : ℕ). cond (eqb r 0) (lowest ((15, ltb cycles (guaranteed cs)) ∷ [])) r) (lists-accepted cs a)

  pub frame-accepts : frame_refusal cs cycles ≡ 0 → AllAccepted cs × (guaranteed cs ≤ cycles)
  frame-accepts e = by_cases (ℕ_discrete (lowest (lists_conditions cs)) 0)
    where
      by_cases : Dec (lowest (lists_conditions cs) ≡ 0) → AllAccepted cs × (guaranteed cs ≤ cycles)
      by_cases (yes z) = (lists-accept cs z, by-test (ltb cycles (guaranteed cs)) refl (rw (eq-eqb _ 0 z) at (sym split ∙ e)))
        where
          by-test : (b : Bool) → ltb cycles (guaranteed cs) ≡ b → ◌≡◌ {A = ℕ} (cond b 15 0) 0 → guaranteed cs ≤ cycles
          by-test true t f = absurd (omega (arith, f))
          by-test false t f = ltb-false cycles (guaranteed cs) t
      by_cases (no z) = absurd (z (rw (ne_eqb _ 0 z) at (sym split ∙ e)))

-- four channels, each by its number
abbrev pub channel_at : List Bank → List (List ℕ) → List ℕ → ℕ → Brought
channel_at ks ls gs n = record { bank = get_or ks n fresh_bank; bytes = get_or ls n []; guarantee = get_or gs n 0 }

abbrev pub channels_at : List Bank → List (List ℕ) → List ℕ → List Brought
channels_at ks ls gs = channel_at ks ls gs 0 ∷ channel_at ks ls gs 1 ∷ channel_at ks ls gs 2 ∷ channel_at ks ls gs 3 ∷ []

pub channels-are : (ks : List Bank) (ls : List (List ℕ)) (gs : List ℕ) → length ks ≡ 4 → length ls ≡ 4 → brought_by ks ls gs ≡ channels_at ks ls gs
channels-are ks ls gs h g = λ i. brought_by (four-are fresh_bank ks h i) (four-are [] ls g i) gs

-- with no guarantees, from any number on
unnumbered : (n m : ℕ) (ks : List Bank) (ls : List (List ℕ)) → brought_from n ks ls [] ≡ brought_from m ks ls []
unnumbered n m [] ls = refl
unnumbered n m (k ∷ ks) [] = refl
unnumbered n m (k ∷ ks) (l ∷ ls) = ap (λ (cs : List Brought). record { bank = k; bytes = l; guarantee = 0 } ∷ cs) (unnumbered (suc n) (suc m) ks ls)

-- the lowest refusal r over the channels before these, of all
pub record Checked (all : List Brought) (r : ℕ) (ks : List Bank) (ls : List (List ℕ)) : Type 0 where
  pub before : List Brought
  pub lowest-before : r ≡ lowest (lists_conditions before)
  pub together : before ++ brought_by ks ls [] ≡ all

pub checked-next : {all : List Brought} {r : ℕ} {k : Bank} {ks : List Bank} {l : List ℕ} {ls : List (List ℕ)} → Checked all r (k ∷ ks) (l ∷ ls)
    → {s : ℕ} → s ≡ run_refusal (other_waits (record { bank = k; bytes = l; guarantee = 0 })) l → Checked all (lower_of r s) ks ls
checked-next {k} {ks} {l} {ls} h e =
    let c : Brought = record { bank = k; bytes = l; guarantee = 0 } in
    record {
      before = h.before ++ (c ∷ []);
      lowest-before = lists-last c h.before h.lowest-before e;
      together = append_assoc h.before (c ∷ []) (brought_by ks ls []) ∙ ap (λ (cs : List Brought). h.before ++ (c ∷ cs)) (unnumbered 0 1 ks ls) ∙ h.together;
    }

pub checked-all : {all : List Brought} {r : ℕ} (ks : List Bank) {ls : List (List ℕ)} → length ks ≡ 0 → Checked all r ks ls → r ≡ lowest (lists_conditions all)
checked-all [] e h = h.lowest-before ∙ ap (λ (cs : List Brought). lowest (lists_conditions cs)) (sym (append-nil h.before) ∙ h.together)
checked-all (k ∷ ks) e h = absurd (omega (arith, e))

module _ (ks : List Bank) (ls : List (List ℕ)) (gs : List ℕ) (cycles : ℕ) (four : length ks ≡ 4) (lists : length ls ≡ 4) (all : length gs ≡ 4) where
  abbrev channels : List Brought
  channels = brought_by ks ls gs

  summed : sum gs ≡ guaranteed channels
  unfolding guaranteed
  summed = rw (channels-are ks ls gs four lists) (sum-of-four gs all ∙ omega arith)

  -- a frame's refusal, from that of its lists, which no guarantee changes, and that of their sum
  pub refusal-by : {r s : ℕ} → r ≡ lowest (lists_conditions (brought_by ks ls [])) → s ≡ cond (eqb r 0) (lowest (sum_conditions gs cycles)) r → s ≡ frame_refusal channels cycles
  refusal-by {r} {s} f g =
      let by : List Brought → ℕ = λ cs. lowest (lists_conditions cs) in
      let p : r ≡ by channels = f ∙ ap by (channels-are ks ls [] four lists) ∙ sym (ap by (channels-are ks ls gs four lists)) in
      g ∙ (λ i. cond (eqb (p i) 0) (cond (ltb cycles (summed i)) 15 0) (p i)) ∙ sym (split channels cycles)

  -- a frame that is carried out has whole operations in each list, and guarantees that sum to no more than its cycles
  pub frame-sum : frame_refusal channels cycles ≡ 0 → sum gs ≤ cycles
  frame-sum e = let g = (frame-accepts channels cycles e).1 in omega (arith, g, summed)

  pub frame-whole : frame_refusal channels cycles ≡ 0 → (n : ℕ) → n < 4 → Whole (get_or ls n [])
  frame-whole e = by-number (subst AllAccepted (channels-are ks ls gs four lists) (frame-accepts channels cycles e).0)
    where
      by-number : AllAccepted (channels_at ks ls gs) → (n : ℕ) → n < 4 → Whole (get_or ls n [])
      by-number a zero h = run-within _ (get_or ls 0 []) a.0
      by-number a (suc zero) h = run-within _ (get_or ls 1 []) a.1.0
      by-number a (suc (suc zero)) h = run-within _ (get_or ls 2 []) a.1.1.0
      by-number a (suc (suc (suc zero))) h = run-within _ (get_or ls 3 []) a.1.1.1.0
      by-number a (suc (suc (suc (suc n)))) h = absurd (omega (arith, h))

-- whole operations in each list, of lists that are lent
pub all-whole : (ls : List (Bor (List ℕ))) → length ls ≡ 4 → ((n : ℕ) → n < 4 → Whole (get_or (map (λ l. l.now) ls) n [])) → All (λ l. Whole l.now) ls
all-whole ls h f =
    All-from_get_or (λ (l : Bor (List ℕ)). Whole l.now) ls (record { ref_ptr = (0, 0); now = [] }) (λ n k. subst Whole (list-at ls n) (f n (omega (arith, h, k))))
