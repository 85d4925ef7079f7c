-- The walk that sets the outer stages of a level: from each unset switch in order, round its loop. M holds the marks of the first stage,
-- G those of the last.
-- Assumes nothing.
use Rattle.std.specs.Prelude.{◌≡◌, ◌⊎◌, ◌≢◌, Bool, true, cond, ℕ, suc, ◌^◌, ◌≤◌, ◌<◌}
use Rattle.routing.specs.Place.{Place, num, place}
use Rattle.routing.specs.Loop.{Maps, loop_turn, loop_turns, first_stage, last_stage}
use Rattle.routing.specs.Marks.{Mark, unset, Marks, Given, Right}
use Rattle.routing.specs.FirstControls.{on_places}

-- the bit at which the walk from the high bit of switch s stands after j turns
abbrev pub stand : {S : Type 0} → Maps (Bool × S) → S → ℕ → Bool × S
stand m s j = loop_turns m j (true, s)

module _ {S : Type 0} (index : S → ℕ) (count : ℕ) (m : Maps (Bool × S)) where
  abbrev first : S → Bool
  first = first_stage index count m

  -- between two loops: the switches below k are set, what is set is right, and whole loops are set
  pub record LoopsSet (k : ℕ) (M : Marks S) : Type 0 where
    pub right : Right first M
    pub below : (s : S) → index s < k → Given M s
    pub closed : (x : Bool × S) → Given M x.1 → Given M (loop_turn m x).1

  -- the last switches of all bits whose first switch is set are set, and right
  pub record LoopsFed (M G : Marks S) : Type 0 where
    pub right : Right (last_stage m first) G
    pub fed : (x : Bool × S) → Given M x.1 → Given G (m.from x).1

  -- on the loop of switch s, after j turns: M₀ is set already, and the first switches where the walk has stood
  pub record Walk (M₀ : Marks S) (s : S) (j : ℕ) (M : Marks S) : Type 0 where
    pub before : LoopsSet (index s) M₀
    pub fresh : M₀ s ≡ unset
    pub right : Right first M
    pub kept : (t : S) → Given M₀ t → Given M t
    pub walked : (i : ℕ) → i ≤ j → Given M (stand m s i).1
    pub only : (t : S) → Given M t → Given M₀ t ⊎ ((i : ℕ) × (i ≤ j) × ((stand m s i).1 ≡ t))
    pub unclosed : (i : ℕ) → i < j → stand m s (suc i) ≢ (true, s)

  -- the last switches of the loops before, and of the first j bits of the walk
  pub record WalkFed (M₀ : Marks S) (s : S) (j : ℕ) (G : Marks S) : Type 0 where
    pub right : Right (last_stage m first) G
    pub old : (x : Bool × S) → Given M₀ x.1 → Given G (m.from x).1
    pub behind : (i : ℕ) → i < j → Given G (m.from (stand m s i)).1

-- by numbers: π and its inverse ρ on 2^(n+1) places
module _ (n : ℕ) (π ρ : ℕ → ℕ) where
  abbrev maps : Maps (Place (suc n))
  maps = on_places (suc n) π ρ

  -- the loops of all switches below k are walked
  pub record LoopsDone (k : ℕ) (M G : ℕ → Mark) : Type 0 where
    pub settled : LoopsSet (num n) (2 ^ n) maps k (λ q. M (num n q))
    pub fed : LoopsFed (num n) (2 ^ n) maps (λ q. M (num n q)) (λ q. G (num n q))

  -- on the walk from switch s, at bit y: its first switch is set; `fed` says whether its last switch is
  pub record OnWalk (fed : Bool) (s y : ℕ) (M G : ℕ → Mark) : Type 0 where
    pub start : s < 2 ^ n
    pub old : Marks (Place n)
    pub done : ℕ
    pub walk : Walk (num n) (2 ^ n) maps old (place n s) done (λ q. M (num n q))
    pub feed : WalkFed (num n) (2 ^ n) maps old (place n s) (cond fed (suc done) done) (λ q. G (num n q))
    pub stands : num (suc n) (stand maps (place n s) done) ≡ y
