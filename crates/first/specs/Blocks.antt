-- What holds of a block while its switches are set.
-- Assumes nothing.
use Rattle.std.specs.Prelude.{◌≡◌, ◌≢◌, Bool, true, false, List, ℕ, suc, ◌+◌, ◌*◌, ◌%◌, ◌^◌, ◌≤◌, ◌<◌, length, get_or}
use Rattle.routing.specs.Place.{weight}
use Rattle.routing.specs.Stages.{Butterfly, Inverse, Agree}
use Rattle.routing.specs.FirstControls.{Permutes, first_controls}
use Rattle.routing.specs.Walk.{LoopsDone, OnWalk}
use Rattle.routing.specs.Level.{other, half_to}
use Rattle.routing.specs.Lists.{entry}
use Rattle.first.specs.declared.Mark.{Mark}
use Rattle.first.specs.Marks.{marks_at, swaps_from, controls_in, BlockFits, InOuter, InBlock, Kept, Fresh}

-- the block's entry p: its places are number 2b to 2b + 2^(e+1) - 1
abbrev pub place_in : List ℕ → ℕ → ℕ → ℕ
place_in entries b p = get_or entries (2 * b + p) 0

abbrev pub BlockPermutes : (e b : ℕ) (to from : List ℕ) → Type 0
BlockPermutes e b to from = Permutes (2 ^ suc e) (place_in to b) (place_in from b)

-- the loops of the first k switches are settled
pub record Settled (e b : ℕ) (to from : List ℕ) (k : ℕ) (marks : List Mark) : Type 0 where
  pub long : length marks ≡ 384
  pub perm : BlockPermutes e b to from
  pub done : LoopsDone e (place_in to b) (place_in from b) k (marks_at (Butterfly e) b marks) (marks_at (Inverse e) b marks)

-- on the loop of switch s, before the last switch of bit y
pub record AtLast (e b : ℕ) (to from : List ℕ) (s y : ℕ) (marks : List Mark) : Type 0 where
  pub long : length marks ≡ 384
  pub fits : BlockFits e b
  pub perm : BlockPermutes e b to from
  pub walk : OnWalk e (place_in to b) (place_in from b) false s y (marks_at (Butterfly e) b marks) (marks_at (Inverse e) b marks)

-- on the loop of switch s, before the first switch of bit x, which is not s
pub record AtFirst (e b : ℕ) (to from : List ℕ) (s x : ℕ) (marks : List Mark) : Type 0 where
  pub long : length marks ≡ 384
  pub fits : BlockFits e b
  pub perm : BlockPermutes e b to from
  pub last : ℕ
  pub walk : OnWalk e (place_in to b) (place_in from b) true s last (marks_at (Butterfly e) b marks) (marks_at (Inverse e) b marks)
  pub next : x ≡ place_in to b (other e (place_in from b last))
  pub away : x % 2 ^ e ≢ s
  pub small : x < 2 ^ suc e

-- the marks afterwards: k loops settled, and nothing changed but the outer stages
pub record Stepped (e b : ℕ) (to from : List ℕ) (k : ℕ) (marks marks' : List Mark) : Type 0 where
  pub settled : Settled e b to from k marks'
  pub kept : Kept (InOuter e b) marks marks'

-- the places outside the block are as before
abbrev pub PlacesKept : (e b : ℕ) (entries entries' : List ℕ) → Type 0
PlacesKept e b entries entries' =
    (i : ℕ) → ¬ ((2 * b ≤ i) × (i < 2 * b + 2 ^ suc e)) → get_or entries' i 0 ≡ get_or entries i 0

-- the two half permutations behind a stage g, side by side
pub record Halved (e b : ℕ) (g : ℕ → Bool) (entries entries' : List ℕ) : Type 0 where
  pub long : length entries' ≡ length entries
  pub halves : (h : Bool) (q : ℕ) → q < 2 ^ e → place_in entries' b (weight h e + q) ≡ half_to e (place_in entries b) g h q
  pub kept : PlacesKept e b entries entries'

-- the outer stages settled, and the two half permutations between them
pub record Peeled (e b : ℕ) (to from : List ℕ) (marks : List Mark) (to' from' : List ℕ) (marks' : List Mark) : Type 0 where
  pub stepped : Stepped e b to from (2 ^ e) marks marks'
  pub to-halved : Halved e b (swaps_from marks' (192 + 32 * e + b)) to to'
  pub from-halved : Halved e b (swaps_from marks' (32 * e + b)) from from'

-- a block that is to be routed
pub record Routable (e b : ℕ) (to from : List ℕ) (marks : List Mark) : Type 0 where
  pub long : length marks ≡ 384
  pub to-long : length to ≡ 64
  pub from-long : length from ≡ 64
  pub fits : BlockFits e b
  pub perm : BlockPermutes e b to from
  pub fresh : Fresh e b marks

-- and one that is: it has the first controls
pub record BlockRouted (e b : ℕ) (to from : List ℕ) (marks : List Mark) (to' from' : List ℕ) (marks' : List Mark) : Type 0 where
  pub long : length marks' ≡ 384
  pub to-long : length to' ≡ 64
  pub from-long : length from' ≡ 64
  pub first : Agree (suc e) (controls_in b marks') (first_controls (suc e) (place_in to b) (place_in from b))
  pub kept : Kept (InBlock e b) marks marks'
  pub to-kept : PlacesKept e b to to'
  pub from-kept : PlacesKept e b from from'

-- the entries of w places and their inverse
pub record Placed (w : ℕ) (entries to from : List ℕ) : Type 0 where
  pub to-long : length to ≡ 64
  pub from-long : length from ≡ 64
  pub perm : Permutes w (place_in to 0) (place_in from 0)
  pub same : (p : ℕ) → p < w → place_in to 0 p ≡ entry entries p
