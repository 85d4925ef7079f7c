-- One level of the network: its outer stages, and the loops that bind their switches.
-- S is a set of switches; a bit (h, s) and a place (h, s) stand in half h at switch s.
-- Assumes nothing.
use Rattle.std.specs.Prelude.{◌≡◌, Bool, true, false, not, cond, ℕ, zero, suc, leb}

-- a switch's control: does it swap?
abbrev pub pass : Bool
pass = false

abbrev pub swap : Bool
swap = true

abbrev pub xor : Bool → Bool → Bool
xor false b = b
xor true b = not b

-- place p takes bit `to p`; bit x comes to place `from x`
pub record Maps (A : Type 0) : Type 0 where
  pub to : A → A
  pub from : A → A

pub record IsPermutation {A : Type 0} (m : Maps A) : Type 0 where
  pub to-from : (x : A) → m.to (m.from x) ≡ x
  pub from-to : (p : A) → m.from (m.to p) ≡ p

module _ {S : Type 0} where
  unfoldable pub flip : Bool × S → Bool × S
  flip x = (not x.0, x.1)

  -- the half that bit x comes to behind a stage
  unfoldable pub side : (S → Bool) → Bool × S → Bool
  side f x = xor (f x.1) x.0

  -- a stage: it sends each bit to its side, at its own switch
  unfoldable pub sent : (S → Bool) → Bool × S → Bool × S
  sent f x = (side f x, x.1)

  -- the bits that meet in a last switch come from different sides
  abbrev pub Valid : Maps (Bool × S) → (S → Bool) → Type 0
  Valid m f = (p : Bool × S) → side f (m.to (flip p)) ≡ not (side f (m.to p))

  -- from a bit to its last switch, to the other bit there, to that one's first switch, to the other bit there:
  -- it must come to the side of the bit we left
  unfoldable pub loop_turn : Maps (Bool × S) → Bool × S → Bool × S
  loop_turn m x = flip (m.to (flip (m.from x)))

  unfoldable pub loop_turns : Maps (Bool × S) → ℕ → Bool × S → Bool × S
  loop_turns m zero x = x
  loop_turns m (suc k) x = loop_turns m k (loop_turn m x)

  -- the bit of the least switch among x and its next k turns
  unfoldable pub least : (S → ℕ) → Maps (Bool × S) → ℕ → Bool × S → Bool × S
  least index m zero x = x
  least index m (suc k) x =
      let y = least index m k (loop_turn m x) in
      cond (leb (index x.1) (index y.1)) x y

  -- The first of the first stages: a loop's least switch passes, which sets its other switches.
  -- So a switch swaps exactly if the loop of its low bit meets that least switch at a high bit.
  unfoldable pub first_stage : (S → ℕ) → ℕ → Maps (Bool × S) → S → Bool
  first_stage index count m s = (least index m count (false, s)).0

  -- the last stage that a first stage asks for
  unfoldable pub last_stage : Maps (Bool × S) → (S → Bool) → S → Bool
  last_stage m f q = side f (m.to (false, q))

  -- what is left between the two stages
  unfoldable pub between : Maps (Bool × S) → (S → Bool) → (S → Bool) → Maps (Bool × S)
  between m f g = record {
    to = λ p. sent f (m.to (sent g p));
    from = λ x. sent g (m.from (sent f x));
  }
