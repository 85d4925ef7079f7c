-- Stages over the whole width, by numbers, as the paper has them, and what it is to come later.
-- Assumes nothing.
use Rattle.std.specs.Prelude.{◌≡◌, ◌⊎◌, Bool, cond, ℕ, zero, suc, ◌+◌, ◌-◌, ◌*◌, ◌/◌, ◌%◌, ◌^◌, ◌<◌, eqb}
use Rattle.routing.specs.Place.{Place, place, at}
use Rattle.routing.specs.Loop.{pass, swap}
use Rattle.routing.specs.Net.{ControlTree, half, Net}

-- At distance d = 2^e, switch j*d + t joins bits 2*j*d + t and 2*j*d + t + d.
unfoldable pub switch_at : ℕ → ℕ → ℕ
switch_at e p = p / 2 ^ suc e * 2 ^ e + p % 2 ^ e

unfoldable pub partner_at : ℕ → ℕ → ℕ
partner_at e p = cond (eqb (p / 2 ^ e % 2) 0) (p + 2 ^ e) (p - 2 ^ e)

-- the bit that comes to place p through a stage of distance 2^e; c says which switches swap
unfoldable pub through : ℕ → (ℕ → Bool) → ℕ → ℕ
through e c p = cond (c (switch_at e p)) (partner_at e p) p

-- The n stages of a butterfly, wide ones first, and of an inverse, narrow ones first: the bit that comes to place p.
-- c e is the stage of distance 2^e.
unfoldable pub butterfly : ℕ → (ℕ → ℕ → Bool) → ℕ → ℕ
butterfly zero c p = p
butterfly (suc e) c p = through e (c e) (butterfly e c p)

unfoldable pub inverse : ℕ → (ℕ → ℕ → Bool) → ℕ → ℕ
inverse zero c p = p
inverse (suc e) c p = inverse e c (through e (c e) p)

-- a stage, by the exponent of its distance
pub data Stage : Type 0 where
  Butterfly Inverse : ℕ → Stage

abbrev pub exponent : Stage → ℕ
exponent (Butterfly e) = e
exponent (Inverse e) = e

-- does switch s of a stage swap?
abbrev pub StageControls : Type 0
StageControls = Stage → ℕ → Bool

unfoldable pub network : ℕ → StageControls → ℕ → ℕ
network n C p = butterfly n (λ e. C (Butterfly e)) (inverse n (λ e. C (Inverse e)) p)

-- a network of 2^n places has the stages of exponent e below n, and in each the switches s below 2^n / 2
pub record InRange (n e s : ℕ) : Type 0 where
  pub at_stage : e < n
  pub switch : s + s < 2 ^ n

-- the same controls in all switches of one network
abbrev pub Same : ℕ → (ℕ → ℕ → Bool) → (ℕ → ℕ → Bool) → Type 0
Same n c d = (e s : ℕ) → InRange n e s → c e s ≡ d e s

-- the direction of travel
abbrev pub Earlier : Stage → Stage → Type 0
Earlier (Butterfly d) (Butterfly e) = e < d
Earlier (Butterfly d) (Inverse e) = Unit {0}
Earlier (Inverse d) (Butterfly e) = ⊥
Earlier (Inverse d) (Inverse e) = d < e

-- switch s of stage c comes before switch t of stage d
abbrev pub SwitchBefore : Stage → ℕ → Stage → ℕ → Type 0
SwitchBefore c s d t = Earlier c d ⊎ ((c ≡ d) × (s < t))

abbrev pub AgreeBefore : ℕ → StageControls → StageControls → Stage → ℕ → Type 0
AgreeBefore n C D c s = (d : Stage) (t : ℕ) → InRange n (exponent d) t → SwitchBefore d t c s → C d t ≡ D d t

abbrev pub Agree : ℕ → StageControls → StageControls → Type 0
Agree n C D = (c : Stage) (s : ℕ) → InRange n (exponent c) s → C c s ≡ D c s

-- D comes later than C: where they first differ, C passes and D swaps
pub record ComesLater (n : ℕ) (C D : StageControls) : Type 0 where
  pub at_stage : Stage
  pub switch : ℕ
  pub inside : InRange n (exponent at_stage) switch
  pub before : AgreeBefore n C D at_stage switch
  pub passes : C at_stage switch ≡ pass
  pub swaps : D at_stage switch ≡ swap

-- C passes or agrees with D wherever they agree before
abbrev pub Leads : ℕ → StageControls → StageControls → Type 0
Leads n C D =
    (c : Stage) (s : ℕ) → InRange n (exponent c) s → AgreeBefore n C D c s → (C c s ≡ pass) ⊎ (C c s ≡ D c s)

-- the stages of one network over the whole width: that of distance 2^e, at switch s
unfoldable pub tree_control : (n : ℕ) → ControlTree (suc n) → ℕ → Place n → Bool
tree_control zero F e q = at zero F.outer q
tree_control (suc n) F e q =
    let inner = tree_control n (half (suc n) F q.0) e q.1 in
    cond (eqb e (suc n)) (at (suc n) F.outer q) inner

unfoldable pub flat : (n : ℕ) → ControlTree n → ℕ → ℕ → Bool
flat zero F e s = pass
flat (suc n) F e s = tree_control n F e (place n s)

abbrev pub net_controls : (n : ℕ) → Net n → StageControls
net_controls n N (Butterfly e) = flat n N.butterfly e
net_controls n N (Inverse e) = flat n N.inverse e
