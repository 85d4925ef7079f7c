-- Butterfly and inverse butterfly of 2^n places, by halves.
-- Assumes nothing.
use Rattle.std.specs.Prelude.{◌≡◌, Bool, true, false, cond, ℕ, zero, suc, ◌^◌}
use Rattle.routing.specs.Place.{Place, num, Table, at, tab}
use Rattle.routing.specs.Loop.{Maps, sent, first_stage, last_stage, between}

-- the controls of one network: those of the stage that joins the halves, and those of each half
abbrev pub ControlTree : ℕ → Type 0
ControlTree zero = Unit {0}
ControlTree (suc n) = record { outer : Table Bool n; lower : ControlTree n; upper : ControlTree n }

unfoldable pub half : (n : ℕ) → ControlTree (suc n) → Bool → ControlTree n
half n F h = cond h F.upper F.lower

-- the bit that comes to place p: the butterfly's outer stage is its first, the inverse's is its last
unfoldable pub butterfly_source : (n : ℕ) → ControlTree n → Place n → Place n
butterfly_source zero F p = p
butterfly_source (suc n) F p = sent (at n F.outer) (p.0, butterfly_source n (half n F p.0) p.1)

unfoldable pub inverse_source : (n : ℕ) → ControlTree n → Place n → Place n
inverse_source zero F p = p
inverse_source (suc n) F p =
    let q = sent (at n F.outer) p in
    (q.0, inverse_source n (half n F q.0) q.1)

-- butterfly, then inverse
pub record Net (n : ℕ) : Type 0 where
  pub butterfly : ControlTree n
  pub inverse : ControlTree n

abbrev pub net_source : (n : ℕ) → Net n → Place n → Place n
net_source n N p = butterfly_source n N.butterfly (inverse_source n N.inverse p)

abbrev pub NetRealises : (n : ℕ) → Net n → Maps (Place n) → Type 0
NetRealises n N m = (p : Place n) → net_source n N p ≡ m.to p

-- the part in half h of maps that keep each bit in its half, as tables
unfoldable pub part : (n : ℕ) → Maps (Place (suc n)) → Bool → Maps (Place n)
part n m h =
    let t = tab n (λ q. (m.to (h, q)).1) in
    let u = tab n (λ x. (m.from (h, x)).1) in
    record { to = at n t; from = at n u }

unfoldable pub join : (n : ℕ) → Table Bool n → Table Bool n → Net n → Net n → Net (suc n)
join n f g l u =
    record {
      butterfly = record { outer = f; lower = l.butterfly; upper = u.butterfly };
      inverse = record { outer = g; lower = l.inverse; upper = u.inverse };
    }

-- the first net that realises a permutation
unfoldable pub first_net : (n : ℕ) → Maps (Place n) → Net n
first_net zero m = record { butterfly = tt; inverse = tt }
first_net (suc n) m =
    let f = tab n (first_stage (num n) (2 ^ n) m) in
    let g = tab n (last_stage m (at n f)) in
    let b = between m (at n f) (at n g) in
    join n f g (first_net n (part n b false)) (first_net n (part n b true))
