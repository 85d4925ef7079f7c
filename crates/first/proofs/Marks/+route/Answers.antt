-- `first::Marks::route` meets its contract: the exponent of the outer stages falls. Assumes nothing.
use Prim.Native.Nat.{◌+◌, ◌-◌}
use native.Mathlib.Omega.{arith}
use Rattle.first.proofs.BlockHalves.{route-last, lower-routable, upper-routable, route-halves}
use Rattle.first.proofs.Marks.+route.Goals as goal

pub returns-then-block-eq0 : goal.returns-then-block-eq0
returns-then-block-eq0 t c = route-last _ _ _ _ _ _ _ _ c.requires c.peel.ensures c.if-block-eq0.true

pub invariant_of-route : goal.invariant_of-route
invariant_of-route t c =
    record { fits = (lower-routable _ _ _ _ _ _ _ _ c.requires c.peel.ensures (c.args.block.exponent - 1) (omega arith)).fits }

pub route-requires : goal.route-requires
route-requires t c = (omega arith, lower-routable _ _ _ _ _ _ _ _ c.requires c.peel.ensures _ (omega arith))

pub invariant_of-route-2 : goal.invariant_of-route-2
invariant_of-route-2 t c =
    record {
      fits =
          (upper-routable _ _ _ _ _ _ _ _ c.requires c.peel.ensures (c.args.block.exponent - 1) (omega arith)
          (c.args.block.first + c.power.result) (omega arith) _ _ _ c.route.ensures).fits;
    }

pub route-requires-2 : goal.route-requires-2
route-requires-2 t c = (
  omega arith,
  upper-routable _ _ _ _ _ _ _ _ c.requires c.peel.ensures _ (omega arith) _ (omega arith) _ _ _ c.route.ensures,
)

pub returns : goal.returns
returns t c =
    route-halves _ _ _ _ _ _ _ _ c.requires c.peel.ensures (c.args.block.exponent - 1) (omega arith)
    (c.args.block.first + c.power.result) (omega arith) _ _ _ c.route.ensures _ _ _ c.route-2.ensures
