-- `alone::Asked::with_route` meets its contract. Assumes nothing.
use Rattle.alone.proofs.OneRoute.{route-passes, route-swaps}
use Rattle.alone.proofs.Asked.with_route.Goals as goal

pub returns-then-place-source-eq0 : goal.returns-then-place-source-eq0
returns-then-place-source-eq0 c =
    let a = c.args in
    route-passes a.exponent a.place a.source c.switch_of-switch.ensures a.self.pass a.self.swap c.if-place-source-eq0.true

pub returns-else-place-source-eq0 : goal.returns-else-place-source-eq0
returns-else-place-source-eq0 c =
    let a = c.args in
    route-swaps a.exponent a.place a.source c.switch_of-switch.ensures a.self.pass a.self.swap c.if-place-source-eq0.false
