-- `alone::Routes::asked_of` meets its contract. Assumes nothing.
use mathlib.Core.Path.{◌≡◌}
use mathlib.Core.Bool.{true, false}
use Prim.Native.Nat.{◌/◌, ◌^◌, ◌≤◌, ◌<◌}
use native.Mathlib.Omega.{arith}
use lib.ListN.{length}
use Rattle.std.proofs.Common.{length-append}
use lib.Pow.{pow_mono}
use Rattle.std.proofs.lemmas.Slice.Zip.{zip_turn}
use Rattle.routing.specs.Lists.{entry}
use Rattle.alone.proofs.OneRoute.{none-asked, stage-turn}
use borrow.Author.Rules.{rules}
use Rattle.alone.proofs.Routes.asked_of.Goals as goal
use Rattle.alone.proofs.Routes.asked_of.Goals.{In-Some}

pub loop-place-init : goal.loop-place-init
loop-place-init c =
    let r = c.args.self.now in
    let w = 2 ^ r.log / 2 in
    (none-asked true r.places.now r.sources.now w c.args.exponent, none-asked false r.places.now r.sources.now w c.args.exponent)

-- the route of this turn
turn : (c : In-Some)
    → (length c.loop-place.yielded < 2 ^ c.args.self.now.log) × (c.in-Some.place.now ≡ entry c.args.self.now.places.now (length c.loop-place.yielded))
    × (c.in-Some.source.now ≡ entry c.args.self.now.sources.now (length c.loop-place.yielded))
turn c =
    let r = c.args.self.now in
    let z = zip_turn r.places.now r.sources.now c.loop-place.yielded c.into_iter-place-iterator.result c.loop-place.place-iterator c.next.new.self c.next.result
    (search rules) (search rules) c.loop-place.yielded_by _ c.in-Some.is c.next.ensures.steps
    in
    (omega (arith, z.0, r.routes), z.2 0, z.3 0)

pub with_route-asked-requires : goal.with_route-asked-requires
with_route-asked-requires c =
    let r = c.args.self.now in
    let t = turn (goal.at.with_route-asked-requires c).In-Some in
    let h : r.log ≤ 6 = r.up_to_64 in
    (omega arith, omega (arith, t.1, r.each_place.small (length c.loop-place.yielded) t.0, pow_mono h))

pub loop-place-preserved : goal.loop-place-preserved
loop-place-preserved c =
    let r = c.args.self.now in
    let t = turn (goal.at.loop-place-preserved c).In-Some in
    let e = c.args.exponent in
    let n = length c.loop-place.yielded in
    rw (length-append c.loop-place.yielded) (
      stage-turn true r.log r.places.now r.sources.now r.each_place n e t.0 c.requires c.loop-place.invariant.0 (cc),
      stage-turn false r.log r.places.now r.sources.now r.each_place n e t.0 c.requires c.loop-place.invariant.1 (cc),
    )
