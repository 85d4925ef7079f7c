-- `frame::Accepted::offer` meets its contract. Assumes nothing.
use Rattle.std.proofs.Common.{map, ◌<◌, length, refl, arith, rules}
use Rattle.frame.proofs.Offering.{list-at, second-leaves, offered-none, offered-next}
use Rattle.frame.proofs.Accepted.offer.Goals as goal

pub loop-channel-init : goal.loop-channel-init
loop-channel-init c = (refl, offered-none (map (λ list. list.now) c.args.self.now.lists) c.args.first.now c.args.rest)

pub loop-channel-preserved : goal.loop-channel-preserved
loop-channel-preserved c =
    let l = c.loop-channel in
    let long : l.channel < length l.budgets = omega (arith, l.invariant.0, c.loop-channel-test.true) in
    let e = second-leaves _ _ l.left c.bytes_of.ensures c.count-second.ensures.counted in
    (search rules, offered-next (map (λ list. list.now) c.args.self.now.lists) c.args.first.now c.args.rest l.invariant.1 long refl (rw (list-at c.args.self.now.lists l.channel) e))
