-- What the loop of `frame::Accepted::offer` keeps. Assumes nothing.
use Rattle.std.proofs.Common.{map, length, ◌≡◌}
use Rattle.frame.proofs.Offering.{Offered}
use Rattle.frame.proofs.Accepted.offer.Given as goal

abbrev pub invariant-loop-channel : goal.invariant-loop-channel
invariant-loop-channel l = (length l.budgets ≡ 4) × Offered (map (λ list. list.now) l.self.lists) l.first l.rest l.channel l.budgets l.left
