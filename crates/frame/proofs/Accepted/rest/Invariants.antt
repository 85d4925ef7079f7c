-- What the loop of `frame::Accepted::rest` keeps. Assumes nothing.
use Rattle.std.proofs.Common.{◌≡◌, ℕ, ◌+◌, ◌<◌, ◌≤◌, length, get_or, sum}
use Rattle.frame.specs.Offers.{turn_at, unused_of}
use Rattle.frame.proofs.Accepted.rest.Given as goal

abbrev pub invariant-loop-turn : goal.invariant-loop-turn
invariant-loop-turn l =
    let turns = l.turn-iterator.a.rest.now in
    let guarantees = l.turn-iterator.b.rest.now in
    (length turns ≡ length guarantees) × ((n : ℕ) → n < length turns → (turn_at turns n).cycles ≤ get_or guarantees n 0) × (l.rest + unused_of turns guarantees ≡ unused_of l.first l.self.guarantees)
    × (l.rest + sum guarantees ≤ sum l.self.guarantees)
