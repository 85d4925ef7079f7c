-- What the loops of `network::spread` keep. Assumes nothing.
use mathlib.Core.Path.{◌≡◌}
use Prim.Native.Nat.{◌-◌, ◌^◌}
use Rattle.network.specs.Word.{spread_of}
use Rattle.network.proofs.spread.Given as goal

abbrev pub invariant-loop-at : goal.invariant-loop-at
invariant-loop-at l = l.bits ≡ spread_of (2 ^ (6 - l.at)) l.stage
