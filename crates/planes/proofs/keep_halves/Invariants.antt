-- What the loop of `planes::keep_halves` keeps. Assumes nothing.
use mathlib.Core.Path.{◌≡◌}
use Prim.Native.Nat.{◌-◌, ◌*◌}
use Rattle.planes.specs.Rounds.{kept_halves, by_turns}
use Rattle.planes.proofs.keep_halves.Given as goal

abbrev pub invariant-loop-fields : goal.invariant-loop-fields
invariant-loop-fields l =
    let kept = l.fn.kept in
    let width = 2 * kept.fields.half_width in
    l.word ≡ by_turns l.fields.half_width (kept_halves width kept.half l.first) (kept_halves width kept.half l.second)

abbrev pub decreases-loop-fields : goal.decreases-loop-fields
decreases-loop-fields l = 32 - l.fields.half_width
