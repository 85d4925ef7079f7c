-- What the loop of `tiles::mirrored` keeps: what is left to do makes the mirrored tile. Assumes nothing.
use mathlib.Core.Path.{◌≡◌}
use Prim.Native.Nat.{◌-◌, ◌≤◌}
use Rattle.tiles.specs.Steps.{exchanges_of, mirror_of}
use Rattle.tiles.proofs.mirrored.Given as goal

abbrev pub invariant-loop-index : goal.invariant-loop-index
invariant-loop-index l = record {
  above : l.first ≤ l.index;
  rest : exchanges_of l.first (l.index - l.first) l.turned ≡ mirror_of l.first l.fn.tile;
}
