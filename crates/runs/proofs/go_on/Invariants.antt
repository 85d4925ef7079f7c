-- What the loop of `runs::go_on` keeps. Assumes nothing.
use mathlib.Core.Path.{◌≡◌}
use Prim.Native.Nat.{◌+◌, ◌*◌}
use lib.ListN.{length}
use Rattle.std.specs.Slice.Iter.{chunks_exact_rest, chunks_exact_size}
use Rattle.runs.specs.Run.{operations_of}
use Rattle.runs.proofs.Runs.{Going}
use Rattle.runs.proofs.go_on.Given as goal

abbrev pub invariant-loop-operation : goal.invariant-loop-operation
invariant-loop-operation l = record {
  four : chunks_exact_size l.operation-iterator ≡ 4;
  bytes : 4 * l.ran + length (chunks_exact_rest l.operation-iterator) ≡ length l.ops.bytes.now;
  going : Going l.initial.registers (operations_of l.ops.bytes.now) l.budget l.registers l.left l.ran (operations_of (chunks_exact_rest l.operation-iterator));
}
