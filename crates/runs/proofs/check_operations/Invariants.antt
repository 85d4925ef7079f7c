-- What the loop of `runs::check_operations` keeps. Assumes nothing.
use mathlib.Core.Path.{◌≡◌}
use Rattle.std.specs.Slice.Iter.{chunks_exact_rest, chunks_exact_size}
use Rattle.runs.specs.Run.{operations_of}
use Rattle.runs.proofs.OperationLists.{Sofar}
use Rattle.runs.proofs.check_operations.Given as goal

abbrev pub invariant-loop-operation : goal.invariant-loop-operation
invariant-loop-operation l = record {
  four : chunks_exact_size l.operation-iterator ≡ 4;
  sofar : Sofar (operations_of l.ops) l.registers (operations_of (chunks_exact_rest l.operation-iterator));
}
