-- What the loop of `frame::count` keeps. Assumes nothing.
use Rattle.std.proofs.Common.{◌≡◌, ◌+◌, ◌*◌, ◌≤◌, length}
use Rattle.std.specs.Slice.Iter.{chunks_exact_rest, chunks_exact_size}
use Rattle.runs.specs.Run.{operations_of}
use Rattle.frame.proofs.Counting.{Counting}
use Rattle.frame.proofs.count.Given as goal

abbrev pub invariant-loop-operation : goal.invariant-loop-operation
invariant-loop-operation l = record {
  four : chunks_exact_size l.operation-iterator ≡ 4;
  bytes : 4 * l.ran + length (chunks_exact_rest l.operation-iterator) ≡ length l.ops;
  within : l.left ≤ l.budget;
  counting : Counting (operations_of l.ops) l.budget l.left l.ran (operations_of (chunks_exact_rest l.operation-iterator));
}
