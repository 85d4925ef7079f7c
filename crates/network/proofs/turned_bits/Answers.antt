-- `network::turned_bits` meets its contract. Assumes nothing.
use native.Mathlib.Omega.{arith}
use Rattle.network.proofs.StageBlocks.{shl_one, turned-window}
use Rattle.network.proofs.turned_bits.Goals as goal

pub returns : goal.returns
returns c = let a = c.args in rw (shl_one a.distance (omega arith)) (turned-window (omega arith) a.count (omega arith))
