-- `first::power` meets its contract. Assumes nothing.
use native.Mathlib.Omega.{arith}
use lib.Pow.{pow_pos, pow_mono}
use borrow.Author.Rules.{rules}
use Rattle.network.proofs.StageBlocks.{shl_one}
use Rattle.first.proofs.power.Goals as goal

pub returns : goal.returns
returns c =
    let e = c.args.e in
    let is = shl_one e (search rules) in
    (is, omega (arith, is, pow_pos e), omega (arith, is, pow_mono {i = e} {j = 5} (search rules)))
