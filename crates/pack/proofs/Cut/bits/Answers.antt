-- `pack::Cut::bits` meets its contract: fields of at most 64 bits, of at most 2,048 words. Assumes nothing.
use mathlib.Core.Path.{ap}
use Prim.Native.Nat.{ℕ, ◌-◌, ◌*◌}
use native.Mathlib.Omega.{arith}
use Rattle.bits.proofs.Rank.{rank-le}
use Rattle.pack.proofs.FieldAnswers.{bits-le}
use Rattle.pack.proofs.Cut.bits.Goals as goal

pub overflow_mul-result : goal.overflow_mul-result
overflow_mul-result c =
    let s = c.args.self in
    record { fits = omega (arith, bits-le {k = s.size} {d = s.to - s.from} (omega (arith, s.sized, rank-le s.mask 64)) (omega (arith, s.limited))) }

pub returns : goal.returns
returns c =
    let s = c.args.self in
    let e = ap (λ (k : ℕ). k * (s.to - s.from)) s.sized in
    (e, omega (arith, e, bits-le {d = s.to - s.from} (rank-le s.mask 64) (omega (arith, s.limited))))
