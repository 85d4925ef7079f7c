-- `unit::Registers::load` meets its contract. Assumes nothing.
use mathlib.Core.Path.{◌≡◌, ◌∙◌, ap}
use mathlib.Core.Logic.{inl, inr}
use Prim.Native.Nat.{◌-◌, ◌%◌}
use native.Mathlib.Omega.{arith}
use Rattle.unit.specs.Bank.{with_b, with_ib}
use Rattle.unit.proofs.TableRows.{load-none, load-b, load-ib}
use Rattle.unit.proofs.Registers.load.Goals as goal

pub returns-then-r1-lt1 : goal.returns-then-r1-lt1
returns-then-r1-lt1 c = load-none c.args.self.now c.args.r1 c.args.x c.args.y (inl (omega arith))

pub returns-in-1 : goal.returns-in-1
returns-in-1 c =
    let a = c.args in
    let e : 2 - a.r1 % 2 ≡ a.r1 = omega arith in
    ap (with_b a.self.now) (rw e at c.load_into.ensures) ∙ load-b a.self.now a.r1 a.x a.y (omega arith)

pub returns-in-3 : goal.returns-in-3
returns-in-3 c =
    let a = c.args in
    let e : 2 - a.r1 % 2 ≡ a.r1 - 2 = omega arith in
    ap (with_ib a.self.now) (rw e at c.load_into-in-3.ensures) ∙ load-ib a.self.now a.r1 a.x a.y (omega arith)

pub returns-else-r1-lt5 : goal.returns-else-r1-lt5
returns-else-r1-lt5 c = load-none c.args.self.now c.args.r1 c.args.x c.args.y (inr (omega arith))
