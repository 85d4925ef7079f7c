-- `first::Marks::settle` meets its contract. Assumes nothing.
use mathlib.Core.Path.{refl}
use Rattle.first.proofs.Walking.{settle-start}
use Rattle.first.proofs.Marks.settle.Goals as goal

pub loop-s-init : goal.loop-s-init
loop-s-init c = record { settled = settle-start _ _ _ _ _ c.requires; kept = λ d i he hi out. refl }
