-- `grouping::step_masks` meets its contract. Assumes nothing.
use mathlib.Core.Path.{◌≡◌, refl, ◌∙◌, ap}
use Prim.Native.Nat.{◌+◌, ◌-◌}
use native.Mathlib.Omega.{arith}
use lib.ListN.{length, take}
use Rattle.network.specs.Calls.{six}
use Rattle.grouping.proofs.GroupAnswers.{entries-permute, taken-permute, masks-taken}
use Rattle.grouping.proofs.StepsLeft.{step-half, steps-start, steps-next, steps-end}
use Rattle.grouping.proofs.step_masks.Goals as goal

pub take_destinations-requires : goal.take_destinations-requires
take_destinations-requires c = let p = entries-permute c.args.log c.requires.1 c.args.entries.now c.requires.2 in (p.0, p.1, refl)

pub loop-step-init : goal.loop-step-init
loop-step-init c =
    let es = c.args.entries.now in
    let to = c.take_destinations.new.to in
    let e = c.take_destinations.ensures in
    steps-start (length es) c.args.log (take (length es) to) c.requires.1 c.requires.0 refl e.0 refl
    (taken-permute c.args.log c.requires.1 es c.requires.2 to e.0 e.1) e.2

pub group_pass-requires : goal.group_pass-requires
group_pass-requires c =
    let w = length c.args.entries.now in
    let l = c.loop-step in
    let s = l.invariant in
    let long = s.permutes.long in (
      omega (arith, long, (entries-permute c.args.log c.requires.1 c.args.entries.now c.requires.2).0),
      omega (arith, c.requires.1),
      s.into-long,
      rw long (step-half w c.args.log (l.step - 1) (take w l.from) s.marks c.requires.2.long (omega arith) s.permutes),
    )

pub loop-step-preserved : goal.loop-step-preserved
loop-step-preserved c =
    let es = c.args.entries.now in
    let l = c.loop-step in
    let e = c.group_pass.ensures in
    let next : l.step ≡ l.step - 1 + 1 = omega arith in
    let again : l.step + 1 - 1 ≡ l.step = omega arith in
    rw (again, c.swap.ensures.x_after, c.swap.ensures.y_after) (steps-next (length es) c.args.log (take (length es) c.take_destinations.new.to) c.requires.1 (l.step - 1) l.step next (omega arith)
    l.invariant e.0 l.invariant.permutes.long e.1 e.2)

pub returns : goal.returns
returns c =
    let es = c.args.entries.now in
    let l = c.loop-step in
    let e = c.take_destinations.ensures in
    steps-end (length es) c.args.log (take (length es) c.take_destinations.new.to) c.requires.1 (l.step - 1) (omega arith) l.invariant
    ∙ ap six (masks-taken c.args.log c.requires.1 es c.requires.2 c.take_destinations.new.to e.0 e.1)
