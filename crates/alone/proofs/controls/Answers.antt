-- `alone::controls` meets its contract. Assumes nothing.
use mathlib.Core.Bool.{true, false}
use Rattle.alone.proofs.AgreeFits.{named-long, named-entries, lists-fit, answer-of}
use Rattle.alone.proofs.controls.Goals as goal
use Rattle.alone.proofs.controls.Goals.{then-rising, else-rising}

pub slice_bounds-every-end : goal.slice_bounds-every-end
slice_bounds-every-end c = named-long c.args.log c.requires.0 c.args.entries.now c.every_place-every.result c.requires.1 c.every_place-every.ensures

pub slice_bounds-named-end : goal.slice_bounds-named-end
slice_bounds-named-end c = named-entries c.args.log c.requires.0 c.args.entries.now c.every_place-every.result c.requires.1 c.every_place-every.ensures

pub invariant_of-routes : goal.invariant_of-routes
invariant_of-routes c =
    let a = c.args in
    let fit = lists-fit a.log c.requires.0 a.entries.now c.every_place-every.result c.requires.1 c.every_place-every.ensures in
    elim c.if-rising.branch [
      | then-rising w ↦ let z = fit true in rw w.ends-is (record { up_to_64 = c.requires.0; routes = z.0; each_place = z.1; each_source = z.2 })
      | else-rising w ↦ let z = fit false in rw w.ends-is (record { up_to_64 = c.requires.0; routes = z.0; each_place = z.1; each_source = z.2 })
    ]

pub returns : goal.returns
returns c =
    let a = c.args in
    let by = answer-of a.log c.requires.0 a.entries.now c.every_place-every.result c.requires.1 c.every_place-every.ensures in
    elim c.if-rising.branch [
      | then-rising w ↦ by true w.if-rising.true (rw w.ends-is at c.stages.ensures)
      | else-rising w ↦ by false w.if-rising.false (rw w.ends-is at c.stages.ensures)
    ]
