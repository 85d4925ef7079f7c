-- `alone::Routes::stages` meets its contract. Assumes nothing.
use mathlib.Core.Path.{◌≡◌, refl, ◌∙◌}
use mathlib.Core.Bool.{true}
use Prim.Native.Nat.{◌^◌}
use native.Mathlib.Omega.{arith}
use Rattle.network.proofs.Filling.{fill-turn, fill_end}
use Rattle.routing.specs.Alone.{every_below}
use Rattle.alone.specs.Asked.{unasked, stage_words}
use Rattle.alone.proofs.AskedWords.{length-stages, stage-word}
use Rattle.alone.proofs.AgreeFits.{met-turn, met-none, met_all}
use borrow.Author.Rules.{rules}
use Rattle.alone.proofs.Routes.stages.Goals as goal

pub loop-at-init : goal.loop-at-init
unfolding every_below
loop-at-init c = (refl, refl)

pub returns-then-asked-ne0 : goal.returns-then-asked-ne0
returns-then-asked-ne0 c =
    let r = c.args.self.now in
    let asked = c.asked_of-asked.ensures in
    met-none r.rising r.log r.places.now r.sources.now c.loop-at.at c.stage_at.ensures.1 asked.0 asked.1
    (stage_words r.rising r.log (unasked true r.places.now r.sources.now (2 ^ r.log))) (search rules) c.if-asked-ne0.true

pub loop-at-preserved : goal.loop-at-preserved
loop-at-preserved c =
    let r = c.args.self.now in
    let l = c.loop-at in
    let asked = c.asked_of-asked.ensures in
    let d = unasked true r.places.now r.sources.now (2 ^ r.log) in (
      fill-turn 0 (stage_words r.rising r.log d) l.at (search rules) (omega (arith, length-stages r.rising r.log d)) l.invariant.0
          (stage-word r.rising r.log d l.at (search rules) c.stage_at.ensures.1 asked.0),
      met-turn r.rising r.log r.places.now r.sources.now l.at c.stage_at.ensures.1 asked.0 asked.1 l.invariant.1 c.if-asked-ne0.false,
    )

pub returns : goal.returns
returns c =
    let r = c.args.self.now in
    let d = unasked true r.places.now r.sources.now (2 ^ r.log) in
    let end : c.loop-at.at ≡ r.log = omega arith in
    met_all r.rising r.log r.places.now r.sources.now (stage_words r.rising r.log d) end c.loop-at.invariant.1
    (c.loop-at.invariant.0 ∙ fill_end (stage_words r.rising r.log d) c.loop-at.at (omega (arith, length-stages r.rising r.log d)))
