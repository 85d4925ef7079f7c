-- `first::Marks::words` meets its contract. Assumes nothing.
use mathlib.Core.Path.{◌∙◌}
use native.Mathlib.Omega.{arith}
use Rattle.network.proofs.Filling.{fill-turn, fill_end}
use Rattle.routing.specs.Lists.{words_of}
use Rattle.first.specs.Marks.{controls_in}
use Rattle.first.proofs.MarkWords.{butterfly-count, inverse-count, butterfly-word, inverse-word}
use Rattle.first.proofs.Marks.words.Goals as goal

pub loop-i-preserved : goal.loop-i-preserved
loop-i-preserved c =
    let log = c.args.log in
    let marks = c.args.self.now.switches in
    let i = c.loop-i.i in
    let w = words_of log (controls_in 0 marks) in
    let half = c.power-count.ensures.0 in (
      fill-turn 0 w.butterfly i (omega arith) (omega (arith, butterfly-count marks log c.requires.0)) c.loop-i.invariant.0
          (butterfly-word marks log c.requires.0 i (omega arith) half c.word.ensures),
      fill-turn 0 w.inverse i (omega arith) (omega (arith, inverse-count marks log c.requires.0)) c.loop-i.invariant.1
          (inverse-word marks log c.requires.0 i (omega arith) half c.word-in-loop-i.ensures),
    )

pub returns : goal.returns
returns c =
    let log = c.args.log in
    let marks = c.args.self.now.switches in
    let w = words_of log (controls_in 0 marks) in (
      c.loop-i.invariant.0 ∙ fill_end w.butterfly c.loop-i.i (omega (arith, butterfly-count marks log c.requires.0)),
      c.loop-i.invariant.1 ∙ fill_end w.inverse c.loop-i.i (omega (arith, inverse-count marks log c.requires.0)),
    )
