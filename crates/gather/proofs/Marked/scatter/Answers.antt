-- `gather::Marked::scatter` meets its contract: the bits are dealt to the bytes, and scattered within each. Assumes nothing.
use mathlib.Core.Path.{◌∙◌, ap}
use Rattle.gather.specs.Parts.{scatter_parts}
use Rattle.gather.proofs.Joining.{scatter-dealt}
use Rattle.gather.proofs.Marked.scatter.Goals as goal

pub returns : goal.returns
returns c =
    let a = c.args in
    c.scatter_bytes.ensures ∙ ap (scatter_parts 8 8 a.self.mask) c.deal.ensures ∙ scatter-dealt 8 a.self.mask a.word
