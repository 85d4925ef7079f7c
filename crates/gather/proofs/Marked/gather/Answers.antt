-- `gather::Marked::gather` meets its contract. Assumes nothing.
use mathlib.Core.Path.{◌∙◌}
use native.Mathlib.Omega.{arith}
use Rattle.gather.proofs.Marked.gather.Goals as goal

pub returns : goal.returns
returns c = c.gather_below.ensures ∙ omega arith
