-- `network::decode_inverse_64` meets its contract. Assumes nothing.
use mathlib.Core.Path.{◌∙◌, ap}
use mathlib.Core.List.{reverse}
use Rattle.network.specs.Decoder.{decode_inverse_of}
use Rattle.network.proofs.decode_inverse_64.Goals as goal

pub returns : goal.returns
unfolding decode_inverse_of
returns c = c.reverse.ensures.after ∙ ap reverse c.decode_64-stages.ensures
