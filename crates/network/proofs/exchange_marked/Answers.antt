-- `network::exchange_marked` meets its contract. Assumes nothing.
use mathlib.Core.Path.{refl}
use Rattle.network.specs.Word.{exchange_of}
use Rattle.network.proofs.exchange_marked.Goals as goal

pub returns : goal.returns
unfolding exchange_of
returns c = refl
