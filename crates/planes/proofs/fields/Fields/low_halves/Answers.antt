-- `planes::fields::Fields::low_halves` meets its contract. Assumes nothing.
use Rattle.planes.proofs.Widths.{half-power, divided}
use Rattle.planes.proofs.fields.Fields.low_halves.Goals as goal

pub returns : goal.returns
returns c = let f = c.args.self in divided f.half_width (half-power f.half_width f.fill_word)
