-- `planes::fields::Fields::by_turns` meets its contract. Assumes nothing.
use Rattle.planes.proofs.Widths.{half-power, turns-of}
use Rattle.planes.proofs.fields.Fields.by_turns.Goals as goal

pub returns : goal.returns
returns c =
    let a = c.args in
    let h = a.self.half_width in
    rw c.low_halves-low.ensures (turns-of h (half-power h a.self.fill_word) a.first a.second)
