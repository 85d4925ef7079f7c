-- `planes::fields::Fields::crossed` meets its contract. Assumes nothing.
use Rattle.planes.proofs.Crossing.{crossed-word}
use Rattle.planes.proofs.Widths.{half-power, half_pos}
use borrow.Author.Rules.{rules}
use Rattle.planes.proofs.fields.Fields.crossed.Goals as goal

pub returns : goal.returns
returns c =
    let a = c.args in
    let h = a.self.half_width in
    rw (c.low_halves.ensures, c.low_halves-2.ensures, c.wider.ensures) (crossed-word h (half_pos h (half-power h a.self.fill_word)) a.word (search rules))
