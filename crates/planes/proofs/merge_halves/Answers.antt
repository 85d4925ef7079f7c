-- `planes::merge_halves` meets its contract. Assumes nothing.
use mathlib.Core.Path.{◌∙◌, ap}
use Prim.Native.Nat.{ℕ}
use Rattle.planes.specs.Steps.{merge_halves}
use Rattle.planes.proofs.Widths.{half-power, merged-word, mirrored-is}
use Rattle.planes.proofs.merge_halves.Goals as goal

pub returns : goal.returns
returns c =
    let a = c.args in
    let f = a.kept.fields in
    let m = mirrored-is f.half_width f.fill_word a.kept.is_narrow in
    rw (c.apart.ensures, c.apart-2.ensures, c.mirrored-kept.ensures.0, c.mirrored-kept.ensures.1)
    (merged-word _ (half-power _ m.0) a.kept.half a.first a.second ∙ ap (λ (w : ℕ). merge_halves w a.kept.half a.first a.second) m.2)
