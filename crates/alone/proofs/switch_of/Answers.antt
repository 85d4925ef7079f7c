-- `alone::switch_of` meets its contract. Assumes nothing.
use native.Mathlib.Omega.{arith}
use Rattle.alone.proofs.OneRoute.{switch-is, distance-pos}
use borrow.Author.Rules.{rules}
use Rattle.alone.proofs.switch_of.Goals as goal

pub nonzero_rem-result : goal.nonzero_rem-result
nonzero_rem-result c = distance-pos c.args.exponent (search rules)

pub overflow_sub-result : goal.overflow_sub-result
overflow_sub-result c = let a = c.args in (switch-is a.exponent (search rules) a.place a.source (search rules)).0

pub nonzero_rem-result-2 : goal.nonzero_rem-result-2
nonzero_rem-result-2 c = distance-pos c.args.exponent (search rules)

pub overflow_add-result : goal.overflow_add-result
overflow_add-result c =
    let a = c.args in
    record { fits = omega (arith, switch-is a.exponent (search rules) a.place a.source (search rules)) }

pub returns : goal.returns
returns c =
    let a = c.args in
    let s = switch-is a.exponent (search rules) a.place a.source (search rules) in
    (s.1, s.2)
