-- `runs::remember` meets its contract. Assumes nothing.
use mathlib.Core.Path.{◌≡◌, ◌∙◌, ap}
use mathlib.Core.List.{List, ◌++◌}
use Prim.Native.Nat.{ℕ, ◌<◌}
use native.Mathlib.Omega.{arith}
use borrow.Author.Rules.{rules}
use lib.ListN.{length, get_or, set, take, drop}
use lib.Seq.{take-length}
use Rattle.runs.proofs.Remainders.{start-next}
use Rattle.runs.proofs.remember.Goals as goal

pub loop-at-preserved : goal.loop-at-preserved
loop-at-preserved c =
    let a = c.args in
    let l = c.loop-at in
    let h : l.at < length a.rest.now = search rules in
    let m : l.at < length a.list.now = omega (arith, c.requires.0, c.requires.1, h) in
    ap (λ (xs : List ℕ). set xs l.at (get_or a.rest.now l.at 0)) l.invariant ∙ start-next a.rest.now a.list.now l.at h m

pub returns : goal.returns
returns c =
    let a = c.args in
    let l = c.loop-at in
    let e : l.at ≡ length a.rest.now = omega arith in
    l.invariant
    ∙ ap (λ (n : ℕ). take n a.rest.now ++ drop n a.list.now) e
    ∙ ap (λ (xs : List ℕ). xs ++ drop (length a.rest.now) a.list.now) (take-length a.rest.now)
