-- `first::controls` meets its contract. Assumes nothing.
use mathlib.Core.Path.{ap, ◌∙◌}
use Prim.Native.Nat.{◌-◌}
use native.Mathlib.Omega.{arith}
use Rattle.network.specs.Calls.{six}
use Rattle.routing.specs.Lists.{Words}
use Rattle.first.proofs.Finish.{no-butterfly, no-inverse, entries_fit, entries-permute, all-routable, routed-first}
use Rattle.first.proofs.controls.Goals as goal

pub returns-then-log-eq0 : goal.returns-then-log-eq0
returns-then-log-eq0 c =
    (no-butterfly _ c.args.entries.now c.if-log-eq0.true, no-inverse _ c.args.entries.now c.if-log-eq0.true)

pub of-permutation-requires : goal.of-permutation-requires
of-permutation-requires c =
    (entries_fit c.args.log _ c.requires.0 c.requires.1, entries-permute c.args.log _ c.requires.0 c.requires.1)

pub invariant_of-route : goal.invariant_of-route
invariant_of-route c =
    record {
      fits =
          (all-routable c.args.log _ c.requires.0 c.requires.1 (c.args.log - 1) (omega arith) _ _
          c.of-permutation.ensures).fits;
    }

pub route-requires : goal.route-requires
route-requires c =
    all-routable c.args.log _ c.requires.0 c.requires.1 _ (omega arith) _ _ c.of-permutation.ensures

pub returns : goal.returns
returns c =
    let is =
    routed-first c.args.log _ c.requires.0 c.requires.1 (c.args.log - 1) (omega arith) _ _ c.of-permutation.ensures
    _ _ _ c.route.ensures in (
      c.words.ensures.0 ∙ ap (λ (w : Words). six w.butterfly) is,
      c.words.ensures.1 ∙ ap (λ (w : Words). six w.inverse) is,
    )
