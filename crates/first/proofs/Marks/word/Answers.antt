-- `first::Marks::word` meets its contract. Assumes nothing.
use mathlib.Core.Path.{◌≡◌, ap}
use Prim.Native.Nat.{ℕ, ◌+◌, ◌-◌}
use native.Mathlib.Omega.{arith}
use Rattle.routing.specs.Lists.{word_of}
use Rattle.first.specs.Marks.{swaps_from}
use Rattle.first.proofs.MarkWords.{twice_fits, word-turn, word_fits}
use Rattle.first.proofs.Marks.word.Goals as goal

pub loop-s-init : goal.loop-s-init
unfolding word_of
loop-s-init c =
    let none : 0 ≡ c.args.count - c.args.count = omega arith in
    ap (λ (k : ℕ). word_of k (λ j. swaps_from c.args.self.now.switches c.args.at (c.args.count + j))) none

pub overflow_mul-word : goal.overflow_mul-word
overflow_mul-word c =
    record { fits = twice_fits c.args.self.now.switches c.args.at c.args.count _ _ (omega arith) (omega arith) (omega arith) c.loop-s.invariant }

pub overflow_add-word : goal.overflow_add-word
overflow_add-word c =
    record {
      fits =
          word_fits c.args.self.now.switches c.args.at c.args.count _ _ (omega arith) (omega arith) (omega arith)
          c.loop-s.invariant c.swaps.ensures c.from.ensures;
    }

pub loop-s-preserved : goal.loop-s-preserved
loop-s-preserved c =
    word-turn c.args.self.now.switches c.args.at c.args.count _ _ (omega arith) (omega arith) (omega arith)
    c.loop-s.invariant c.swaps.ensures c.from.ensures
