-- `pack::Fields::write_first` meets its contract. Assumes nothing.
use mathlib.Core.Path.{◌≡◌}
use Prim.Native.Nat.{◌%◌}
use native.Mathlib.Omega.{arith}
use borrow.Author.Rules.{rules}
use lib.ListN.{length}
use Rattle.pack.proofs.Turns.{pack-starts, pack-begins}
use Rattle.pack.proofs.Fields.write_first.Goals as goal

pub returns-then-words-eq0 : goal.returns-then-words-eq0
returns-then-words-eq0 c =
    let a = c.args in
    let e : 0 ≡ length a.words.now % 2 = omega (arith, c.if-words-eq0.true) in
    record { holds = λ old. rw (← e) (pack-starts a.self.now.mask a.words.now old c.start.ensures) }

pub returns : goal.returns
returns c =
    let a = c.args in
    let f = a.self.now in
    let e : 1 ≡ length a.words.now % 2 = search rules in
    record { holds = λ old. rw (← e) (pack-begins f.mask a.words.now old (search rules) f.sized _ c.gathered.ensures) }
