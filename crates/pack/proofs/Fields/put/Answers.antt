-- `pack::Fields::put` meets its contract: the field stays in the word begun, or completes it. Assumes nothing.
use native.Mathlib.Omega.{arith}
use Rattle.pack.proofs.Stream.{put-stays, put-completes}
use borrow.Author.Rules.{rules}
use Rattle.pack.proofs.Fields.put.Goals as goal

pub returns-then-held-size-lt64 : goal.returns-then-held-size-lt64
returns-then-held-size-lt64 c =
    let a = c.args in
    record { at = omega arith; next = λ s n old h e. put-stays a.cursor.now a.self.now.size a.field s n old h e _ }

pub returns : goal.returns
returns c =
    let a = c.args in
    record { at = omega arith; next = λ s n old h e. put-completes a.cursor.now a.self.now.size a.field s n old h e _ (search rules) (search rules) }
