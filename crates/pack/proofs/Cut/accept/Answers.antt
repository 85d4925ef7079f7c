-- `pack::Cut::accept` meets its contract: its tests are those of the list, in order. Assumes nothing.
use mathlib.Core.Path.{refl, sym}
use borrow.Author.Rules.{rules}
use borrow.Author.Tests.{lt-ltb, le-ltb}
use Rattle.pack.specs.Calls.{fields_refusal}
use Rattle.pack.proofs.FieldAnswers.{by-none}
use Rattle.pack.proofs.Cut.accept.Goals as goal
use Rattle.pack.proofs.Cut.accept.Goals.{then-b-a-via-then-b-a, then-b-a-via-else-b-a+then-own-b, then-b-a-via-else-b-a+else-own-b+then-own-gt-LONGEST, then-b-a-via-else-b-a+else-own-b+else-own-gt-LONGEST+then-other-gt-LONGEST}

pub returns-then-b-a : goal.returns-then-b-a
unfolding fields_refusal
returns-then-b-a c =
    elim c.then-b-a.branch [
      | then-b-a-via-then-b-a w ↦ simp (lt-ltb _ _ w.if-b-a.true)
      | then-b-a-via-else-b-a+then-own-b w ↦ simp (le-ltb _ _ w.if-b-a.false, lt-ltb _ _ w.if-own-b.true)
      | then-b-a-via-else-b-a+else-own-b+then-own-gt-LONGEST w ↦
          simp (le-ltb _ _ w.if-b-a.false, le-ltb _ _ w.if-own-b.false, lt-ltb 2048 _ w.if-own-gt-LONGEST.true)
      | then-b-a-via-else-b-a+else-own-b+else-own-gt-LONGEST+then-other-gt-LONGEST w ↦
          simp (
            le-ltb _ _ w.if-b-a.false,
            le-ltb _ _ w.if-own-b.false,
            le-ltb 2048 _ w.if-own-gt-LONGEST.false,
            lt-ltb 2048 _ w.if-other-gt-LONGEST.true,
          )
    ]

pub returns-then-other-words : goal.returns-then-other-words
unfolding fields_refusal
returns-then-other-words c =
    simp (
      le-ltb _ _ c.if-b-a.false,
      le-ltb _ _ c.if-own-b.false,
      le-ltb 2048 _ c.if-own-gt-LONGEST.false,
      le-ltb 2048 _ c.if-other-gt-LONGEST.false,
      lt-ltb _ _ (rw c.words.ensures at c.if-other-words.true),
    )

pub returns : goal.returns
returns c = (refl, refl, refl, sym (by-none _ _ _ _ _ (search rules)))
