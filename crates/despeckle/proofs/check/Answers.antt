-- `despeckle::check` meets its contract: by its tests, and no product of large factors is made. Assumes nothing.
use Prim.Native.Nat.{◌*◌}
use native.Mathlib.Omega.{arith}
use native.Mathlib.Nat.{mul_comm, zero-mul}
use borrow.Author.Rules.{rules}
use borrow.Author.Tests.{lt-ltb, le-ltb, eq-eqb, ne_eqb}
use Rattle.despeckle.specs.Calls.{plane_refusal}
use Rattle.despeckle.proofs.PlaneAnswers.{no_less, no_words, by-short, plane-by-none}
use Rattle.despeckle.proofs.check.Goals as goal
use Rattle.despeckle.proofs.check.Goals.{then-own-gt-LONGEST-via-then-own-gt-LONGEST, then-own-gt-LONGEST-via-else-own-gt-LONGEST+then-other-gt-LONGEST}
use Rattle.despeckle.proofs.check.Goals.{then-rows-eq0-via-then-rows-eq0, then-rows-eq0-via-else-rows-eq0+then-words-eq0}
use Rattle.despeckle.proofs.check.Goals.{then-rows-gt-LONGEST-via-then-rows-gt-LONGEST, then-rows-gt-LONGEST-via-else-rows-gt-LONGEST+then-words-gt-LONGEST}

pub returns-then-own-gt-LONGEST : goal.returns-then-own-gt-LONGEST
unfolding plane_refusal
returns-then-own-gt-LONGEST c =
    elim c.then-own-gt-LONGEST.branch [
      | then-own-gt-LONGEST-via-then-own-gt-LONGEST w ↦ simp (lt-ltb 2048 _ w.if-own-gt-LONGEST.true)
      | then-own-gt-LONGEST-via-else-own-gt-LONGEST+then-other-gt-LONGEST w ↦ simp (le-ltb 2048 _ w.if-own-gt-LONGEST.false, lt-ltb 2048 _ w.if-other-gt-LONGEST.true)
    ]

pub returns-then-rows-eq0 : goal.returns-then-rows-eq0
unfolding plane_refusal
returns-then-rows-eq0 c =
    let a = c.args in
    elim c.then-rows-eq0.branch [
      | then-rows-eq0-via-then-rows-eq0 w ↦
          simp (
            le-ltb 2048 _ c.if-own-gt-LONGEST.false,
            le-ltb 2048 _ c.if-other-gt-LONGEST.false,
            le-ltb a.other (a.words * a.rows) (omega (arith, no_words a.words w.if-rows-eq0.true)),
            eq-eqb _ _ w.if-rows-eq0.true,
          )
      | then-rows-eq0-via-else-rows-eq0+then-words-eq0 w ↦
          simp (
            le-ltb 2048 _ c.if-own-gt-LONGEST.false,
            le-ltb 2048 _ c.if-other-gt-LONGEST.false,
            le-ltb a.other (a.words * a.rows) (rw (w.if-words-eq0.true, zero-mul) (omega arith)),
            ne_eqb _ _ w.if-rows-eq0.false,
            eq-eqb _ _ w.if-words-eq0.true,
          )
    ]

pub returns-then-rows-gt-LONGEST : goal.returns-then-rows-gt-LONGEST
returns-then-rows-gt-LONGEST c =
    let a = c.args in
    by-short _ _ _ _ c.if-own-gt-LONGEST.false c.if-other-gt-LONGEST.false
    elim c.then-rows-gt-LONGEST.branch [
      | then-rows-gt-LONGEST-via-then-rows-gt-LONGEST w ↦
          omega (arith, no_less {h = a.rows} c.if-words-eq0.false, c.if-other-gt-LONGEST.false, w.if-rows-gt-LONGEST.true)
      | then-rows-gt-LONGEST-via-else-rows-gt-LONGEST+then-words-gt-LONGEST w ↦
          omega (arith, no_less {h = a.words} c.if-rows-eq0.false, mul_comm a.words a.rows, c.if-other-gt-LONGEST.false, w.if-words-gt-LONGEST.true)
    ]

pub returns-then-other-size : goal.returns-then-other-size
returns-then-other-size c =
    by-short _ _ _ _ c.if-own-gt-LONGEST.false c.if-other-gt-LONGEST.false
    (omega (arith, no_less {h = c.args.rows} c.if-words-eq0.false, c.if-other-size.true))

pub returns-then-size-own : goal.returns-then-size-own
unfolding plane_refusal
returns-then-size-own c =
    simp (
      le-ltb 2048 _ c.if-own-gt-LONGEST.false,
      le-ltb 2048 _ c.if-other-gt-LONGEST.false,
      le-ltb _ _ c.if-other-size.false,
      ne_eqb _ _ c.if-rows-eq0.false,
      ne_eqb _ _ c.if-words-eq0.false,
      ne_eqb _ _ c.if-size-own.true,
    )

pub returns : goal.returns
returns c = plane-by-none _ _ _ _ (search rules)
