-- `tiles::transpose` meets its contract: three steps, compared with the rule over 64 places. Assumes nothing.
use mathlib.Core.Path.{◌≡◌, refl, ◌∙◌, ap}
use mathlib.Core.Bool.{true}
use Prim.Native.Nat.{ℕ, ◌^◌, ◌<◌}
use native.Mathlib.Omega.{arith}
use lib.Dec.{eqb}
use Rattle.bits.specs.Bit.{bit}
use Rattle.bits.proofs.Computed.{every}
use Rattle.network.specs.Word.{exchange_of}
use Rattle.tiles.specs.Tile.{transpose_rule, goes_to, moved}
use Rattle.tiles.proofs.MarkedPlaces.{swapped, swaps_once, sent-marked}
use Rattle.tiles.proofs.Moves.{sent-three}
use Rattle.tiles.proofs.Theorems.{transpose-inverse}
use borrow.Author.Rules.{rules}
use Rattle.tiles.proofs.transpose.Goals as goal

abbrev first : ℕ
first = 0x00AA00AA00AA00AA

abbrev second : ℕ
second = 0x0000CCCC0000CCCC

abbrev third : ℕ
third = 0x00000000F0F0F0F0

first-once : swaps_once 7 first ≡ true
unfolding every bit
first-once = refl

second-once : swaps_once 14 second ≡ true
unfolding every bit
second-once = refl

third-once : swaps_once 28 third ≡ true
unfolding every bit
third-once = refl

compared : every 64 (λ q. eqb (swapped 7 first (swapped 14 second (swapped 28 third q))) (goes_to transpose_rule q)) ≡ true
unfolding every bit
compared = refl

steps : (x : ℕ) → x < 2 ^ 64 → exchange_of 28 third (exchange_of 14 second (exchange_of 7 first x)) ≡ moved transpose_rule x
steps x h =
    let a = sent-marked 7 first (omega arith) first-once h in
    let b = sent-marked 14 second (omega arith) second-once a.fits in
    let c = sent-marked 28 third (omega arith) third-once b.fits in
    sent-three transpose_rule transpose_rule transpose-inverse _ _ _ compared x _ _ _ a b c

pub returns : goal.returns
returns c =
    c.exchange_marked.ensures
    ∙ ap (exchange_of 28 third) (c.exchange_marked-fours.ensures ∙ ap (exchange_of 14 second) c.exchange_marked-pairs.ensures)
    ∙ steps c.args.tile (search rules)
