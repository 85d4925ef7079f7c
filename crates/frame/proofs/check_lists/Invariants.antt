-- What the loop of `frame::check_lists` keeps. Assumes nothing.
use Rattle.std.proofs.Common.{◌≡◌, [], map, length}
use Rattle.bits.specs.Refusal.{number_in}
use Rattle.frame.specs.Frame.{brought_by}
use Rattle.frame.proofs.Lowering.{Checked}
use Rattle.frame.proofs.check_lists.Given as goal

abbrev pub invariant-loop-bank : goal.invariant-loop-bank
invariant-loop-bank l =
    let banks = l.bank-iterator.a.rest.now in
    let lists = l.bank-iterator.b.rest.now in
    (length banks ≡ length lists)
    × Checked (brought_by (map (λ bank. bank.now) l.banks) (map (λ list. list.now) l.lists) []) (number_in l.lowest) (map (λ bank. bank.now) banks) (map (λ list. list.now) lists)
