-- `unit::load_into` meets its contract. Assumes nothing.
use borrow.Author.Rules.{rules}
use Rattle.unit.proofs.TableRows.{loaded-by}
use Rattle.unit.proofs.load_into.Goals as goal

pub returns : goal.returns
returns c = let a = c.args in loaded-by a.registers.now a.x a.y (search rules) (search rules) a.odd c.requires.1
