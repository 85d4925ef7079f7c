-- `despeckle::window::Window::slide` meets its contract. Assumes nothing.
use borrow.Author.Rules.{rules}
use Rattle.despeckle.proofs.Sliding.{slide-lt, slides}
use Rattle.despeckle.proofs.window.Window.slide.Goals as goal

pub returns : goal.returns
returns c = slides c.args.self.number c.args.column (search rules)

pub invariant_of-result : goal.invariant_of-result
invariant_of-result c = record { small = slide-lt c.args.self.number c.args.column (search rules) }
