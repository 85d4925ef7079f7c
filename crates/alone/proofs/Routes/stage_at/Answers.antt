-- `alone::Routes::stage_at` meets its contract. Assumes nothing.
use Rattle.alone.proofs.Routes.stage_at.Goals as goal

pub returns-then-self : goal.returns-then-self
returns-then-self c = (c.requires, rw c.if-self.true)
