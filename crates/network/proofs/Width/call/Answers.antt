-- `network::Width::call` meets its contract. Assumes nothing.
use mathlib.Core.Path.{sym}
use Rattle.network.proofs.Width.call.Goals as goal

pub returns-in-8-clause-accepted : goal.returns-in-8-clause-accepted
returns-in-8-clause-accepted g c = λ h. (_, sym c.in-8.is, c.at.ensures)

pub returns-in-16-clause-accepted : goal.returns-in-16-clause-accepted
returns-in-16-clause-accepted g c = λ h. (_, sym c.in-16.is, c.at-in-16.ensures)

pub returns-in-32-clause-accepted : goal.returns-in-32-clause-accepted
returns-in-32-clause-accepted g c = λ h. (_, sym c.in-32.is, c.at-in-32.ensures)

pub returns-then-bits-eq64-clause-accepted : goal.returns-then-bits-eq64-clause-accepted
returns-then-bits-eq64-clause-accepted g c = λ h. (_, sym c.if-bits-eq64.true, c.at-then-bits-eq64.ensures)
