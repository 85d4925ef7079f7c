-- `unit::Networks::at` meets its contract. Assumes nothing.
use Rattle.unit.proofs.Networks.at.Goals as goal

pub returns : goal.returns
returns c = (c.at.ensures.registers, c.at-2.ensures.registers)
