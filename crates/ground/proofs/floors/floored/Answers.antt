-- A floor of 0, a floor of 1 and a weight of 0 are tested in the definition's order; past them its formula is left.
use Rattle.model.specs.Draw.{floored_of}
use Rattle.ground.proofs.floors.floored.Goals as goal

pub returns-then-floor : goal.returns-then-floor
unfolding floored_of
returns-then-floor c = rw c.if-floor.true

pub returns-then-floor-2 : goal.returns-then-floor-2
unfolding floored_of
returns-then-floor-2 c = rw (c.if-floor.false, c.if-floor-2.true)

pub returns-then-weight : goal.returns-then-weight
unfolding floored_of
returns-then-weight c = rw (c.if-floor.false, c.if-floor-2.false, c.if-weight.true)

pub returns : goal.returns
unfolding floored_of
returns c = rw (c.if-floor.false, c.if-floor-2.false, c.if-weight.false, c.inv.ensures)
