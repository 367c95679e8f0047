-- The definition joins two comparisons: where the first fails the answer is no, else it is the second.
use Rattle.axis.specs.Edges.{in_unit}
use Rattle.axis.proofs.scans.in_unit.Goals as goal

pub returns-then-x : goal.returns-then-x
unfolding in_unit
returns-then-x c = rw c.if-x.true

pub returns-else-x : goal.returns-else-x
unfolding in_unit
returns-else-x c = rw c.if-x.false
