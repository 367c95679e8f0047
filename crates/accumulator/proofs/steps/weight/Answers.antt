-- A variance of zero has the fixed number, any other its inverse, which is what `inv` gives.
use Rattle.accumulator.specs.Update.{weight_of}
use Rattle.accumulator.proofs.steps.weight.Goals as goal

pub returns-then-variance : goal.returns-then-variance
unfolding weight_of
returns-then-variance c = rw c.if-variance.true

pub returns : goal.returns
unfolding weight_of
returns c = rw (c.if-variance.false, c.inv.ensures)
