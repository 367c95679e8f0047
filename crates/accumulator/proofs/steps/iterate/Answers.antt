-- The calls, put together, are the definition.
use Rattle.accumulator.specs.Update.{iterated_of}
use Rattle.accumulator.proofs.steps.iterate.Goals as goal

pub returns : goal.returns
unfolding iterated_of
returns c = rw (c.either-avg.ensures, c.settled-after.ensures)
