-- The fields one by one, with the guess that was chosen.
use Rattle.accumulator.specs.Update.{settled_of}
use Rattle.accumulator.proofs.steps.settled.Goals as goal

pub returns : goal.returns
unfolding settled_of
returns c = rw c.either-guess.ensures
