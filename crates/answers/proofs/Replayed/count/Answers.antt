-- The number of a test is the definition's.
use Rattle.answers.specs.Replayed.{counted}
use Rattle.answers.proofs.Replayed.count.Goals as goal

pub returns : goal.returns
unfolding counted
returns c = rw c.from.ensures
