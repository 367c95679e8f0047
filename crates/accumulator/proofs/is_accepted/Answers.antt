-- Both tests are the definition's.
use Rattle.accumulator.specs.Calls.{numbered}
use Rattle.accumulator.proofs.is_accepted.Goals as goal

pub returns : goal.returns
unfolding numbered
returns c = rw c.is_well_formed.ensures
