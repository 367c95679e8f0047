-- `recut::weights::damp_one` meets its contract: the definition, with the tests that were met.
use Rattle.recut.specs.Weights.{damp_one}
use Rattle.recut.proofs.weights.damp_one.Goals as goal

pub returns-then-importance-total : goal.returns-then-importance-total
unfolding damp_one
returns-then-importance-total c = rw c.if-importance-total.true

pub returns-then-importance : goal.returns-then-importance
unfolding damp_one
returns-then-importance c = rw (c.if-importance-total.false, c.if-importance.true)

pub returns : goal.returns
unfolding damp_one
returns c = rw (c.if-importance-total.false, c.if-importance.false) c.damp_share.ensures
