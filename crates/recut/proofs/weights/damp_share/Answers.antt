-- `recut::weights::damp_share` meets its contract: the definition, with the test that was met.
use Rattle.recut.specs.Weights.{damp_share}
use Rattle.recut.proofs.weights.damp_share.Goals as goal

pub returns-then-share : goal.returns-then-share
unfolding damp_share
returns-then-share c = rw c.if-share.true

pub returns : goal.returns
unfolding damp_share
returns c = rw (c.if-share.false, c.power.ensures, c.ln.ensures)
