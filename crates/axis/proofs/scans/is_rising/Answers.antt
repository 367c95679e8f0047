-- `ok`, and rising from edge k - 1 on, is the answer at every turn, which compares one more pair of neighbours.
use mathlib.Core.Path.{sym, ◌∙◌}
use Rattle.axis.proofs.Lists.{rising-on, rising-out}
use Rattle.axis.proofs.scans.is_rising.Goals as goal

pub loop-k-preserved : goal.loop-k-preserved
loop-k-preserved c = rising-on c.args.edges.now c.loop-k.k c.loop-k.ok c.loop-k.auto.k c.loop-k-test.true ∙ c.loop-k.invariant

pub returns : goal.returns
returns c = sym (rising-out c.args.edges.now c.loop-k.k c.loop-k.ok c.loop-k.auto.k c.loop-k-test.false) ∙ c.loop-k.invariant
