-- The whole reaches the least where the rest of the counters reaches the rest of it.
use mathlib.Core.Path.{sym, ◌∙◌}
use Rattle.recut.proofs.Counts.{reaches-next, reaches-now, reaches_end}
use Rattle.recut.proofs.reaches.Goals as goal

pub returns-then-rest-n : goal.returns-then-rest-n
returns-then-rest-n c = sym (c.loop-n.invariant ∙ reaches-now _ _ _ c.loop-n-test.true c.if-rest-n.true)

pub loop-n-preserved : goal.loop-n-preserved
loop-n-preserved c = c.loop-n.invariant ∙ reaches-next _ _ _ c.loop-n-test.true c.if-rest-n.false

pub returns : goal.returns
returns c = sym (c.loop-n.invariant ∙ reaches_end _ _ _ c.loop-n-test.false)
