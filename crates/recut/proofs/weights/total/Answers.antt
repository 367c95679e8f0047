-- The whole total is the one from the sum so far over the rest.
use mathlib.Core.Path.{sym, ◌∙◌}
use Rattle.recut.proofs.Totals.{total-next, total-end}
use Rattle.recut.proofs.weights.total.Goals as goal

pub loop-x-preserved : goal.loop-x-preserved
loop-x-preserved c = c.loop-x.invariant ∙ total-next _ _ _ c.loop-x-test.true

pub returns : goal.returns
returns c = sym (c.loop-x.invariant ∙ total-end _ _ _ c.loop-x-test.false)
