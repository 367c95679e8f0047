-- `merging::merge_axes` meets its contract: what is left to merge on the memory now is all of it on the memory at entry.
use mathlib.Core.Path.{sym, ◌∙◌}
use native.Mathlib.Omega.{arith}
use Rattle.lent.proofs.First.{one_less}
use Rattle.lent.proofs.Joins.{merged-next, merged-done}
use Rattle.lent.proofs.Unites.{spaced-on}
use Rattle.merges.proofs.merging.merge_axes.Goals as goal

pub loop-left-preserved : goal.loop-left-preserved
loop-left-preserved c = (spaced-on _ _ _ _ c.loop-left-test.true c.loop-left.invariant.0 c.after_first-left.ensures, spaced-on _ _ _ _ (omega (arith, c.loop-left-test.true, c.loop-left.invariant.2)) c.loop-left.invariant.1 c.after_first-right.ensures, omega (arith, one_less c.loop-left.left c.after_first-left.result c.after_first-left.ensures, one_less c.loop-left.right c.after_first-right.result c.after_first-right.ensures, c.loop-left.invariant.2), c.merge_axis.auto.reals ∙ c.loop-left.invariant.3, c.merge_axis.auto.counts ∙ c.loop-left.invariant.4, merged-next _ _ _ _ _ _ _ c.loop-left-test.true c.after_first-left.ensures c.after_first-right.ensures c.merge_axis.ensures ∙ c.loop-left.invariant.5)

pub returns : goal.returns
returns c = sym (merged-done _ _ _ _ c.loop-left-test.false) ∙ c.loop-left.invariant.5

pub loop-left-smaller : goal.loop-left-smaller
loop-left-smaller c = omega (arith, one_less c.loop-left.left c.after_first-left.result c.after_first-left.ensures, c.loop-left-test.true)
