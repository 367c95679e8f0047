-- The answer so far and that for the counts not yet read make the answer for all.
use mathlib.Core.Path.{sym, ◌∙◌}
use Rattle.axis.proofs.Lists.{bounded-on, bounded-out}
use Rattle.axis.proofs.scans.are_bounded.Goals as goal

pub loop-n-preserved : goal.loop-n-preserved
loop-n-preserved c = bounded-on c.args.ns.now c.loop-n.n-index c.loop-n.ok c.loop-n-test.true ∙ c.loop-n.invariant

pub returns : goal.returns
returns c = sym (bounded-out c.args.ns.now c.loop-n.n-index c.loop-n.ok c.loop-n-test.false) ∙ c.loop-n.invariant
