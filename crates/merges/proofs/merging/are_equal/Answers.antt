-- `merging::are_equal` meets its contract: what was found and what is left of both stretches stay the answer for the whole.
use mathlib.Core.Path.{sym, ◌∙◌}
use lib.Ieee.{nan, eq}
use Rattle.model.specs.Merge.{equal_all}
use Rattle.lent.proofs.Scans.{pair-next, pair-out, equal-none, equal-more}
use Rattle.merges.proofs.merging.are_equal.Goals as goal

pub loop-k-preserved : goal.loop-k-preserved
loop-k-preserved c = pair-next nan eq equal_all equal-none equal-more c.args.reals.now c.args.theirs.now c.args.start c.args.from c.args.n c.loop-k.k c.loop-k.ok c.requires.0 c.requires.1 c.loop-k-test.true ∙ c.loop-k.invariant

pub returns : goal.returns
returns c = sym (pair-out nan eq equal_all equal-none equal-more c.args.reals.now c.args.theirs.now c.args.start c.args.from c.args.n c.loop-k.k c.loop-k.ok c.requires.0 c.requires.1 c.loop-k-test.false) ∙ c.loop-k.invariant
