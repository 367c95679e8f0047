-- `merging::are_equal` meets its contract: what was found and what is left of both stretches stay the answer for the whole.
use mathlib.Core.Path.{◌≡◌}
use Rattle.lent.specs.Layout.{stretch}
use lib.Ieee.{nan, eq}
use Rattle.model.specs.Merge.{equal_all}
use Rattle.lent.proofs.Scans.{left_all, equal-none, equal-more}
use Rattle.merges.proofs.merging.are_equal.Given as goal

abbrev pub invariant-loop-k : goal.invariant-loop-k
invariant-loop-k l = left_all nan eq equal_all equal-none equal-more l.reals l.start l.theirs l.from l.n l.k l.ok ≡ equal_all (stretch l.start l.n l.reals) (stretch l.from l.n l.theirs)
