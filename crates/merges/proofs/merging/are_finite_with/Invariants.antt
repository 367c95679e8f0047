-- `merging::are_finite_with` meets its contract: what was found and what is left of both stretches stay the answer for the whole.
use mathlib.Core.Path.{◌≡◌}
use Rattle.lent.specs.Layout.{stretch}
use lib.Ieee.{nan}
use Rattle.lent.proofs.Scans.{left_all, finite_with, all_finite_with, finite-none, finite-more}
use Rattle.merges.proofs.merging.are_finite_with.Given as goal

abbrev pub invariant-loop-k : goal.invariant-loop-k
invariant-loop-k l = left_all nan finite_with all_finite_with finite-none finite-more l.reals l.start l.theirs l.from l.n l.k l.ok ≡ all_finite_with (stretch l.start l.n l.reals) (stretch l.from l.n l.theirs)
