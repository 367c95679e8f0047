-- `merging::are_bounded_with` meets its contract: what was found and what is left of both stretches stay the answer for the whole; no sum overflows.
use mathlib.Core.Path.{◌≡◌}
use Rattle.lent.specs.Layout.{stretch}
use Rattle.lent.proofs.Scans.{left_all, bounded_with, all_bounded_with, bounded-none, bounded-more}
use Rattle.merges.proofs.merging.are_bounded_with.Given as goal

abbrev pub invariant-loop-k : goal.invariant-loop-k
invariant-loop-k l = left_all 0 bounded_with all_bounded_with bounded-none bounded-more l.counts l.start l.theirs l.from l.n l.k l.ok ≡ all_bounded_with (stretch l.start l.n l.counts) (stretch l.from l.n l.theirs)
