-- `merging::equal_edges` meets its contract: what was found and what is left of both grids stay the answer for them all.
use mathlib.Core.Path.{◌≡◌}
use mathlib.Core.Bool.{true, ◌&&◌}
use Rattle.lent.specs.Drawn.{Stands}
use Rattle.lent.proofs.Merges.{same_at, equal_at}
use Rattle.merges.proofs.merging.equal_edges.Given as goal

abbrev pub invariant-loop-left : goal.invariant-loop-left
invariant-loop-left l = Stands l.reals l.counts l.left × Stands l.theirs l.tallies l.right × (same_at l.reals l.counts l.theirs l.tallies l.left l.right ≡ true) × ((l.ok && equal_at l.reals l.counts l.theirs l.tallies l.left l.right) ≡ equal_at l.reals l.counts l.theirs l.tallies l.initial.left l.initial.right)

abbrev pub decreases-loop-left : goal.decreases-loop-left
decreases-loop-left l = l.left.axes
