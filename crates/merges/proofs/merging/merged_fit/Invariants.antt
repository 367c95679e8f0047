-- `merging::merged_fit` meets its contract: what was found and what is left of both grids stay the answer for them all.
use mathlib.Core.Path.{◌≡◌}
use mathlib.Core.Bool.{true, ◌&&◌}
use Rattle.lent.specs.Drawn.{Stands}
use Rattle.model.specs.Sound.{kept_axis_list}
use Rattle.lent.specs.Drawn.{axes_at}
use Rattle.lent.proofs.Merges.{same_at, fit_at}
use Rattle.merges.proofs.merging.merged_fit.Given as goal

abbrev pub invariant-loop-left : goal.invariant-loop-left
invariant-loop-left l = Stands l.reals l.counts l.left × Stands l.theirs l.tallies l.right × (same_at l.reals l.counts l.theirs l.tallies l.left l.right ≡ true) × (kept_axis_list (axes_at l.reals l.counts l.left) ≡ true) × (kept_axis_list (axes_at l.theirs l.tallies l.right) ≡ true) × ((l.ok && fit_at l.reals l.counts l.theirs l.tallies l.left l.right) ≡ fit_at l.reals l.counts l.theirs l.tallies l.initial.left l.initial.right)

abbrev pub decreases-loop-left : goal.decreases-loop-left
decreases-loop-left l = l.left.axes
