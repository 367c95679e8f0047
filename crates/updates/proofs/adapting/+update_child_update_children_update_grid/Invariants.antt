-- The cycle meets its contracts: a child by its link, children as the loop's finding with what is left, a grid by its kind; levels fall.
use mathlib.Core.Path.{◌≡◌}
use Prim.Native.Nat.{◌+◌, ◌-◌, ◌*◌}
use lib.ListN.{length}
use Rattle.lent.specs.Memory.{memory}
use Rattle.lent.specs.Renewed.{finding}
use Rattle.lent.specs.Turns.{children_turned}
use Rattle.lent.specs.Adapted.{followed, updated_in}
use Rattle.updates.proofs.adapting.+update_child_update_children_update_grid.Given as goal

abbrev pub decreases-update_child : goal.decreases-update_child
decreases-update_child l = 3 * l.level + 1

abbrev pub decreases-update_children : goal.decreases-update_children
decreases-update_children l = 3 * l.level + 2

abbrev pub decreases-update_grid : goal.decreases-update_grid
decreases-update_grid l = 3 * l.level

abbrev pub invariant-update_children-loop-i : goal.invariant-update_children-loop-i
invariant-update_children-loop-i l = (length l.reals ≡ length l.initial.reals) × (length l.counts ≡ length l.initial.counts) × (followed (finding l.found.eight l.found.nine (memory l.reals l.counts)) (children_turned (updated_in l.level l.table l.bins_rate l.axes_rate) l.table l.w l.i (l.n - l.i)) ≡ children_turned (updated_in l.level l.table l.bins_rate l.axes_rate) l.table l.w 0 l.n (memory l.initial.reals l.initial.counts))
