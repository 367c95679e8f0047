-- A link of 0 lays nothing; what is left to lay on memory now is all of it on memory at entry, and levels fall.
use mathlib.Core.Path.{◌≡◌}
use Prim.Native.Nat.{◌+◌, ◌-◌, ◌*◌, ◌≤◌}
use lib.ListN.{length}
use Rattle.lent.specs.Memory.{memory}
use Rattle.lent.specs.Founded.{laid_children, laid_grid}
use Rattle.quiet.proofs.founding.+lay_child_lay_children_lay_grid.Given as goal

abbrev pub decreases-lay_child : goal.decreases-lay_child
decreases-lay_child l = 3 * l.level + 1

abbrev pub decreases-lay_children : goal.decreases-lay_children
decreases-lay_children l = 3 * l.level + 2

abbrev pub decreases-lay_grid : goal.decreases-lay_grid
decreases-lay_grid l = 3 * l.level

abbrev pub invariant-lay_children-loop-i : goal.invariant-lay_children-loop-i
invariant-lay_children-loop-i l = (l.i ≤ l.n) × (length l.reals ≡ length l.initial.reals) × (length l.counts ≡ length l.initial.counts) × (laid_children (laid_grid l.level l.table) l.table l.w l.i (l.n - l.i) (memory l.reals l.counts) ≡ laid_children (laid_grid l.level l.table) l.table l.w 0 l.n (memory l.initial.reals l.initial.counts))

abbrev pub decreases-lay_children-loop-i : goal.decreases-lay_children-loop-i
decreases-lay_children-loop-i l = l.n - l.i
