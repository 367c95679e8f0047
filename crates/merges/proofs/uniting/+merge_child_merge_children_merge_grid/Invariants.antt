-- A step keeps the lengths, so what lies there lies there for the next child; what is left to merge is all of it.
use mathlib.Core.Path.{◌≡◌}
use Prim.Native.Nat.{◌+◌, ◌-◌, ◌*◌}
use lib.ListN.{length}
use Rattle.lent.specs.Memory.{memory}
use Rattle.lent.specs.United.{united_children, united_grid}
use Rattle.merges.proofs.uniting.+merge_child_merge_children_merge_grid.Given as goal

abbrev pub decreases-merge_child : goal.decreases-merge_child
decreases-merge_child l = 3 * l.level + 1

abbrev pub decreases-merge_children : goal.decreases-merge_children
decreases-merge_children l = 3 * l.level + 2

abbrev pub decreases-merge_grid : goal.decreases-merge_grid
decreases-merge_grid l = 3 * l.level

abbrev pub invariant-merge_children-loop-i : goal.invariant-merge_children-loop-i
invariant-merge_children-loop-i l = (length l.reals ≡ length l.initial.reals) × (length l.counts ≡ length l.initial.counts) × (united_children l.table l.o.table.now (memory l.o.reals.now l.o.counts.now) (united_grid l.table l.o.table.now (memory l.o.reals.now l.o.counts.now) l.level) l.w l.v l.i (l.n - l.i) (memory l.reals l.counts) ≡ united_children l.table l.o.table.now (memory l.o.reals.now l.o.counts.now) (united_grid l.table l.o.table.now (memory l.o.reals.now l.o.counts.now) l.level) l.w l.v 0 l.n (memory l.initial.reals l.initial.counts))
