-- What was found so far, joined with what the bins that are left come to, is what all of them come to.
use Prim.Native.Nat.{ℕ, ◌+◌, ◌-◌, ◌*◌}
use Rattle.doubles.specs.Refusal.{fault_of}
use Rattle.model.specs.Grid.{Bins, bins}
use Rattle.lent.specs.declared.Lent.{Lent}
use Rattle.lent.specs.Lent.{head_in}
use Rattle.lent.specs.Tree.{bins_in, grid_at}
use Rattle.lent.specs.Matched.{grid_obstacle}
use Rattle.lent.proofs.Matches.{Going}
use Rattle.merges.proofs.matching.+bin_obstacle_bins_obstacle_child_obstacle_grid_obstacle.Given as goal

abbrev pub decreases-bin_obstacle : goal.decreases-bin_obstacle
decreases-bin_obstacle l = 4 * l.level + 2

abbrev pub decreases-bins_obstacle : goal.decreases-bins_obstacle
decreases-bins_obstacle l = 4 * l.level + 3

abbrev pub decreases-child_obstacle : goal.decreases-child_obstacle
decreases-child_obstacle l = 4 * l.level + 1

abbrev pub decreases-grid_obstacle : goal.decreases-grid_obstacle
decreases-grid_obstacle l = 4 * l.level

-- so many bins of a grid, from bin i on
abbrev run : Lent → ℕ → ℕ → ℕ → ℕ → Bins
run m level w i n = bins_in (grid_at level m.table.now m.reals.now m.counts.now) m.table.now m.reals.now m.counts.now w i n

abbrev pub invariant-bins_obstacle-loop-i : goal.invariant-bins_obstacle-loop-i
invariant-bins_obstacle-loop-i l = Going (fault_of l.found) (grid_obstacle (bins (head_in l.m l.w) (run l.m l.level l.w 0 l.n)) (bins (head_in l.o l.v) (run l.o l.level l.v 0 l.many))) (run l.m l.level l.w l.i (l.n - l.i)) (run l.o l.level l.v l.i (l.n - l.i))
