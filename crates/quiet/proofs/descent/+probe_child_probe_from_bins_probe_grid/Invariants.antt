-- Each branch is a case of the model's probe; what hangs in a sound grid is sound, and a bins grid goes one level down.
use Prim.Native.Nat.{◌+◌, ◌*◌}
use Rattle.quiet.proofs.descent.+probe_child_probe_from_bins_probe_grid.Given as goal

abbrev pub decreases-probe_child : goal.decreases-probe_child
decreases-probe_child l = 3 * l.level + 1

abbrev pub decreases-probe_from_bins : goal.decreases-probe_from_bins
decreases-probe_from_bins l = 3 * l.level + 2

abbrev pub decreases-probe_grid : goal.decreases-probe_grid
decreases-probe_grid l = 3 * l.level
