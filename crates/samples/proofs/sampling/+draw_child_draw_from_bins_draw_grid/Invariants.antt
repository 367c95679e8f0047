-- A bin, its child one level down, then the weight, as the model draws; what hangs in a sound grid is sound.
use Prim.Native.Nat.{◌+◌, ◌*◌}
use Rattle.samples.proofs.sampling.+draw_child_draw_from_bins_draw_grid.Given as goal

abbrev pub decreases-draw_child : goal.decreases-draw_child
decreases-draw_child l = 3 * l.level + 1

abbrev pub decreases-draw_from_bins : goal.decreases-draw_from_bins
decreases-draw_from_bins l = 3 * l.level + 2

abbrev pub decreases-draw_grid : goal.decreases-draw_grid
decreases-draw_grid l = 3 * l.level
