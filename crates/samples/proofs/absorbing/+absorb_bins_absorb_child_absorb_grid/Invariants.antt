-- Both records are put before what hangs below takes the sample: it lies past them, so what was handed over for it holds there still, and all is the definition's step.
use Prim.Native.Nat.{◌+◌, ◌*◌}
use Rattle.samples.proofs.absorbing.+absorb_bins_absorb_child_absorb_grid.Given as goal

abbrev pub decreases-absorb_bins : goal.decreases-absorb_bins
decreases-absorb_bins l = 3 * l.level + 2

abbrev pub decreases-absorb_child : goal.decreases-absorb_child
decreases-absorb_child l = 3 * l.level + 1

abbrev pub decreases-absorb_grid : goal.decreases-absorb_grid
decreases-absorb_grid l = 3 * l.level
