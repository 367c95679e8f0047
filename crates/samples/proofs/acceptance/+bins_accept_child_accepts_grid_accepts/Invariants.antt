-- Of a well-formed grid only what the sample touches may fail: along the path an accumulator, the bin's, and what hangs there.
use Prim.Native.Nat.{◌+◌, ◌*◌}
use Rattle.samples.proofs.acceptance.+bins_accept_child_accepts_grid_accepts.Given as goal

abbrev pub decreases-bins_accept : goal.decreases-bins_accept
decreases-bins_accept l = 3 * l.level + 2

abbrev pub decreases-child_accepts : goal.decreases-child_accepts
decreases-child_accepts l = 3 * l.level + 1

abbrev pub decreases-grid_accepts : goal.decreases-grid_accepts
decreases-grid_accepts l = 3 * l.level
