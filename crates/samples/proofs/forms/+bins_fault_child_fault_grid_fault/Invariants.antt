-- Each test is the model's on what is left of path and weights from `depth` on; a bins grid goes one level down.
use Prim.Native.Nat.{◌+◌, ◌*◌}
use Rattle.samples.proofs.forms.+bins_fault_child_fault_grid_fault.Given as goal

abbrev pub decreases-bins_fault : goal.decreases-bins_fault
decreases-bins_fault l = 3 * l.level + 2

abbrev pub decreases-child_fault : goal.decreases-child_fault
decreases-child_fault l = 3 * l.level + 1

abbrev pub decreases-grid_fault : goal.decreases-grid_fault
decreases-grid_fault l = 3 * l.level
