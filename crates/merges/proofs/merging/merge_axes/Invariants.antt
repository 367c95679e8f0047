-- `merging::merge_axes` meets its contract: what is left to merge on the memory now is all of it on the memory at entry.
use mathlib.Core.Path.{◌≡◌}
use Prim.Native.Nat.{◌≤◌}
use lib.ListN.{length}
use Rattle.lent.specs.Memory.{memory}
use Rattle.lent.specs.Merged.{merged_memory, Spaced}
use Rattle.merges.proofs.merging.merge_axes.Given as goal

abbrev pub invariant-loop-left : goal.invariant-loop-left
invariant-loop-left l = Spaced l.left (length l.initial.reals) (length l.initial.counts) × Spaced l.right (length l.theirs) (length l.tallies) × (l.left.axes ≤ l.right.axes) × (length l.reals ≡ length l.initial.reals) × (length l.counts ≡ length l.initial.counts) × (merged_memory l.left l.right (memory l.theirs l.tallies) (memory l.reals l.counts) ≡ merged_memory l.initial.left l.initial.right (memory l.theirs l.tallies) (memory l.initial.reals l.initial.counts))

abbrev pub decreases-loop-left : goal.decreases-loop-left
decreases-loop-left l = l.left.axes
