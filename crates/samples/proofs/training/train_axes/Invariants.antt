-- Each given bin is a cell of its axis, and its training keeps to that axis: what is asked of the others is asked still.
use mathlib.Core.Path.{◌≡◌}
use Prim.Native.Nat.{◌-◌, ◌≤◌}
use lib.ListN.{length}
use Rattle.lent.specs.Memory.{memory, over_axes, Asked}
use Rattle.lent.specs.Sampled.{entries}
use Rattle.lent.specs.Trained.{trained_at, Cell}
use Rattle.samples.proofs.training.train_axes.Given as goal

abbrev pub invariant-loop-done : goal.invariant-loop-done
invariant-loop-done l = (l.done ≤ l.g.axes) × (length l.reals ≡ length l.initial.reals) × (length l.counts ≡ length l.initial.counts)
    × Asked (Cell l.g.most) l.g.most (entries 0 l.spots l.done (l.g.axes - l.done)) l.at l.place (memory l.reals l.counts)
    × (over_axes (trained_at l.g.most l.v) l.g.most (entries 0 l.spots l.done (l.g.axes - l.done)) l.at l.place (memory l.reals l.counts)
    ≡ over_axes (trained_at l.g.most l.v) l.g.most (entries 0 l.spots 0 l.g.axes) l.g.reals l.g.counts (memory l.initial.reals l.initial.counts))
