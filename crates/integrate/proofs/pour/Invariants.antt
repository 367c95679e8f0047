-- `pour`: each turn that goes on takes a byte at least, so that the bytes left fall.
use Prim.Native.Nat.{◌-◌, ◌≤◌}
use lib.ListN.{length}
use Rattle.lent.specs.Memory.{memory}
use Rattle.integrate.specs.Pouring.{Place, place, Turns}
use Rattle.integrate.proofs.pour.Given as goal

abbrev pub invariant-loop-spare_reals : goal.invariant-loop-spare_reals
invariant-loop-spare_reals l = (l.taken ≤ length l.bytes) ×
    ((q : Place) → Turns l.bytes l.last 2816 1344 (place l.now l.taken l.table (memory l.reals l.counts)) q → Turns l.bytes l.last 2816 1344 (place l.initial.now l.initial.taken l.initial.table (memory l.initial.reals l.initial.counts)) q)

abbrev pub decreases-loop-spare_reals : goal.decreases-loop-spare_reals
decreases-loop-spare_reals l = length l.bytes - l.taken
