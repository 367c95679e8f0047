-- The levels left fall; the answer for all children is the answer for those that are left.
use Prim.Native.Nat.{◌+◌, ◌-◌}
use Rattle.plan.specs.Reading.{tree_of, from_bytes}
use Rattle.plan.specs.Bounds.{Inside}
use Rattle.plan.proofs.Steps.{Walked}
use Rattle.plan.proofs.measuring.+measure_measure_all.Given as goal

abbrev pub decreases-measure : goal.decreases-measure
decreases-measure l = l.level + l.level

abbrev pub decreases-measure_all : goal.decreases-measure_all
decreases-measure_all l = l.level + l.level + 1

abbrev pub invariant-measure_all-loop-i : goal.invariant-measure_all-loop-i
invariant-measure_all-loop-i l = Walked (λ s q. tree_of (from_bytes l.bytes) l.level q) (l.initial.here.tally.words - l.n) l.n l.initial.here l.here l._i × Inside l.bytes l.here
