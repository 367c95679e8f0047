-- The levels left fall; the answer for all children is the answer for those that are left.
use Prim.Native.Nat.{◌+◌, ◌*◌, ◌≤◌}
use Rattle.plan.specs.Reading.{tree_of}
use Rattle.plan.specs.Walk.{child_of, from_table}
use Rattle.plan.specs.Bounds.{Roomy}
use Rattle.plan.proofs.Steps.{Walked}
use Rattle.plan.proofs.walking.+known_known_all_linked.Given as goal

abbrev pub decreases-known : goal.decreases-known
decreases-known l = 3 * l.level

abbrev pub decreases-known_all : goal.decreases-known_all
decreases-known_all l = 3 * l.level + 2

abbrev pub decreases-linked : goal.decreases-linked
decreases-linked l = 3 * l.level + 1

abbrev pub invariant-known_all-loop-i : goal.invariant-known_all-loop-i
invariant-known_all-loop-i l = Walked (λ s q. child_of l.table (tree_of (from_table l.table) l.level) s q) l.slot l.n l.initial.here l.here l.i × (Roomy l.here.tally × (l.slot + l.n ≤ 16832))
