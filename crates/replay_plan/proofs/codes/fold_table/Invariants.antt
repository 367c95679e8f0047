-- The sum stays below its modulus.
use Rattle.std.proofs.Common.{◌<◌}
use Rattle.replay_plan.proofs.codes.fold_table.Given as goal

abbrev pub invariant-loop-x : goal.invariant-loop-x
invariant-loop-x l = (goal.iterator-loop-x).can_next l.x-iterator × (goal.iterator-loop-x).is_finite l.x-iterator × (l.sum < 4294967291)
