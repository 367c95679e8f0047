-- Each case counts one, and at most one that agrees.
use Rattle.std.proofs.Common.{◌≡◌, ◌+◌, ◌%◌, ◌^◌, ◌≤◌}
use Rattle.replay_plan.proofs.cases.run.Given as goal

abbrev pub invariant-loop-case : goal.invariant-loop-case
invariant-loop-case l = (l.replayed.agreed ≤ l.fn.before.agreed + l.case) × (l.replayed.all ≡ (l.fn.before.all + l.case) % 2 ^ 64)
