-- Each field takes at most 30 bytes, and there are at most eight.
use Rattle.std.proofs.Common.{◌*◌, ◌≤◌}
use Rattle.replay_plan.proofs.cases.row.Given as goal

abbrev pub invariant-loop-done : goal.invariant-loop-done
invariant-loop-done l = l.at ≤ 31 * l._done
