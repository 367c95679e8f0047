-- Every record takes words of the list, so that the loop ends and no sum wraps.
use Rattle.std.proofs.Common.{◌-◌}
use Rattle.replay_accumulator.proofs.calls.replay.Given as goal

abbrev pub decreases-loop-at : goal.decreases-loop-at
decreases-loop-at l = l.end - l.at
