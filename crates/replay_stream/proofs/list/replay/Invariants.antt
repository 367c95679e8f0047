-- Every record takes bytes of the list, so that the loop ends.
use Rattle.std.proofs.Common.{◌-◌, length}
use Rattle.replay_stream.proofs.list.replay.Given as goal

abbrev pub decreases-loop-at : goal.decreases-loop-at
decreases-loop-at l = length l.list - l.at
