-- The definition joins each pair of counts.
use Rattle.std.proofs.Common.{rules}
use Rattle.recut.specs.Gather.{joined_counts}
use Rattle.recut.proofs.gather_counts.Goals as goal

pub returns : goal.returns
unfolding joined_counts
returns c = search rules
