-- The definition adds each pair.
use Rattle.std.proofs.Common.{rules}
use Rattle.recut.specs.Gather.{gathered_of}
use Rattle.recut.proofs.gather.Goals as goal

pub returns : goal.returns
unfolding gathered_of
returns c = search rules
