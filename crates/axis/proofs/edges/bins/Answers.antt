-- The definition's subtraction stops at 0, as this one does.
use Rattle.axis.specs.Edges.{bins_of}
use Rattle.std.proofs.Common.{rules}
use Rattle.axis.proofs.edges.bins.Goals as goal

pub returns : goal.returns
unfolding bins_of
returns c = search rules
