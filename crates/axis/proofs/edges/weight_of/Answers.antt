-- The number of bins as a double, times the width: what the three calls give is what the definition multiplies.
use Rattle.axis.specs.Edges.{weight_of}
use Rattle.axis.proofs.edges.weight_of.Goals as goal

pub returns : goal.returns
unfolding weight_of
returns c = rw (c.width.ensures, c.count.ensures, c.bins.ensures)
