-- Scaled draw, bin, point and weight are the definition's formulas, with what each call gives put in.
use Rattle.axis.specs.Edges.{weight_of}
use Rattle.axis.specs.Calls.{point_of, drawn_bin, spot_of}
use Rattle.axis.proofs.edges.spot_of.Goals as goal

pub returns : goal.returns
unfolding spot_of point_of drawn_bin weight_of
returns c = rw (c.count.ensures, c.edge.ensures, c.width-step.ensures, c.whole-whole.ensures, c.count-n.ensures, c.bins.ensures)
