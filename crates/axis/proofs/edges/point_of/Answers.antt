-- The point of the spot.
use mathlib.Core.Path.{ap}
use Rattle.axis.specs.declared.Spot.{Spot}
use Rattle.axis.specs.Calls.{spot_of}
use Rattle.axis.proofs.edges.point_of.Goals as goal

pub returns : goal.returns
unfolding spot_of
returns c = ap (λ (s : Spot). s.point) c.spot_of-spot.ensures
