-- Evenly, the search by halves finds the rule's bin on well-formed edges; else the spot is the definition's for any guess.
use mathlib.Core.Path.{ap}
use Rattle.axis.specs.declared.Spot.{Spot}
use Rattle.axis.specs.Calls.{spot_of}
use Rattle.axis.proofs.Searches.{search_is}
use Rattle.model.specs.Draw.{place_on}
use Rattle.samples.proofs.axes.place_on.Goals as goal

pub returns-then-evenly : goal.returns-then-evenly
unfolding place_on
returns-then-evenly c = rw (c.if-evenly.true, c.weight_of.ensures, c.bin_of-bin.ensures, search_is c.args.edges.now c.args.unit c.requires.0 c.requires.1)

pub returns : goal.returns
unfolding place_on spot_of
returns c = rw (c.if-evenly.false, ap (λ (s : Spot). s.point) c.spot_near.ensures)
