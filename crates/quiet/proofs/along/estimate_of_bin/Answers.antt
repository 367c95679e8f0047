-- The two sums are the places from which `bin_in` reads the bin's record, so the record loaded is the definition's.
use mathlib.Core.Path.{ap, ◌∙◌}
use Rattle.accumulator.specs.Calls.{live_estimate_of}
use Rattle.lent.specs.Tree.{bin_in}
use Rattle.quiet.proofs.along.estimate_of_bin.Goals as goal

pub returns : goal.returns
unfolding bin_in
returns c = c.get_live_estimate.ensures ∙ ap live_estimate_of c.load.ensures
