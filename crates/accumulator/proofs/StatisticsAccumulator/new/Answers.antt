-- Every field is the zero that `fresh` has there.
use mathlib.Core.Path.{refl}
use Rattle.accumulator.specs.Record.{fresh}
use Rattle.accumulator.proofs.StatisticsAccumulator.new.Goals as goal

pub returns : goal.returns
unfolding fresh
returns c = refl
