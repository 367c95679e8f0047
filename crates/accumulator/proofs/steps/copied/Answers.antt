-- Only the two sample numbers of the extremes become 0, as in `copied_of`.
use mathlib.Core.Path.{refl}
use Rattle.accumulator.specs.Record.{with_extremes}
use Rattle.accumulator.specs.Steps.{copied_of}
use Rattle.accumulator.proofs.steps.copied.Goals as goal

pub returns : goal.returns
unfolding copied_of with_extremes
returns c = refl
