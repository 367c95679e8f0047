-- The four fields that become 0 are the waiting ones that `cleared_of` sets; the others stay.
use mathlib.Core.Path.{refl}
use Rattle.accumulator.specs.Record.{with_waiting}
use Rattle.accumulator.specs.Steps.{cleared_of}
use Rattle.accumulator.proofs.steps.cleared.Goals as goal

pub returns : goal.returns
unfolding cleared_of with_waiting
returns c = refl
