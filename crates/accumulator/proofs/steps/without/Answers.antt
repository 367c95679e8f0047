-- The fields one by one.
use mathlib.Core.Path.{refl}
use Rattle.accumulator.specs.Update.{without_of}
use Rattle.accumulator.proofs.steps.without.Goals as goal

pub returns : goal.returns
unfolding without_of
returns c = refl
