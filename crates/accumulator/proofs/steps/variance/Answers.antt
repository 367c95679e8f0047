-- The expression is the definition.
use mathlib.Core.Path.{refl}
use Rattle.accumulator.proofs.steps.variance.Goals as goal

pub returns : goal.returns
returns c = refl
