-- The expression is `replaced` itself: number 0, or beaten.
use mathlib.Core.Path.{refl}
use Rattle.accumulator.specs.Steps.{replaced}
use Rattle.accumulator.proofs.steps.is_replaced.Goals as goal

pub returns : goal.returns
unfolding replaced
returns c = refl
