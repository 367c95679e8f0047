-- Comparing with zero decides between 1 and 0, the definition's two cases.
use mathlib.Core.Path.{◌≡◌, refl, ◌∙◌}
use mathlib.Core.Bool.{Bool, true, false, cond}
use Rattle.std.specs.Int.{from_bool}
use Rattle.accumulator.specs.Steps.{zero_count}
use Rattle.accumulator.proofs.steps.zero_count.Goals as goal

counted : (b : Bool) → from_bool b ≡ cond b 1 0
counted true = refl
counted false = refl

pub returns : goal.returns
unfolding zero_count
returns c = c.from.ensures ∙ counted _
