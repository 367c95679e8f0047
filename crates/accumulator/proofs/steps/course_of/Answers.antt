-- The five fields, as the definition takes them.
use mathlib.Core.Path.{refl}
use Rattle.accumulator.specs.Update.{course_of}
use Rattle.accumulator.proofs.steps.course_of.Goals as goal

pub returns : goal.returns
unfolding course_of
returns c = refl
