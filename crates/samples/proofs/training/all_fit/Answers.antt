-- The two tests, as in the definition.
use mathlib.Core.Path.{refl}
use Rattle.samples.specs.Tried.{all_fit}
use Rattle.samples.proofs.training.all_fit.Goals as goal

pub returns : goal.returns
unfolding all_fit
returns c = refl
