-- `in_domain` is its definition. Assumes nothing.
use mathlib.Core.Path.{refl}
use Rattle.real.specs.Power.{in_domain}
use Rattle.real.proofs.exp.in_domain.Goals as goal

pub returns : goal.returns
unfolding in_domain
returns c = refl
