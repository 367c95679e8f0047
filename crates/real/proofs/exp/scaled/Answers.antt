-- `scaled` is the product of its two parts. Assumes nothing.
use mathlib.Core.Path.{ap₂}
use lib.Ieee.{Float, binary64, mul}
use Rattle.real.proofs.exp.scaled.Goals as goal

pub returns : goal.returns
returns c = ap₂ (λ (x y : Float). mul binary64 x y) c.series.ensures c.two_to.ensures
