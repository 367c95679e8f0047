-- `above_zero`: what is above 0 is finite exactly where, less itself, it is at most 0. Assumes nothing.
use mathlib.Core.Path.{◌≡◌, refl, ◌∙◌}
use mathlib.Core.Bool.{Bool, true, false, cond}
use lib.Ieee.{Float, nan, binary64, of_bits, lt, le, sub}
use lib.Ieee.Positive.{positive}
use Rattle.doubles.specs.Numbers.{zero64}
use Rattle.doubles.specs.Finite.{finite_of}
use Rattle.doubles.proofs.Finites.{less-itself}
use Rattle.doubles.proofs.Above.{above-finite, not-above}
use Rattle.doubles.proofs.above_zero.Goals as goal

nothing : (b : Bool) → le (cond b zero64 nan) zero64 ≡ b
unfolding le of_bits
nothing true = refl
nothing false = refl

decides : (x : Float) → lt zero64 x ≡ true → le (sub binary64 x x) zero64 ≡ positive x
decides x h = rw (less-itself x) (nothing (finite_of x) ∙ above-finite x h)

pub returns-then-x : goal.returns-then-x
returns-then-x c = decides c.args.x c.if-x.true

pub returns : goal.returns
returns c = not-above c.args.x c.if-x.false
