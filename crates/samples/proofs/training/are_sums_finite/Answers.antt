-- A number less itself is 0 where it is finite, else NaN, which no sum loses.
use mathlib.Core.Path.{◌≡◌, refl}
use mathlib.Core.Bool.{Bool, true, false, ◌&&◌, cond}
use lib.Ieee.{Float, nan, binary64, of_bits, add, sub, eq}
use Rattle.doubles.specs.Numbers.{zero64}
use Rattle.doubles.specs.Finite.{finite_of}
use Rattle.doubles.proofs.Finites.{less-itself}
use Rattle.samples.proofs.training.are_sums_finite.Goals as goal

both_zero : (p q : Bool) → eq (add binary64 (cond p zero64 nan) (cond q zero64 nan)) zero64 ≡ (p && q)
unfolding eq add of_bits
both_zero false q = refl
both_zero true false = refl
both_zero true true = refl

both-finite : (a b : Float) → eq (add binary64 (sub binary64 a a) (sub binary64 b b)) zero64 ≡ (finite_of a && finite_of b)
both-finite a b = rw (less-itself a, less-itself b) (both_zero (finite_of a) (finite_of b))

pub returns : goal.returns
returns c = both-finite c.args.sum c.args.squares
