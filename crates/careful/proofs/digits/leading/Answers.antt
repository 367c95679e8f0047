-- `leading` reads the digits of what compared with 2, which is no NaN. Assumes nothing.
use mathlib.Core.Path.{◌≡◌, sym, subst}
use mathlib.Core.Bool.{Bool, true, not}
use lib.Dec.{T}
use lib.Ieee.{Float, is_nan, le}
use Rattle.doubles.proofs.Order.{le_left}
use Rattle.careful.proofs.digits.leading.Goals as goal

number : (x y : Float) → le x y ≡ true → T (not (is_nan x))
number x y h = subst (λ (b : Bool). T (not b)) (sym (le_left x y h)) tt

pub float_to_bits-bits : goal.float_to_bits-bits
float_to_bits-bits c = number c.args.g _ c.if-g.true
