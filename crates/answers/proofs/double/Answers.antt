-- A NaN's bits are told apart first, since all NaN are one value.
use mathlib.Core.Path.{◌≡◌, refl, sym, ◌∙◌}
use mathlib.Core.Bool.{true}
use lib.Ieee.{Float, nan, inf, fin, is_nan, binary64, of_bits, div}
use lib.Ieee.Bits.{nan_bits_is}
use Rattle.answers.proofs.double.Goals as goal

-- there is one NaN
one-nan : (x : Float) → is_nan x ≡ true → nan ≡ x
unfolding is_nan
one-nan nan e = refl
one-nan (inf s) e = cc
one-nan (fin s m x) e = cc

pub returns-then-is_nan : goal.returns-then-is_nan
unfolding div of_bits
returns-then-is_nan c = one-nan _ (sym (nan_bits_is binary64 c.args.bits) ∙ sym c.is_nan.ensures ∙ c.if-is_nan.true)

pub float_from_bits-result : goal.float_from_bits-result
float_from_bits-result c = rw (sym c.is_nan.ensures ∙ c.if-is_nan.false) tt
