-- Worked examples as one computed table, by bit patterns. Assumes nothing.
use mathlib.Core.Path.{◌≡◌, refl}
use mathlib.Core.List.{List, [], ◌∷◌}
use mathlib.Core.Bool.{Bool, true, ◌&&◌}
use Prim.Native.Nat.{ℕ}
use lib.Dec.{eqb}
use lib.Count.{count_trailing_zeros}
use lib.Ieee.{Float, binary64, of_bits, to_bits, odd, size, span, climb, units, round, sum, add, sub, mul, div, neg, lt, le, eq, of_int, of_fields, to_unsigned}
use Rattle.plain.specs.Norm.{norm_of}
use Rattle.doubles.specs.Whole.{whole_of}
use Rattle.doubles.specs.Count.{count_of}
use Rattle.real.specs.Ln.{ln_of, units_of, exponent_of, mantissa_of, tail_of, log_of, turned_of}
use Rattle.real.specs.Power.{power_of, k_of, scaled_of, in_domain, exp_of, floor_of, ceil_of}

data Row : Type 0 where
  norm whole count log : ℕ → ℕ → Row
  power : ℕ → ℕ → ℕ → Row

unfoldable same : Float → ℕ → Bool
same x b = eqb (to_bits binary64 x) b

unfoldable holds : Row → Bool
unfolding same
holds (norm x r) = same (norm_of (of_bits binary64 x)) r
holds (whole x r) = eqb (whole_of (of_bits binary64 x)) r
holds (count n r) = same (count_of n) r
holds (log x r) = same (ln_of (of_bits binary64 x)) r
holds (power y a r) = same (power_of (of_bits binary64 y) (of_bits binary64 a)) r

unfoldable all : List Row → Bool
unfolding holds
all [] = true
all (r ∷ rs) = holds r && all rs

unfoldable table : List Row
table =
    norm 0x8000000000000000 0x0
    ∷ whole 0x4002666666666666 2
    ∷ whole 0x43f0000000000000 0xffffffffffffffff
    ∷ count 0xffffffffffffffff 0x43f0000000000000
    ∷ count 9007199254740993 0x4340000000000000
    ∷ log 0x4000000000000000 0x3fe62e42fefa39ef
    ∷ log 0x3ff0000000000000 0x0
    ∷ log 0x1 0xc0874385446d71c3
    ∷ log 0x3fb999999999999a 0xc0026bb1bbb55515
    ∷ log 0x0 0x7ff8000000000000
    ∷ power 0x3fe0000000000000 0x3ff8000000000000 0x3fd6a09e667f3bcd
    ∷ power 0x4000000000000000 0x4024000000000000 0x4090000000000000
    ∷ power 0x3f50000000000000 0x4024000000000000 0x39b0000000000000
    ∷ power 0x3feccccccccccccd 0x3fd3333333333333 0x3fef011d8cfc7493
    ∷ power 0x3fe0000000000000 0x8000000000000000 0x3ff0000000000000
    ∷ []

examples : all table ≡ true
unfolding holds all table count_trailing_zeros of_bits to_bits odd size span climb units round sum add sub mul div neg lt le eq of_int of_fields to_unsigned norm_of whole_of count_of ln_of units_of exponent_of mantissa_of tail_of log_of turned_of power_of k_of scaled_of in_domain exp_of floor_of ceil_of
examples = refl
