-- 01's example of a line, a NaN's digits, a refusal, and the largest number, computed from the definitions.
use mathlib.Core.Path.{◌≡◌, refl}
use mathlib.Core.Bool.{false}
use mathlib.Core.List.{[], ◌∷◌}
use lib.Ieee.{binary64, of_bits, to_bits, nan}
use Rattle.integrate.specs.Lines.{places_of, decimal_of, double_of, line_of, refusal_of}

-- "1 2 0000000000000000 3ff0000000000000 0000000000000000"
line-example : line_of (record { iterations = 1; samples = 2; average = of_bits binary64 0; error = of_bits binary64 0x3ff0000000000000; chi_squared = of_bits binary64 0; flat = false })
    ≡ 49 ∷ 32 ∷ 50 ∷ 32 ∷ 48 ∷ 48 ∷ 48 ∷ 48 ∷ 48 ∷ 48 ∷ 48 ∷ 48 ∷ 48 ∷ 48 ∷ 48 ∷ 48 ∷ 48 ∷ 48 ∷ 48 ∷ 48 ∷ 32 ∷ 51 ∷ 102 ∷ 102 ∷ 48 ∷ 48 ∷ 48 ∷ 48 ∷ 48 ∷ 48 ∷ 48 ∷ 48 ∷ 48 ∷ 48 ∷ 48 ∷ 48 ∷ 48 ∷ 32 ∷ 48 ∷ 48 ∷ 48 ∷ 48 ∷ 48 ∷ 48 ∷ 48 ∷ 48 ∷ 48 ∷ 48 ∷ 48 ∷ 48 ∷ 48 ∷ 48 ∷ 48 ∷ 48 ∷ 10 ∷ []
unfolding line_of decimal_of places_of double_of of_bits to_bits
line-example = refl

-- " 7ff8000000000000"
nan-example : double_of nan ≡ 32 ∷ 55 ∷ 102 ∷ 102 ∷ 56 ∷ 48 ∷ 48 ∷ 48 ∷ 48 ∷ 48 ∷ 48 ∷ 48 ∷ 48 ∷ 48 ∷ 48 ∷ 48 ∷ 48 ∷ []
unfolding double_of to_bits
nan-example = refl

-- "refused 10 at 0"
refusal-example : refusal_of 10 0 ≡ 114 ∷ 101 ∷ 102 ∷ 117 ∷ 115 ∷ 101 ∷ 100 ∷ 32 ∷ 49 ∷ 48 ∷ 32 ∷ 97 ∷ 116 ∷ 32 ∷ 48 ∷ 10 ∷ []
unfolding refusal_of decimal_of places_of
refusal-example = refl

-- "18446744073709551615"
decimal-example : decimal_of 0xffffffffffffffff ≡ 49 ∷ 56 ∷ 52 ∷ 52 ∷ 54 ∷ 55 ∷ 52 ∷ 52 ∷ 48 ∷ 55 ∷ 51 ∷ 55 ∷ 48 ∷ 57 ∷ 53 ∷ 53 ∷ 49 ∷ 54 ∷ 49 ∷ 53 ∷ []
unfolding decimal_of places_of
decimal-example = refl
