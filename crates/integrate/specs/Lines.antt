-- The lines that the program prints, as bytes.
use Rattle.std.specs.Prelude.{ℕ, zero, suc, ◌+◌, ◌^◌, cond, List, [], ◌∷◌, ◌++◌, ltb, Float, Option, Some, None, Result, Ok, Err}
use Rattle.doubles.specs.Refusal.{number_of}
use Rattle.std.specs.Float.{binary64}
use Rattle.std.specs.Float.Ieee.{to_bits}
use Rattle.io.specs.Digits.{last_digits}
use Rattle.accumulator.specs.declared.Summary.{Summary}
use Rattle.feed.specs.declared.Refused.{Refused}

-- how many digits from k on hold n in decimal, k and f more at most
unfoldable pub places_of : ℕ → ℕ → ℕ → ℕ
places_of zero k n = k
places_of (suc f) k n = cond (ltb n (10 ^ k)) k (places_of f (k + 1) n)

-- a number in decimal: as many digits as hold it, 1 to 20
unfoldable pub decimal_of : ℕ → List ℕ
decimal_of n = last_digits 10 (places_of 19 1 n) n

-- a blank and a double's bits, as 16 hex digits; any NaN is 7ff8000000000000
unfoldable pub double_of : Float → List ℕ
double_of x = 32 ∷ last_digits 16 16 (to_bits binary64 x)

-- "iterations samples average error chi-squared" and a line end
unfoldable pub line_of : Summary → List ℕ
line_of s =
    decimal_of s.iterations ++ (32 ∷ []) ++ decimal_of s.samples ++ double_of s.average ++ double_of s.error ++ double_of s.chi_squared ++ (10 ∷ [])

-- "refused "
abbrev pub refused : List ℕ
refused = 114 ∷ 101 ∷ 102 ∷ 117 ∷ 115 ∷ 101 ∷ 100 ∷ 32 ∷ []

-- " at "
abbrev pub at : List ℕ
at = 32 ∷ 97 ∷ 116 ∷ 32 ∷ []

-- "refused N at B" and a line end
unfoldable pub refusal_of : ℕ → ℕ → List ℕ
refusal_of number offset = refused ++ decimal_of number ++ at ++ decimal_of offset ++ (10 ∷ [])

-- what a turn tells, as it is printed
unfoldable pub text_of : Result (Option Summary) Refused → List ℕ
text_of (Ok None) = []
text_of (Ok (Some s)) = line_of s
text_of (Err r) = refusal_of (number_of r.why) r.offset
