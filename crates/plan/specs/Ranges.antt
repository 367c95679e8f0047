-- The ranges of a plan's numbers.
use Rattle.std.specs.Prelude.{ℕ, Bool, true, ◌&&◌, cond, List, [], ◌∷◌, leb, ltb, Option, None, Some}
use Rattle.std.specs.Float.{binary64}
use Rattle.std.specs.Float.Ieee.{le, lt, of_bits}

unfoldable pub within : ℕ → ℕ → ℕ → Bool
within lo hi n = leb lo n && leb n hi

-- a floor, as bits, lies in [0,1]; minus zero counts as zero
unfoldable pub floor_fits : ℕ → Bool
floor_fits bits = le (of_bits binary64 0) (of_bits binary64 bits) && le (of_bits binary64 bits) (of_bits binary64 0x3ff0_0000_0000_0000)

-- a ratio, as bits, is finite and at least 1
unfoldable pub ratio_fits : ℕ → Bool
ratio_fits bits = le (of_bits binary64 0x3ff0_0000_0000_0000) (of_bits binary64 bits) && lt (of_bits binary64 bits) (of_bits binary64 0x7ff0_0000_0000_0000)

-- every value of a bin evolution is 1 to 1,024
unfoldable pub bounded : List ℕ → Bool
bounded [] = true
bounded (v ∷ vs) = within 1 1024 v && bounded vs

unfoldable pub larger : ℕ → ℕ → ℕ
larger m v = cond (ltb m v) v m

-- the largest of a number and a list
unfoldable pub most_of : ℕ → List ℕ → ℕ
most_of m [] = m
most_of m (v ∷ vs) = most_of (larger m v) vs

-- the same where every value is within its bounds
abbrev pub most_if_bounded : ℕ → List ℕ → Option ℕ
most_if_bounded m vs = cond (bounded vs) (Some (most_of m vs)) None

-- the same, and 0 where a value is out of bounds
unfoldable pub scanned : ℕ → List ℕ → ℕ
scanned m vs = cond (bounded vs) (most_of m vs) 0
