-- The binary digits of a double that is finite and above 0. Definitions only.
use Rattle.std.specs.Prelude.{ℕ, ◌+◌, ◌-◌, ◌*◌, ◌/◌, ◌%◌, ◌^◌, ◌≤◌, ◌<◌, false, cond, eqb, ltb, Float}
use Rattle.std.specs.Int.Count.{count_leading_zeros}
use Rattle.std.specs.Float.Ieee.Exact.{HasValue}
use Rattle.doubles.specs.declared.Parts.{Parts}

-- x = m * 2 ^ k / 2 ^ 1126, where m has 53 binary digits
pub record Split (x : Float) (m k : ℕ) : Type 0 where
  pub value : HasValue x false (m * 2 ^ k) (2 ^ 1126)
  pub long : 2 ^ 52 ≤ m
  pub short : m < 2 ^ 53
  pub small : k < 2098

abbrev pub parts : ℕ → ℕ → Parts
parts m k = record { digits = m; shift = k }

-- a subnormal's digits, moved up by the zeros that lead; 0 has none
unfoldable pub lifted_of : ℕ → Parts
lifted_of bits = let up = count_leading_zeros 64 bits - 11 in cond (eqb bits 0) (parts 0 0) (parts (bits * 2 ^ up % 2 ^ 64) (52 - up))

-- a normal double's digits stand in its bits below the hidden one
unfoldable pub split_of : ℕ → Parts
split_of bits = cond (ltb bits (2 ^ 52)) (lifted_of bits) (parts (bits % 2 ^ 52 + 2 ^ 52) (bits / 2 ^ 52 + 51))
