-- The whole part of a double. Definitions only.
use Rattle.std.specs.Prelude.{ℕ, Float}
use Rattle.std.specs.Float.Ieee.{to_unsigned}

-- x without its fraction, as the Rust's `x as u64`: 0 for a NaN and for what is below 0, and 2 ^ 64 - 1 from 2 ^ 64 on
unfoldable pub whole_of : Float → ℕ
whole_of x = to_unsigned 64 x
