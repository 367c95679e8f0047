-- The reciprocal, the Rust's `inv`. Definitions only.
use Rattle.std.specs.Prelude.{Float}
use Rattle.std.specs.Float.{binary64}
use Rattle.std.specs.Float.Ieee.{div}
use Rattle.doubles.specs.Numbers.{one64}

-- 1 / x, rounded once
unfoldable pub inv_of : Float → Float
inv_of x = div binary64 one64 x
