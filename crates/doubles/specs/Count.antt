-- A count as a double. Definitions only.
use Rattle.std.specs.Prelude.{ℕ, pos, Float}
use Rattle.std.specs.Float.{binary64}
use Rattle.std.specs.Float.Ieee.{of_int}

-- the double nearest n, n itself up to 2 ^ 53
unfoldable pub count_of : ℕ → Float
count_of n = of_int binary64 (pos n)
