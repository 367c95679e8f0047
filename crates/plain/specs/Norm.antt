-- The absolute value, the Rust's `norm`. Definitions only.
use Rattle.std.specs.Prelude.{false, Float}
use Rattle.std.specs.Float.{nan, inf, fin}

-- x without its sign
unfoldable pub norm_of : Float → Float
norm_of nan = nan
norm_of (inf s) = inf false
norm_of (fin s m e) = fin false m e
