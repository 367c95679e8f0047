-- What is kept of the bins that were tried, and when all of them fit.
use Rattle.std.specs.Prelude.{◌≡◌, ◌^◌, Bool, ◌&&◌, cond, leb}
use Rattle.std.specs.Float.{nan}
use Rattle.std.specs.Float.Ieee.{eq}
use Rattle.doubles.specs.Numbers.{zero64}
use Rattle.samples.specs.declared.training.Tried.{Tried}

-- no sum is infinite or NaN, and no count is past its bound
unfoldable pub all_fit : Tried → Bool
all_fit t = eq t.rest zero64 && leb t.top (2 ^ 53)

-- what is left of the sums is 0 or NaN
abbrev pub Rests : Tried → Type 0
Rests t = t.rest ≡ cond (eq t.rest zero64) zero64 nan
