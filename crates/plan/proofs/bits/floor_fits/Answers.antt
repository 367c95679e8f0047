-- A NaN is in no range; any other double is compared as it stands, and the range's two comparisons are the definition's.
use mathlib.Core.Path.{sym, ap₂, ◌∙◌}
use mathlib.Core.Bool.{◌&&◌}
use lib.Ieee.{binary64}
use lib.Ieee.Bits.{nan_bits_is}
use Rattle.doubles.proofs.Ranges.{partial-le}
use Rattle.plan.specs.Ranges.{floor_fits}
use Rattle.plan.proofs.Ranges.{nan-floor}
use Rattle.plan.proofs.bits.floor_fits.Goals as goal

pub returns-then-is_nan : goal.returns-then-is_nan
returns-then-is_nan c = nan-floor _ (sym (nan_bits_is binary64 c.args.bits) ∙ sym c.is_nan.ensures ∙ c.if-is_nan.true)

pub returns : goal.returns
unfolding floor_fits
returns c = rw (c.contains.ensures.value, c.new.ensures.start, c.new.ensures.end, c.new.ensures.exhausted) (ap₂ ◌&&◌ (partial-le _ _) (partial-le _ _))
