-- The range's two comparisons are those of `rate_fits`.
use mathlib.Core.Path.{◌≡◌, refl, ap₂}
use mathlib.Core.Bool.{Bool, true, false, ◌&&◌, ◌||◌, cond}
use Rattle.std.specs.Prelude.{Some, None}
use Rattle.std.proofs.Common.{Less, Equal, Greater}
use Rattle.std.specs.Ordering.{is_some_and, is_le}
use lib.Ieee.{Float, le, lt, eq}
use Rattle.std.specs.Ordering.{float_partial_cmp, partial_le}
use Rattle.model.specs.Update.{rate_fits}
use Rattle.updates.proofs.updating.is_rate.Goals as goal

ordered : (a b c : Bool) → is_some_and is_le (cond a (Some Less) (cond b (Some Equal) (cond c (Some Greater) None))) ≡ (a || b)
ordered true b c = refl
ordered false true c = refl
ordered false false true = refl
ordered false false false = refl

within : (x y : Float) → partial_le float_partial_cmp x y ≡ le x y
unfolding le
within x y = ordered (lt x y) (eq x y) (lt y x)

pub returns : goal.returns
unfolding rate_fits
returns c = rw (c.contains.ensures.value, c.new.ensures.start, c.new.ensures.end, c.new.ensures.exhausted) (ap₂ ◌&&◌ (within _ _) (within _ _))
