-- `(lo..=hi).contains(&x)` of floats asks what two comparisons ask: a partial order's at most is that of floats. Assumes nothing.
use mathlib.Core.Path.{◌≡◌, refl}
use mathlib.Core.Bool.{Bool, true, false, ◌||◌, cond}
use Rattle.std.specs.Prelude.{Some, None}
use Rattle.std.proofs.Common.{Less, Equal, Greater}
use Rattle.std.specs.Ordering.{is_some_and, is_le, float_partial_cmp, partial_le}
use lib.Ieee.{Float, le, lt, eq}

ordered : (a b c : Bool) → is_some_and is_le (cond a (Some Less) (cond b (Some Equal) (cond c (Some Greater) None))) ≡ (a || b)
ordered true b c = refl
ordered false true c = refl
ordered false false true = refl
ordered false false false = refl

pub partial-le : (x y : Float) → partial_le float_partial_cmp x y ≡ le x y
unfolding le
partial-le x y = ordered (lt x y) (eq x y) (lt y x)
