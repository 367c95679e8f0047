-- The order of values that are not negative is that of any fractions that they equal. Assumes nothing.
use mathlib.Core.Path.{◌≡◌, refl, sym, ap, ◌∙◌}
use mathlib.Core.Logic.{inl, inr}
use Prim.Native.Nat.{ℕ, ◌*◌, ◌≤◌, ◌<◌}
use native.Mathlib.Nat.{lt_of_not-le, not-le_of_lt}
use mathlib.Core.Bool.{Bool, true, false, not, true≢false}
use lib.Ieee.{Float, nan, inf, fin, up, down, lt, le, is_nan}
use lib.Ieee.Fits.{down_pos}
use lib.Ieee.Exact.{HasValue}
use lib.Ieee.Order.{transfer, le_of_values}
use Rattle.doubles.proofs.Truth.{is, either}
use Rattle.doubles.proofs.Order.{le-under, le_not_lt}

pub value-number : (x : Float) (s : Bool) (a c : ℕ) → HasValue x s a c → is_nan x ≡ false
unfolding is_nan
value-number nan s a c v = absurd v
value-number (inf t) s a c v = absurd v
value-number (fin t m e) s a c v = refl

pub le-values : (x y : Float) (a c b d : ℕ) → HasValue x false a c → HasValue y false b d → le x y ≡ true → a * d ≤ b * c
le-values nan y a c b d v w h = absurd v
le-values (inf s) y a c b d v w h = absurd v
le-values (fin true m e) y a c b d v w h = absurd (true≢false v.0)
le-values (fin false m e) nan a c b d v w h = absurd w
le-values (fin false m e) (inf t) a c b d v w h = absurd w
le-values (fin false m e) (fin true n g) a c b d v w h = absurd (true≢false w.0)
le-values (fin false m e) (fin false n g) a c b d v w h =
    transfer a b c d (m * up e) (n * up g) (down e) (down g) (down_pos e) (down_pos g) (sym v.1) (sym w.1) (le-under false m e false n g h)

pub values-le : (x y : Float) (a c b d : ℕ) → 0 < c → 0 < d → HasValue x false a c → HasValue y false b d → a * d ≤ b * c → le x y ≡ true
values-le x y a c b d C D v w h = is (le_of_values x y a c b d C D v w h)

pub lt-values : (x y : Float) (a c b d : ℕ) → 0 < c → 0 < d → HasValue x false a c → HasValue y false b d → lt x y ≡ true → a * d < b * c
lt-values x y a c b d C D v w h =
    lt_of_not-le (λ g. true≢false (sym (values-le y x b d a c D C w v g) ∙ le_not_lt x y (value-number x false a c v) (value-number y false b d w) ∙ ap not h))

pub values-lt : (x y : Float) (a c b d : ℕ) → HasValue x false a c → HasValue y false b d → a * d < b * c → lt x y ≡ true
values-lt x y a c b d v w h = elim (either (lt x y)) [
  | inl e ↦ e
  | inr e ↦ absurd (not-le_of_lt h (le-values y x b d a c w v (le_not_lt x y (value-number x false a c v) (value-number y false b d w) ∙ ap not e)))
]
