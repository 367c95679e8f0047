-- The total of a list of doubles. Definitions only.
use Rattle.std.specs.Prelude.{List, [], ◌∷◌, Bool, true, ◌&&◌, Float}
use Rattle.std.specs.Float.{binary64}
use Rattle.std.specs.Float.Ieee.{add}
use Rattle.doubles.specs.Finite.{finite_of}

-- t and the numbers after it, added from left to right
unfoldable pub total_of : Float → List Float → Float
total_of t [] = t
total_of t (x ∷ xs) = total_of (add binary64 t x) xs

unfoldable pub all_finite : List Float → Bool
all_finite [] = true
all_finite (x ∷ xs) = finite_of x && all_finite xs
