-- A bins grid's probabilities after an update: raw ones held up by the ratio, then divided by their sum.
use Rattle.std.specs.Prelude.{Bool, true, ◌&&◌, cond, List, [], ◌∷◌, map, Float}
use Rattle.std.specs.Float.{binary64}
use Rattle.std.specs.Float.Ieee.{div, lt}
use Rattle.doubles.specs.Numbers.{zero64}
use Rattle.doubles.specs.Finite.{finite_of}
use Rattle.doubles.specs.Total.{total_of}

-- a probability is finite and above 0
unfoldable pub chance : Float → Bool
chance p = finite_of p && lt zero64 p

unfoldable pub all_chances : List Float → Bool
all_chances [] = true
all_chances (p ∷ ps) = chance p && all_chances ps

unfoldable pub higher : Float → Float → Float
higher m p = cond (lt m p) p m

unfoldable pub highest : Float → List Float → Float
highest m [] = m
highest m (p ∷ ps) = highest (higher m p) ps

-- none below the highest divided by the ratio; then divided by their sum
unfoldable pub raised_to : Float → Float → Float
raised_to r p = cond (lt p r) r p

unfoldable pub share_of : Float → Float → Float
share_of total q = div binary64 q total

unfoldable pub adapted_to : Float → List Float → List Float
adapted_to ratio ps =
    let qs = map (raised_to (div binary64 (highest zero64 ps) ratio)) ps in
    map (share_of (total_of zero64 qs)) qs
