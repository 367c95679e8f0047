-- What becomes of the importances: divided by the counts, smoothed, damped.
use Rattle.std.specs.Prelude.{ℕ, cond, List, [], ◌∷◌, map, ltb, Float}
use Rattle.std.specs.Float.{binary64}
use Rattle.std.specs.Float.Ieee.{add, sub, mul, div, eq, of_bits}
use Rattle.doubles.specs.Numbers.{zero64, one64}
use Rattle.plain.specs.Norm.{norm_of}
use Rattle.doubles.specs.Count.{count_of}
use Rattle.real.specs.Ln.{ln_of}
use Rattle.real.specs.Power.{power_of}
use Rattle.recut.specs.Pairs.{pairwise}

abbrev pub three64 : Float
three64 = of_bits binary64 0x4008_0000_0000_0000

abbrev pub four64 : Float
four64 = of_bits binary64 0x4010_0000_0000_0000

abbrev pub six64 : Float
six64 = of_bits binary64 0x4018_0000_0000_0000

abbrev pub eight64 : Float
eight64 = of_bits binary64 0x4020_0000_0000_0000

-- the size of an importance, divided by its count where that is above 0
unfoldable pub per_count : Float → ℕ → Float
per_count q n = cond (ltb 0 n) (div binary64 (norm_of q) (count_of n)) (norm_of q)

unfoldable pub normalised : List Float → List ℕ → List Float
normalised = pairwise per_count

-- ---- smooth, from two bins on: each with its neighbours, as they were before

-- (3·a + b) / 4, ((p + c·6) + n) / 8 and (p + 3·c) / 4
unfoldable pub first_of : Float → Float → Float
first_of a b = div binary64 (add binary64 (mul binary64 three64 a) b) four64

unfoldable pub inner_of : Float → Float → Float → Float
inner_of p c n = div binary64 (add binary64 (add binary64 p (mul binary64 c six64)) n) eight64

unfoldable pub last_of : Float → Float → Float
last_of p c = div binary64 (add binary64 p (mul binary64 three64 c)) four64

-- c and all that follow it; p is the one before c
unfoldable pub smoothed_from : Float → Float → List Float → List Float
smoothed_from p c [] = last_of p c ∷ []
smoothed_from p c (n ∷ ns) = inner_of p c n ∷ smoothed_from c n ns

unfoldable pub smoothed : List Float → List Float
smoothed [] = []
smoothed (a ∷ []) = a ∷ []
smoothed (a ∷ (b ∷ qs)) = first_of a b ∷ smoothed_from a b qs

-- ---- damp: equal to the total, 1; zero, 0; otherwise ((q − 1) / ln q)^rate with q = importance / total, 0 where q underflows to 0

unfoldable pub damp_share : Float → Float → Float
damp_share q rate = cond (eq q zero64) zero64 (power_of (div binary64 (sub binary64 q one64) (ln_of q)) rate)

unfoldable pub damp_one : Float → Float → Float → Float
damp_one total rate b = cond (eq b total) one64 (cond (eq b zero64) zero64 (damp_share (div binary64 b total) rate))

unfoldable pub damped : Float → Float → List Float → List Float
damped total rate = map (damp_one total rate)
