-- What an update gathers: each bin's sum onto its importance, its waiting samples onto its counter.
use Rattle.std.specs.Prelude.{ℕ, ◌+◌, ◌^◌, Bool, cond, ◌&&◌, List, [], ◌∷◌, leb, Float}
use Rattle.std.specs.Float.{binary64}
use Rattle.std.specs.Float.Ieee.{add}
use Rattle.recut.specs.Pairs.{pairwise}

-- each importance and what is added to it: the bins' sums on averages, their sums of squares on squares
unfoldable pub gathered_of : List Float → List Float → List Float
gathered_of = pairwise (add binary64)

-- a count with its waiting samples; where one of the two is above 2^53, which no record may hold, it stays as it is
unfoldable pub joined_count : ℕ → ℕ → ℕ
joined_count n m = cond (leb n (2 ^ 53) && leb m (2 ^ 53)) (n + m) n

unfoldable pub joined_counts : List ℕ → List ℕ → List ℕ
joined_counts = pairwise joined_count

unfoldable pub sum_of : List ℕ → ℕ
sum_of [] = 0
sum_of (n ∷ ns) = n + sum_of ns

-- the counters' sum is at least the least number of samples
unfoldable pub reaches_of : ℕ → List ℕ → Bool
reaches_of least ns = leb least (sum_of ns)
