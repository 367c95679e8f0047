-- The bin at the end of a path, and its live estimate.
use Rattle.std.specs.Prelude.{ℕ, zero, suc, cond, List, [], ◌∷◌, ltb}
use Rattle.doubles.specs.Paper.{Paper, gives, refuses}
use Rattle.accumulator.specs.declared.StatisticsAccumulator.{StatisticsAccumulator}
use Rattle.accumulator.specs.declared.Estimate.{Estimate}
use Rattle.accumulator.specs.Calls.{live_estimate_of}
use Rattle.model.specs.Grid.{Grid, Bins, Child, axes, bins, none, more, nothing, grid, many}

-- its accumulator; at each level 4 where no index is left, 6 where the index is past the end, and 4 where the path goes on and nothing
-- hangs there; an axes grid has no bins: 4
unfoldable mutual
  pub bin_along : Grid → List ℕ → Paper StatisticsAccumulator
  bin_along (axes g) path = refuses 4
  bin_along (bins h bs) [] = refuses 4
  bin_along (bins h bs) (i ∷ path) = cond (ltb i (many bs)) (bin_named bs i path) (refuses 6)

  pub bin_named : Bins → ℕ → List ℕ → Paper StatisticsAccumulator
  bin_named none i path = refuses 6
  bin_named (more b c bs) zero path = bin_over c b.own path
  bin_named (more b c bs) (suc i) path = bin_named bs i path

  -- a bin with this accumulator over what hangs there
  pub bin_over : Child → StatisticsAccumulator → List ℕ → Paper StatisticsAccumulator
  bin_over nothing a [] = gives a
  bin_over nothing a (i ∷ path) = refuses 4
  bin_over (grid g) a [] = gives a
  bin_over (grid g) a (i ∷ path) = bin_along g (i ∷ path)

unfoldable pub estimate_by : Paper StatisticsAccumulator → Paper Estimate
estimate_by (gives a) = live_estimate_of a
estimate_by (refuses n) = refuses n

unfoldable pub estimate_along : Grid → List ℕ → Paper Estimate
estimate_along g path = estimate_by (bin_along g path)
