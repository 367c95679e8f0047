-- The tree: an axes grid, or a bins grid each of whose bins carries nothing, an axes grid or another bins grid.
use Rattle.std.specs.Prelude.{ℕ, suc, Bool, List, [], ◌∷◌, length, Float}
use Rattle.doubles.specs.Count.{count_of}
use Rattle.doubles.specs.Inverse.{inv_of}
use Rattle.accumulator.specs.declared.StatisticsAccumulator.{StatisticsAccumulator}
use Rattle.accumulator.specs.Record.{fresh}
use Rattle.accumulator.specs.Steps.{cleared_of}
use Rattle.model.specs.Axes.{AxesGrid, copy_axes}

-- a bins grid's own: max_prob_ratio, train_on_avg, accumulator
pub record Head : Type 0 where
  pub ratio : Float
  pub averages : Bool
  pub own : StatisticsAccumulator

-- a bin's own: pdf, accumulator
pub record Bin : Type 0 where
  pub probability : Float
  pub own : StatisticsAccumulator

mutual
  pub data Grid : Type 0 where
    axes : AxesGrid → Grid
    bins : Head → Bins → Grid

  pub data Bins : Type 0 where
    none : Bins
    more : Bin → Child → Bins → Bins

  pub data Child : Type 0 where
    nothing : Child
    grid : Grid → Child

-- how many bins
unfoldable pub many : Bins → ℕ
many none = 0
many (more b c bs) = suc (many bs)

-- their probabilities, in order
unfoldable pub probabilities : Bins → List Float
probabilities none = []
probabilities (more b c bs) = b.probability ∷ probabilities bs

-- a fresh bins grid over its children: every probability is 1 / n
unfoldable pub fresh_bin : ℕ → Bin
fresh_bin n = record { probability = inv_of (count_of n); own = fresh }

-- the children in order, each in one of n bins
unfoldable pub fresh_bins : ℕ → List Child → Bins
fresh_bins n [] = none
fresh_bins n (c ∷ cs) = more (fresh_bin n) c (fresh_bins n cs)

unfoldable pub fresh_head : Float → Bool → Head
fresh_head ratio averages = record { ratio = ratio; averages = averages; own = fresh }

unfoldable pub fresh_grid : Float → Bool → List Child → Grid
fresh_grid ratio averages cs = bins (fresh_head ratio averages) (fresh_bins (length cs) cs)

-- a head and a bin with another accumulator
unfoldable pub with_head : Head → StatisticsAccumulator → Head
with_head h a = record { ratio = h.ratio; averages = h.averages; own = a }

unfoldable pub with_bin : Bin → StatisticsAccumulator → Bin
with_bin b a = record { probability = b.probability; own = a }

-- clone_without_samples: a bins grid's own accumulator and its bins' are cleared; nested grids keep their samples
unfoldable pub cleared_bins : Bins → Bins
cleared_bins none = none
cleared_bins (more b c bs) = more (with_bin b (cleared_of b.own)) c (cleared_bins bs)

unfoldable pub copy_grid : Grid → Grid
copy_grid (axes g) = axes (copy_axes g)
copy_grid (bins h bs) = bins (with_head h (cleared_of h.own)) (cleared_bins bs)
