-- An axis and an axes grid: the Rust's ContinuousDimension and ContinuousGrid.
use Rattle.std.specs.Prelude.{ℕ, Bool, List, map, replicate, Float}
use Rattle.doubles.specs.Numbers.{zero64}
use Rattle.accumulator.specs.declared.StatisticsAccumulator.{StatisticsAccumulator}
use Rattle.accumulator.specs.Record.{fresh}
use Rattle.accumulator.specs.Steps.{cleared_of}
use Rattle.axis.specs.Edges.{even_edges}

-- partitioning, bin_accumulator, bin_importance, counter, update_counter
pub record Axis : Type 0 where
  pub edges : List Float
  pub bins : List StatisticsAccumulator
  pub importances : List Float
  pub counters : List ℕ
  pub recuts : ℕ

-- what the plan says of an axes grid: the bins of 01, the least samples, whether it trains on averages, the values of 02, the floor
pub record AxesPlan : Type 0 where
  pub bins : ℕ
  pub least : ℕ
  pub averages : Bool
  pub evolution : List ℕ
  pub floor : Float

pub record AxesGrid : Type 0 where
  pub plan : AxesPlan
  pub axes : List Axis
  pub own : StatisticsAccumulator

-- an axis with these edges and nothing trained
unfoldable pub empty_axis : List Float → ℕ → ℕ → Axis
empty_axis es n recuts = record { edges = es; bins = replicate n fresh; importances = replicate n zero64; counters = replicate n 0; recuts = recuts }

unfoldable pub fresh_axis : ℕ → Axis
fresh_axis n = empty_axis (even_edges n) n 0

unfoldable pub fresh_axes : ℕ → AxesPlan → AxesGrid
fresh_axes axes plan = record { plan = plan; axes = replicate axes (fresh_axis plan.bins); own = fresh }

-- the axis with nothing waiting in its bins
unfoldable pub cleared_axis : Axis → Axis
cleared_axis ax = record { edges = ax.edges; bins = map cleared_of ax.bins; importances = ax.importances; counters = ax.counters; recuts = ax.recuts }

-- clone_without_samples of an axes grid: waiting samples go, importances and counters stay
unfoldable pub copy_axes : AxesGrid → AxesGrid
copy_axes g = record { plan = g.plan; axes = map cleared_axis g.axes; own = cleared_of g.own }
