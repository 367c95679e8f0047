-- Which grids are well formed (12), and which of what a call would leave is kept (8).
use Rattle.std.specs.Prelude.{ℕ, ◌+◌, Bool, true, false, ◌&&◌, ◌||◌, List, [], ◌∷◌, eqb, length}
use Rattle.doubles.specs.Total.{all_finite}
use Rattle.accumulator.specs.declared.StatisticsAccumulator.{StatisticsAccumulator}
use Rattle.accumulator.specs.Record.{bounded, well_formed}
use Rattle.axis.specs.Edges as Edges
use Rattle.axis.specs.Scans.{all_bounded}
unfoldable pub use Rattle.recut.specs.Chances.{chance}
use Rattle.model.specs.Axes.{Axis, AxesPlan}
use Rattle.model.specs.Grid.{Grid, Bins, Child, axes, bins, none, more, nothing, grid}

-- every record's kept sums are finite and its counts at most 2^53
unfoldable pub all_sound : List StatisticsAccumulator → Bool
all_sound [] = true
all_sound (a ∷ as') = well_formed a && all_sound as'

-- the sums and counts of an axis and of a grid may be kept
unfoldable pub kept_axis : Axis → Bool
kept_axis ax = all_sound ax.bins && (all_finite ax.importances && (all_bounded ax.counters && bounded ax.recuts))

unfoldable pub kept_axis_list : List Axis → Bool
kept_axis_list [] = true
kept_axis_list (a ∷ rest) = kept_axis a && kept_axis_list rest

unfoldable mutual
  pub kept_grid : Grid → Bool
  kept_grid (axes g) = well_formed g.own && kept_axis_list g.axes
  kept_grid (bins h bs) = well_formed h.own && kept_bins bs

  pub kept_bins : Bins → Bool
  kept_bins none = true
  kept_bins (more b c bs) = well_formed b.own && (kept_child c && kept_bins bs)

  pub kept_child : Child → Bool
  kept_child nothing = true
  kept_child (grid g) = kept_grid g

-- an axis holds one of its plan's bin numbers, each of its columns has as many entries, and its edges rise from 0 to 1
unfoldable pub listed : ℕ → List ℕ → Bool
listed n [] = false
listed n (m ∷ ms) = eqb n m || listed n ms

unfoldable pub formed_axis : AxesPlan → Axis → Bool
formed_axis plan ax =
    let n = length ax.bins in
    listed n (plan.bins ∷ plan.evolution)
    && (eqb (length ax.edges) (n + 1) && (eqb (length ax.importances) n && (eqb (length ax.counters) n && Edges.well_formed ax.edges)))

unfoldable pub formed_axis_list : AxesPlan → List Axis → Bool
formed_axis_list plan [] = true
formed_axis_list plan (a ∷ rest) = formed_axis plan a && formed_axis_list plan rest

unfoldable mutual
  pub formed_grid : Grid → Bool
  formed_grid (axes g) = formed_axis_list g.plan g.axes
  formed_grid (bins h bs) = formed_bins bs

  pub formed_bins : Bins → Bool
  formed_bins none = true
  formed_bins (more b c bs) = chance b.probability && (formed_child c && formed_bins bs)

  pub formed_child : Child → Bool
  formed_child nothing = true
  formed_child (grid g) = formed_grid g

-- well formed, else 12
unfoldable pub sound : Grid → Bool
sound g = formed_grid g && kept_grid g
