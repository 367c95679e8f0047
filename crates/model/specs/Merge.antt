-- Merging: 4 where shapes differ anywhere, 11 where edges, probabilities or floors do, 8 for what would be kept, then the other's waiting
-- samples added everywhere. Nothing else of the plans is compared.
use Rattle.std.specs.Prelude.{ℕ, Bool, true, false, not, ◌&&◌, cond, List, [], ◌∷◌, eqb, length, Float}
use Rattle.std.specs.Float.Ieee.{eq}
use Rattle.doubles.specs.Paper.{Paper, gives, refuses}
use Rattle.accumulator.specs.declared.StatisticsAccumulator.{StatisticsAccumulator}
use Rattle.accumulator.specs.Steps.{merged_of}
use Rattle.model.specs.Axes.{Axis}
use Rattle.model.specs.Grid.{Grid, Bins, Child, axes, bins, none, more, nothing, grid, with_head, with_bin}
use Rattle.model.specs.Sound.{kept_grid}

-- ---- the same shape: kinds, axes, bins now held, children

unfoldable pub same_lengths : List Axis → List Axis → Bool
same_lengths [] [] = true
same_lengths [] (b ∷ bs) = false
same_lengths (a ∷ rest) [] = false
same_lengths (a ∷ rest) (b ∷ others) = eqb (length a.bins) (length b.bins) && same_lengths rest others

unfoldable mutual
  pub same_shape : Grid → Grid → Bool
  same_shape (axes g) (axes o) = same_lengths g.axes o.axes
  same_shape (axes g) (bins h bs) = false
  same_shape (bins h bs) (axes o) = false
  same_shape (bins h bs) (bins k cs) = same_bins bs cs

  pub same_bins : Bins → Bins → Bool
  same_bins none none = true
  same_bins none (more b c bs) = false
  same_bins (more b c bs) none = false
  same_bins (more b c bs) (more d e ds) = same_child c e && same_bins bs ds

  pub same_child : Child → Child → Bool
  same_child nothing nothing = true
  same_child nothing (grid g) = false
  same_child (grid g) nothing = false
  same_child (grid g) (grid o) = same_shape g o

-- ---- equal edges, probabilities and floors, as numbers

unfoldable pub equal_all : List Float → List Float → Bool
equal_all [] [] = true
equal_all [] (y ∷ ys) = false
equal_all (x ∷ xs) [] = false
equal_all (x ∷ xs) (y ∷ ys) = eq x y && equal_all xs ys

unfoldable pub equal_edges : List Axis → List Axis → Bool
equal_edges [] others = true
equal_edges (a ∷ rest) [] = true
equal_edges (a ∷ rest) (b ∷ others) = equal_all a.edges b.edges && equal_edges rest others

unfoldable mutual
  pub equal_grid : Grid → Grid → Bool
  equal_grid (axes g) (axes o) = eq g.plan.floor o.plan.floor && equal_edges g.axes o.axes
  equal_grid (axes g) (bins h bs) = true
  equal_grid (bins h bs) (axes o) = true
  equal_grid (bins h bs) (bins k cs) = equal_bins bs cs

  pub equal_bins : Bins → Bins → Bool
  equal_bins none cs = true
  equal_bins (more b c bs) none = true
  equal_bins (more b c bs) (more d e ds) = eq b.probability d.probability && (equal_child c e && equal_bins bs ds)

  pub equal_child : Child → Child → Bool
  equal_child nothing e = true
  equal_child (grid g) nothing = true
  equal_child (grid g) (grid o) = equal_grid g o

-- ---- the merge

unfoldable pub merge_bin_records : List StatisticsAccumulator → List StatisticsAccumulator → List StatisticsAccumulator
merge_bin_records [] bs = []
merge_bin_records (a ∷ rest) [] = a ∷ rest
merge_bin_records (a ∷ rest) (b ∷ bs) = merged_of a b ∷ merge_bin_records rest bs

unfoldable pub merge_axis : Axis → Axis → Axis
merge_axis a b = record { edges = a.edges; bins = merge_bin_records a.bins b.bins; importances = a.importances; counters = a.counters; recuts = a.recuts }

unfoldable pub merge_all : List Axis → List Axis → List Axis
merge_all [] others = []
merge_all (a ∷ rest) [] = a ∷ rest
merge_all (a ∷ rest) (b ∷ others) = merge_axis a b ∷ merge_all rest others

unfoldable mutual
  pub merge_grid : Grid → Grid → Grid
  merge_grid (axes g) (axes o) = axes (record { plan = g.plan; axes = merge_all g.axes o.axes; own = merged_of g.own o.own })
  merge_grid (axes g) (bins h bs) = axes g
  merge_grid (bins h bs) (axes o) = bins h bs
  merge_grid (bins h bs) (bins k cs) = bins (with_head h (merged_of h.own k.own)) (merge_bins bs cs)

  pub merge_bins : Bins → Bins → Bins
  merge_bins none cs = none
  merge_bins (more b c bs) none = more b c bs
  merge_bins (more b c bs) (more d e ds) = more (with_bin b (merged_of b.own d.own)) (merge_child c e) (merge_bins bs ds)

  pub merge_child : Child → Child → Child
  merge_child nothing e = nothing
  merge_child (grid g) nothing = grid g
  merge_child (grid g) (grid o) = grid (merge_grid g o)

-- is_mergeable, of two well-formed grids: 0, 4 or 11
unfoldable pub merge_fault : Grid → Grid → ℕ
merge_fault g o = cond (not (same_shape g o)) 4 (cond (not (equal_grid g o)) 11 0)

unfoldable pub merge_of : Grid → Grid → Paper Grid
merge_of g o =
    cond (not (same_shape g o)) (refuses 4)
    (cond (not (equal_grid g o)) (refuses 11)
    (cond (not (kept_grid (merge_grid g o))) (refuses 8)
    (gives (merge_grid g o))))
