-- Training in lent memory: a sample joins a bin of each axis.
use Rattle.std.specs.Prelude.{ℕ, ◌+◌, ◌*◌, ◌^◌, ◌≤◌, ◌<◌, ◌≡◌, Bool, true, not, ◌&&◌, cond, List, [], ◌∷◌, leb, eqb, length, get_or, set, Float}
use Rattle.std.specs.Float.{nan, binary64}
use Rattle.std.specs.Float.Ieee.{add, mul}
use Rattle.doubles.specs.Finite.{finite_of}
use Rattle.accumulator.specs.Steps.{zero_count}
use Rattle.axis.specs.Edges.{in_unit, bin_of}
use Rattle.model.specs.Axes.{Axis}
use Rattle.lent.specs.declared.AxesAt.{AxesAt}
use Rattle.lent.specs.Layout.{axis_reals, axis_counts}
use Rattle.lent.specs.Memory.{Memory, memory, over_axes, Asked}
use Rattle.lent.specs.Drawn.{axes_at, Stands}

-- every coordinate is a number in [0, 1]
unfoldable pub all_in_unit : List Float → Bool
all_in_unit [] = true
all_in_unit (x ∷ xs) = in_unit x && all_in_unit xs

-- the bin of each coordinate on its axis
unfoldable pub bins_on : List Axis → List Float → List ℕ
bins_on [] xs = []
bins_on (ax ∷ rest) [] = []
bins_on (ax ∷ rest) (x ∷ xs) = bin_of ax.edges x ∷ bins_on rest xs

-- v joins bin i of the axis of at most m bins at r and c: sum, squares, both extremes, waiting samples, waiting zeros
unfoldable pub trained_at : ℕ → Float → ℕ → ℕ → ℕ → Memory → Memory
trained_at m v r c i s =
    memory
    (set (set (set (set s.reals (r + (2 * m + 1) + i) (add binary64 (get_or s.reals (r + (2 * m + 1) + i) nan) v)) (r + (3 * m + 1) + i)
    (add binary64 (get_or s.reals (r + (3 * m + 1) + i) nan) (mul binary64 v v))) (r + (4 * m + 1) + i) v) (r + (5 * m + 1) + i) v)
    (set (set s.counts (c + 2 + i) (get_or s.counts (c + 2 + i) 0 + 1)) (c + (m + 2) + i) (get_or s.counts (c + (m + 2) + i) 0 + zero_count v))

-- what that asks: the bin is one that the axis holds, all of the axis lies in memory, and its counts are within their bound
pub record Cell (m r c i : ℕ) (s : Memory) : Type 0 where
  pub bin : i < get_or s.counts c 0
  pub held : get_or s.counts c 0 ≤ m
  pub room : r + (6 * m + 1) ≤ length s.reals
  pub places : c + (3 * m + 2) ≤ length s.counts
  pub waiting : get_or s.counts (c + 2 + i) 0 ≤ 2 ^ 53
  pub zeros : get_or s.counts (c + (m + 2) + i) 0 ≤ 2 ^ 53

-- the sums and counts there may be kept afterwards
unfoldable pub cell_fits : ℕ → Float → ℕ → ℕ → ℕ → Memory → Bool
cell_fits m v r c i s =
    ((finite_of (add binary64 (get_or s.reals (r + (2 * m + 1) + i) nan) v)
    && finite_of (add binary64 (get_or s.reals (r + (3 * m + 1) + i) nan) (mul binary64 v v)))
    && leb (get_or s.counts (c + 2 + i) 0 + 1) (2 ^ 53)) && leb (get_or s.counts (c + (m + 2) + i) 0 + zero_count v) (2 ^ 53)

unfoldable pub cells_fit : ℕ → Float → List ℕ → ℕ → ℕ → Memory → Bool
cells_fit m v [] r c s = true
cells_fit m v (i ∷ is) r c s = cell_fits m v r c i s && cells_fit m v is (r + axis_reals m) (c + axis_counts m) s

-- the axes of a grid with a bin for each
abbrev pub trained_over : AxesAt → Float → List ℕ → Memory → Memory
trained_over g v is s = over_axes (trained_at g.most v) g.most is g.reals g.counts s

-- what a sample with these coordinates asks of them: they stand in memory, each coordinate is a number in [0, 1], and its bin has a cell
abbrev pub CellsOf : AxesAt → List Float → Memory → Type 0
CellsOf g xs s =
    Stands s.reals s.counts g × (all_in_unit xs ≡ true) × Asked (Cell g.most) g.most (bins_on (axes_at s.reals s.counts g) xs) g.reals g.counts s

-- ---- the sample's form, at an axes grid of k axes and where nothing hangs
unfoldable pub form_fault : ℕ → List ℕ → List Float → List Float → ℕ
form_fault k (i ∷ path) ws xs = 4
form_fault k [] ws xs = cond (not (eqb (length ws) 1)) 4 (cond (not (eqb (length xs) k)) 4 (cond (all_in_unit xs) 0 5))

unfoldable pub nothing_fault : List ℕ → List Float → List Float → ℕ
nothing_fault (i ∷ path) ws xs = 4
nothing_fault [] (w ∷ ws) xs = 4
nothing_fault [] [] (x ∷ xs) = 4
nothing_fault [] [] [] = 0
