-- A fresh tree: what laying it down leaves in lent memory, run by run of the plan's table, and the model's grid that it is.
use Rattle.std.specs.Prelude.{cond, List, [], ◌∷◌, ℕ, zero, suc, ◌+◌, ◌*◌, eqb, get_or, set, replicate}
use Rattle.std.specs.Float.{binary64}
use Rattle.std.specs.Float.Ieee.{of_bits}
use Rattle.doubles.specs.Count.{count_of}
use Rattle.doubles.specs.Inverse.{inv_of}
use Rattle.accumulator.specs.Record.{fresh}
use Rattle.model.specs.Axes.{fresh_axes}
use Rattle.model.specs.Grid.{Grid, Child, axes, fresh_grid}
use Rattle.lent.specs.Memory.{Memory, memory, over_axes, stored}
use Rattle.lent.specs.Laid.{lay_at}
use Rattle.lent.specs.Tree.{axes_plan_at, axes_place, child_in}

-- ---- what is laid

-- an axes grid: a fresh own accumulator, and axes of even bins
unfoldable pub laid_axes : List ℕ → ℕ → Memory → Memory
laid_axes table w s =
    over_axes (lay_at (axes_place table w).most) (axes_place table w).most (replicate (axes_place table w).axes (get_or table (w + 3) 0)) (axes_place table w).reals (axes_place table w).counts
    (stored (get_or table (w + 9) 0) (get_or table (w + 10) 0) fresh s)

-- bin i of a bins grid: a probability of 1 / n, and a fresh accumulator
unfoldable pub laid_bin : List ℕ → ℕ → ℕ → Memory → Memory
laid_bin table w i s =
    stored (get_or table (w + 5) 0 + 14 + get_or table (w + 2) 0 + 14 * i) (get_or table (w + 6) 0 + 7 + 7 * i) fresh
    (memory (set s.reals (get_or table (w + 5) 0 + 14 + i) (inv_of (count_of (get_or table (w + 2) 0)))) s.counts)

-- n bins from bin i on
unfoldable pub laid_bins : List ℕ → ℕ → ℕ → ℕ → Memory → Memory
laid_bins table w i zero s = s
laid_bins table w i (suc n) s = laid_bins table w (i + 1) n (laid_bin table w i s)

-- a bins grid's own: its accumulator and its bins, not what hangs there
unfoldable pub laid_own : List ℕ → ℕ → Memory → Memory
laid_own table w s = laid_bins table w 0 (get_or table (w + 2) 0) (stored (get_or table (w + 5) 0) (get_or table (w + 6) 0) fresh s)

-- what hangs at a link
unfoldable pub laid_child : (ℕ → Memory → Memory) → ℕ → Memory → Memory
laid_child f link s = cond (eqb link 0) s (f link s)

-- at n links from link i on
unfoldable pub laid_children : (ℕ → Memory → Memory) → List ℕ → ℕ → ℕ → ℕ → Memory → Memory
laid_children f table w i zero s = s
laid_children f table w i (suc n) s = laid_children f table w (i + 1) n (laid_child f (get_or table (w + 7 + i) 0) s)

unfoldable pub laid_node : (ℕ → Memory → Memory) → List ℕ → ℕ → Memory → Memory
laid_node f table w s = cond (eqb (get_or table w 0) 1) (laid_axes table w s) (laid_children f table w 0 (get_or table (w + 2) 0) (laid_own table w s))

-- the grid whose run begins at word w, with so many levels left
unfoldable pub laid_grid : ℕ → List ℕ → ℕ → Memory → Memory
laid_grid zero table w s = laid_axes table w s
laid_grid (suc l) table w s = laid_node (laid_grid l table) table w s

-- ---- the model's fresh grid

unfoldable pub fresh_children : (ℕ → Grid) → List ℕ → ℕ → ℕ → ℕ → List Child
fresh_children f table w i zero = []
fresh_children f table w i (suc n) = child_in f (get_or table (w + 7 + i) 0) ∷ fresh_children f table w (i + 1) n

unfoldable pub fresh_node : (ℕ → Grid) → List ℕ → ℕ → Grid
fresh_node f table w =
    cond (eqb (get_or table w 0) 1) (axes (fresh_axes (get_or table (w + 2) 0) (axes_plan_at table w)))
    (fresh_grid (of_bits binary64 (get_or table (w + 3) 0)) (eqb (get_or table (w + 4) 0) 1) (fresh_children f table w 0 (get_or table (w + 2) 0)))

unfoldable pub fresh_at : ℕ → List ℕ → ℕ → Grid
fresh_at zero table w = axes (fresh_axes (get_or table (w + 2) 0) (axes_plan_at table w))
fresh_at (suc l) table w = fresh_node (fresh_at l table) table w
