-- What stands against a merge of two grids: 4, 11, 8, each over both trees before the next.
use Rattle.std.specs.Prelude.{Bool, not, ◌&&◌, cond, List, ℕ, ◌+◌, ◌*◌, ◌≤◌, ◌<◌, eqb, length, get_or}
use Rattle.std.specs.Float.Ieee.{eq}
use Rattle.accumulator.specs.Record.{well_formed}
use Rattle.accumulator.specs.Steps.{merged_of}
use Rattle.model.specs.Grid.{Grid, Bin, Child}
use Rattle.model.specs.Sound.{kept_grid, kept_child}
use Rattle.model.specs.Merge.{same_shape, same_child, equal_grid, equal_child, merge_grid, merge_child}

-- shapes, then numbers, then what would be kept
unfoldable pub obstacle : Bool → Bool → Bool → ℕ
obstacle same equal kept = cond (not same) 4 (cond (not equal) 11 (cond (not kept) 8 0))

-- of two the one that comes first
unfoldable pub worse_of : ℕ → ℕ → ℕ
worse_of a b = cond (eqb a 4) 4 (cond (eqb b 4) 4 (cond (eqb a 11) 11 (cond (eqb b 11) 11 (cond (eqb a 8) 8 b))))

unfoldable pub grid_obstacle : Grid → Grid → ℕ
grid_obstacle g o = obstacle (same_shape g o) (equal_grid g o) (kept_grid (merge_grid g o))

-- against what hangs at two bins, and against the two bins with it
unfoldable pub child_obstacle : Child → Child → ℕ
child_obstacle c e = obstacle (same_child c e) (equal_child c e) (kept_child (merge_child c e))

unfoldable pub bin_obstacle : Bin → Child → Bin → Child → ℕ
bin_obstacle b c d e =
    obstacle (same_child c e) (eq b.probability d.probability && equal_child c e) (well_formed (merged_of b.own d.own) && kept_child (merge_child c e))

-- bin i of the bins grid at w lies within R reals and C counts
pub record BinRoom (table : List ℕ) (R C w i : ℕ) : Type 0 where
  pub head : w + 7 ≤ length table
  pub bin : i < get_or table (w + 2) 0
  pub room : get_or table (w + 5) 0 + 14 + 15 * get_or table (w + 2) 0 ≤ R
  pub places : get_or table (w + 6) 0 + 7 + 7 * get_or table (w + 2) 0 ≤ C
