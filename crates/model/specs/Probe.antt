-- Probing: the weight at a point or over a region, and the refusals along the path: at each level the index (6) before what hangs there
-- (4), then the number of coordinates (4), then each in order (5).
use Rattle.std.specs.Prelude.{ℕ, zero, suc, not, cond, List, [], ◌∷◌, ltb, eqb, length, Float}
use Rattle.std.specs.Float.{binary64}
use Rattle.std.specs.Float.Ieee.{mul}
use Rattle.doubles.specs.Numbers.{one64}
use Rattle.doubles.specs.Inverse.{inv_of}
use Rattle.doubles.specs.Paper.{Paper, gives, refuses}
use Rattle.axis.specs.Edges.{in_unit, bin_of, weight_of}
use Rattle.model.specs.Axes.{Axis, AxesGrid}
use Rattle.model.specs.Grid.{Grid, Bins, Child, axes, bins, none, more, nothing, grid, many}
use Rattle.model.specs.Draw.{floored_of}

-- a probe may leave a coordinate open, which then has factor 1
pub data Coordinate : Type 0 where
  open' : Coordinate
  given : Float → Coordinate

-- the product of the axes' weights, from w on; 5 at the first coordinate that is no number in [0, 1]
unfoldable pub probe_all : List Axis → List Coordinate → Float → Paper Float
probe_all [] xs w = gives w
probe_all (ax ∷ rest) [] w = gives w
probe_all (ax ∷ rest) (open' ∷ xs) w = probe_all rest xs w
probe_all (ax ∷ rest) (given x ∷ xs) w =
    cond (not (in_unit x)) (refuses 5) (probe_all rest xs (mul binary64 w (weight_of ax.edges (bin_of ax.edges x))))

abbrev pub through : (Float → Float) → Paper Float → Paper Float
through f (gives w) = gives (f w)
through f (refuses n) = refuses n

unfoldable pub probe_axes : AxesGrid → List Coordinate → Paper Float
probe_axes g xs = cond (not (eqb (length xs) (length g.axes))) (refuses 4) (through (floored_of g.plan.floor) (probe_all g.axes xs one64))

unfoldable mutual
  pub probe_grid : Grid → List ℕ → List Coordinate → Paper Float
  probe_grid (axes g) [] xs = probe_axes g xs
  probe_grid (axes g) (i ∷ path) xs = refuses 4
  probe_grid (bins h bs) [] xs = refuses 4
  probe_grid (bins h bs) (i ∷ path) xs = cond (ltb i (many bs)) (probe_bin bs i path xs) (refuses 6)

  -- the bin i places on
  pub probe_bin : Bins → ℕ → List ℕ → List Coordinate → Paper Float
  probe_bin none i path xs = refuses 6
  probe_bin (more b c bs) zero path xs = through (mul binary64 (inv_of b.probability)) (probe_child c path xs)
  probe_bin (more b c bs) (suc i) path xs = probe_bin bs i path xs

  -- a path that ends at the bin with no coordinates given answers from the probabilities alone
  pub probe_child : Child → List ℕ → List Coordinate → Paper Float
  probe_child nothing [] [] = gives one64
  probe_child nothing [] (x ∷ xs) = refuses 4
  probe_child nothing (i ∷ path) xs = refuses 4
  probe_child (grid g) [] [] = gives one64
  probe_child (grid g) [] (x ∷ xs) = probe_grid g [] (x ∷ xs)
  probe_child (grid g) (i ∷ path) xs = probe_grid g (i ∷ path) xs
