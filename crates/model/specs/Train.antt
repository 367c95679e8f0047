-- Training: 3 for the sample's number, then the path (6, 4), the number of coordinates (4), each coordinate (5), evaluation and weights (7),
-- what would be kept (8), then the grid with the sample added.
use Rattle.std.specs.Prelude.{ℕ, zero, suc, ◌^◌, Bool, not, ◌&&◌, cond, List, [], ◌∷◌, leb, ltb, eqb, length, get_or, set, Float}
use Rattle.std.specs.Float.{binary64}
use Rattle.std.specs.Float.Ieee.{mul}
use Rattle.doubles.specs.Finite.{finite_of}
use Rattle.doubles.specs.Total.{all_finite}
use Rattle.doubles.specs.Paper.{Paper, gives, refuses}
use Rattle.accumulator.specs.Record.{fresh}
use Rattle.accumulator.specs.Steps.{added_of}
use Rattle.axis.specs.Edges.{in_unit, bin_of}
use Rattle.model.specs.Axes.{Axis, AxesGrid}
use Rattle.model.specs.Grid.{Grid, Bins, Child, axes, bins, none, more, nothing, grid, many, with_head, with_bin}
use Rattle.model.specs.Draw.{Sample, weight_at}
use Rattle.model.specs.Sound.{kept_grid}

-- ---- the sample's form: 0 where it fits, else 4, 5 or 6

unfoldable pub fault_of_all : List Float → ℕ
fault_of_all [] = 0
fault_of_all (x ∷ xs) = cond (not (in_unit x)) 5 (fault_of_all xs)

-- at an axes grid: no path left, one weight, a coordinate for each axis
unfoldable pub fault_of_axes : AxesGrid → List ℕ → List Float → List Float → ℕ
fault_of_axes g (i ∷ path) ws xs = 4
fault_of_axes g [] ws xs = cond (not (eqb (length ws) 1)) 4 (cond (not (eqb (length xs) (length g.axes))) 4 (fault_of_all xs))

unfoldable mutual
  pub fault_of : Grid → List ℕ → List Float → List Float → ℕ
  fault_of (axes g) path ws xs = fault_of_axes g path ws xs
  fault_of (bins h bs) [] ws xs = 4
  fault_of (bins h bs) (i ∷ path) [] xs = cond (ltb i (many bs)) 4 6
  fault_of (bins h bs) (i ∷ path) (w ∷ ws) xs = cond (ltb i (many bs)) (fault_of_bin bs i path ws xs) 6

  pub fault_of_bin : Bins → ℕ → List ℕ → List Float → List Float → ℕ
  fault_of_bin none i path ws xs = 6
  fault_of_bin (more b c bs) zero path ws xs = fault_of_child c path ws xs
  fault_of_bin (more b c bs) (suc i) path ws xs = fault_of_bin bs i path ws xs

  -- a child that is missing, or given where none hangs, is 4
  pub fault_of_child : Child → List ℕ → List Float → List Float → ℕ
  fault_of_child nothing [] [] [] = 0
  fault_of_child nothing [] [] (x ∷ xs) = 4
  fault_of_child nothing [] (w ∷ ws) xs = 4
  fault_of_child nothing (i ∷ path) ws xs = 4
  fault_of_child (grid g) path ws xs = fault_of g path ws xs

-- ---- the grid with the sample added

-- weight · evaluation, with no number, joins the coordinate's bin
unfoldable pub train_axis : Axis → Float → Float → Axis
train_axis ax x v =
    let i = bin_of ax.edges x in
    record {
      edges = ax.edges;
      bins = set ax.bins i (added_of (get_or ax.bins i fresh) v 0);
      importances = ax.importances;
      counters = ax.counters;
      recuts = ax.recuts;
    }

unfoldable pub train_all : List Axis → List Float → Float → List Axis
train_all [] xs v = []
train_all (ax ∷ rest) [] v = ax ∷ rest
train_all (ax ∷ rest) (x ∷ xs) v = train_axis ax x v ∷ train_all rest xs v

unfoldable pub train_axes : AxesGrid → List Float → List Float → Float → ℕ → AxesGrid
train_axes g ws xs e number =
    let w = weight_at ws in
    record { plan = g.plan; axes = train_all g.axes xs (mul binary64 w e); own = added_of g.own (mul binary64 e w) number }

-- a bins grid gets weight · evaluation, the bin (weight · probability) · evaluation, and its child the same evaluation with its own weight
unfoldable mutual
  pub train_grid : Grid → List ℕ → List Float → List Float → Float → ℕ → Grid
  train_grid (axes g) path ws xs e number = axes (train_axes g ws xs e number)
  train_grid (bins h bs) [] ws xs e number = bins h bs
  train_grid (bins h bs) (i ∷ path) [] xs e number = bins h bs
  train_grid (bins h bs) (i ∷ path) (w ∷ ws) xs e number =
      bins (with_head h (added_of h.own (mul binary64 e w) number)) (train_bin bs i w path ws xs e number)

  pub train_bin : Bins → ℕ → Float → List ℕ → List Float → List Float → Float → ℕ → Bins
  train_bin none i w path ws xs e number = none
  train_bin (more b c bs) zero w path ws xs e number =
      more (with_bin b (added_of b.own (mul binary64 (mul binary64 w b.probability) e) number)) (train_child c path ws xs e number) bs
  train_bin (more b c bs) (suc i) w path ws xs e number = more b c (train_bin bs i w path ws xs e number)

  pub train_child : Child → List ℕ → List Float → List Float → Float → ℕ → Child
  train_child nothing path ws xs e number = nothing
  train_child (grid g) path ws xs e number = grid (train_grid g path ws xs e number)

-- a training sample's number is from 1 to 2^53
unfoldable pub numbered : ℕ → Bool
numbered n = leb 1 n && leb n (2 ^ 53)

-- the call on a well-formed grid
unfoldable pub train_of : Grid → Sample → Float → ℕ → Paper Grid
train_of g s e number =
    let fault = fault_of g s.path s.weights s.coordinates in
    let after = train_grid g s.path s.weights s.coordinates e number in
    cond (not (numbered number)) (refuses 3)
    (cond (not (eqb fault 0)) (refuses fault)
    (cond (not (finite_of e && all_finite s.weights)) (refuses 7)
    (cond (not (kept_grid after)) (refuses 8)
    (gives after))))
