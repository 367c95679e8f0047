-- Where an axis stands in a grid: the bins that lead to its axes grid, and its number there. And where a probability stands.
use Rattle.std.specs.Prelude.{ℕ, zero, suc, List, [], ◌∷◌, Float}
use Rattle.std.proofs.Math.Option.{Option, some}
use Rattle.std.proofs.Math.Option as option
use Rattle.model.specs.Axes.{Axis, AxesPlan}
use Rattle.model.specs.Grid.{Grid, Bins, Child, axes, bins, none, more, nothing, grid}

-- an axis, with what the plan says of its axes grid
pub record Spot : Type 0 where
  pub plan : AxesPlan
  pub axis : Axis

abbrev pub spot : AxesPlan → Axis → Spot
spot plan ax = record { plan = plan; axis = ax }

unfoldable pub nth : AxesPlan → List Axis → ℕ → Option Spot
nth plan [] k = option.none
nth plan (ax ∷ rest) zero = some (spot plan ax)
nth plan (ax ∷ rest) (suc k) = nth plan rest k

-- the axis number k of the axes grid at the end of a path
unfoldable mutual
  pub axis_at : Grid → List ℕ → ℕ → Option Spot
  axis_at (axes g) [] k = nth g.plan g.axes k
  axis_at (axes g) (i ∷ p) k = option.none
  axis_at (bins h bs) [] k = option.none
  axis_at (bins h bs) (i ∷ p) k = axis_in bs i p k

  pub axis_in : Bins → ℕ → List ℕ → ℕ → Option Spot
  axis_in none i p k = option.none
  axis_in (more b c bs) zero p k = axis_under c p k
  axis_in (more b c bs) (suc i) p k = axis_in bs i p k

  pub axis_under : Child → List ℕ → ℕ → Option Spot
  axis_under nothing p k = option.none
  axis_under (grid g) p k = axis_at g p k

-- the probability of bin i of the bins grid at the end of a path
unfoldable mutual
  pub chance_at : Grid → List ℕ → ℕ → Option Float
  chance_at (axes g) p i = option.none
  chance_at (bins h bs) [] i = chance_of bs i
  chance_at (bins h bs) (j ∷ p) i = chance_in bs j p i

  pub chance_of : Bins → ℕ → Option Float
  chance_of none i = option.none
  chance_of (more b c bs) zero = some b.probability
  chance_of (more b c bs) (suc i) = chance_of bs i

  pub chance_in : Bins → ℕ → List ℕ → ℕ → Option Float
  chance_in none j p i = option.none
  chance_in (more b c bs) zero p i = chance_under c p i
  chance_in (more b c bs) (suc j) p i = chance_in bs j p i

  pub chance_under : Child → List ℕ → ℕ → Option Float
  chance_under nothing p i = option.none
  chance_under (grid g) p i = chance_at g p i
