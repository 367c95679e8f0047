-- Demand 3: from a fresh grid, after any sequence of calls, refused ones included, every axis has edges strictly rising from exactly 0 to
-- exactly 1, every bin probability is finite and above 0, a coordinate has a bin exactly when it is a number in [0, 1] (p[i] < x ≤ p[i+1],
-- zero in bin 0), and an axis's bin counts total the samples it accepted, merged ones included, since its last reset.
use Rattle.std.specs.Prelude.{◌≡◌, ◌↔◌, true, List, ℕ, Float}
use Rattle.std.proofs.Math.Option.{some}
use Rattle.axis.specs.Edges.{well_formed, in_unit, InBin, bin_of}
use Rattle.recut.specs.Chances.{chance}
use Rattle.model.specs.Axes.{Axis}
use Rattle.model.specs.Grid.{Grid}
use Rattle.grid.specs.Address.{Spot, axis_at, chance_at}
use Rattle.grid.specs.History.{Entry, total_of, since_reset}

-- the bin rule with its uniqueness, of a function that gives a coordinate its bin: x is in bin i exactly when x is a number in [0, 1] and i
-- is the bin that it gives
abbrev pub BinRule : (List Float → Float → ℕ) → List Float → Type 0
BinRule f es = (x : Float) (i : ℕ) → InBin es x i ↔ ((in_unit x ≡ true) × (i ≡ f es x))

-- of one axis, for which the history has counted n samples: its edges, the bin rule with its uniqueness, its bin counts
pub record AxisHolds (ax : Axis) (n : ℕ) : Type 0 where
  pub edges : well_formed ax.edges ≡ true
  pub bin : BinRule bin_of ax.edges
  pub counts : total_of ax ≡ n

-- of a grid after a history: each axis by its address, and each probability by its own
pub record Demand3 (g : Grid) (es : List Entry) : Type 0 where
  pub axis : (p : List ℕ) (k : ℕ) (s : Spot) → axis_at g p k ≡ some s → AxisHolds s.axis (since_reset s.plan.least p k es)
  pub probability : (p : List ℕ) (i : ℕ) (q : Float) → chance_at g p i ≡ some q → chance q ≡ true
