-- A probe of a grid in lent memory: what the structs say, in the model's words.
use Rattle.std.specs.Prelude.{ℕ, zero, suc, ◌+◌, ◌-◌, Bool, false, not, cond, ◌&&◌, List, [], ◌∷◌, leb, eqb, length, get_or, Float}
use Rattle.std.specs.Float.{nan}
use Rattle.doubles.specs.Numbers.{one64}
use Rattle.doubles.specs.Paper.{Paper, refuses}
use Rattle.model.specs.Axes.{Axis}
use Rattle.model.specs.Draw.{floored_of}
use Rattle.model.specs.Probe.{Coordinate, open', given, probe_all, through}
use Rattle.lent.specs.declared.Coordinates.{Coordinates}
use Rattle.lent.specs.declared.Region.{Region}
use Rattle.lent.specs.Sampled.{entries}

-- a coordinate, open or given
unfoldable pub coordinate_of : Bool → Float → Coordinate
coordinate_of free x = cond free open' (given x)

-- n coordinates, from number i on; past the eighth, which no grid asks for, they are no numbers
unfoldable pub coordinates_from : Coordinates → ℕ → ℕ → List Coordinate
coordinates_from p i zero = []
coordinates_from p i (suc n) = coordinate_of (get_or p.free i false) (get_or p.at i nan) ∷ coordinates_from p (i + 1) n

unfoldable pub coordinates_of : Coordinates → List Coordinate
coordinates_of p = coordinates_from p 0 p.many

-- the model's probe, of an axes grid's floor and axes alone
unfoldable pub probed_of : Float → List Axis → List Coordinate → Paper Float
probed_of floor axes xs = cond (not (eqb (length xs) (length axes))) (refuses 4) (through (floored_of floor) (probe_all axes xs one64))

-- ---- the path

-- what is left of the path at a depth
unfoldable pub path_from : Region → ℕ → List ℕ
path_from p d = entries 0 p.path d (p.levels - d)

-- a path that ends here with no coordinates given
unfoldable pub ends_at : Region → ℕ → Bool
ends_at p d = leb p.levels d && eqb p.coordinates.many 0
