-- The re-cut: new edges such that every new bin has the same part of the old bins' weights.
use Rattle.std.specs.Prelude.{ℕ, zero, suc, ◌+◌, cond, List, [], ◌∷◌, get_or, set, drop, Float}
use Rattle.std.specs.Float.{nan, binary64}
use Rattle.std.specs.Float.Ieee.{add, sub, mul, div, lt}
use Rattle.doubles.specs.Numbers.{zero64, one64}
use Rattle.recut.specs.declared.cut.Spot.{Spot}

-- where the walk over the old bins stands: the weight passed, and the bin
abbrev pub spot : Float → ℕ → Spot
spot a j = record { passed = a; bin = j }

-- Over the weights from the bin j on, while the weight passed with the bin's own is below the target. The last bin is never left, though its
-- weight is passed, once for each target beyond it.
unfoldable pub walk : Float → Float → ℕ → List Float → Spot
walk t a j [] = spot a j
walk t a j (q ∷ []) = cond (lt (add binary64 a q) t) (spot (add binary64 a q) j) (spot a j)
walk t a j (q ∷ (r ∷ qs)) = cond (lt (add binary64 a q) t) (walk t (add binary64 a q) (j + 1) (r ∷ qs)) (spot a j)

unfoldable pub walk_to : List Float → Float → Spot → Spot
walk_to qs t s = walk t s.passed s.bin (drop s.bin qs)

-- p[j] + ((target − passed) / weight[j]) · (p[j+1] − p[j])
unfoldable pub edge_at : List Float → List Float → Float → Spot → Float
edge_at es qs t s =
    add binary64 (get_or es s.bin nan)
    (mul binary64 (div binary64 (sub binary64 t s.passed) (get_or qs s.bin nan)) (sub binary64 (get_or es (s.bin + 1) nan) (get_or es s.bin nan)))

-- n edges more, each one step of weight after the last
unfoldable pub edges_from : List Float → List Float → Float → Float → Spot → ℕ → List Float
edges_from es qs step t s zero = []
edges_from es qs step t s (suc n) =
    edge_at es qs (add binary64 t step) (walk_to qs (add binary64 t step) s)
    ∷ edges_from es qs step (add binary64 t step) (walk_to qs (add binary64 t step) s) n

-- as many edges as there are places: the first is 0, and the last is set to 1
unfoldable pub cuts_of : List Float → List Float → Float → ℕ → List Float
cuts_of es qs step zero = []
cuts_of es qs step (suc n) = set (zero64 ∷ edges_from es qs step zero64 (spot zero64 0) n) n one64
