-- The search by halves. On any list it is what these steps find; on well-formed edges and a number in [0, 1] it is the bin of the rule
-- (proofs/Searches.antt).
use Rattle.std.specs.Prelude.{ℕ, zero, suc, ◌+◌, ◌-◌, ◌/◌, cond, List, ltb, get_or, Float}
use Rattle.std.specs.Float.{nan}
use Rattle.std.specs.Float.Ieee.{lt}
use Rattle.axis.specs.Edges.{bins_of}

-- among `size` bins from `base` on; the first number bounds the steps
unfoldable pub searched : ℕ → List Float → Float → ℕ → ℕ → ℕ
searched zero es x base size = base
searched (suc k) es x base size =
    cond (ltb 1 size)
    (searched k es x (base + cond (lt (get_or es (base + size / 2) nan) x) (size / 2) 0) (size - size / 2))
    base

unfoldable pub search_of : List Float → Float → ℕ
search_of es x = searched (bins_of es) es x 0 (bins_of es)
