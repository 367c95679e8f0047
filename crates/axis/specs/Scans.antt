-- Tests over whole stretches.
use Rattle.std.specs.Prelude.{ℕ, ◌^◌, Bool, true, ◌&&◌, List, [], ◌∷◌, leb}

-- every count is at most 2^53
unfoldable pub all_bounded : List ℕ → Bool
all_bounded [] = true
all_bounded (n ∷ ns) = leb n (2 ^ 53) && all_bounded ns
