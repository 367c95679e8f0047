-- A coarse bound on a double. Definitions only.
use Rattle.std.specs.Prelude.{ℕ, ◌*◌, ◌≤◌, Float}
use Rattle.std.specs.Float.{nan, inf, fin}
use Rattle.std.specs.Float.Ieee.{up, down}

-- x is finite, and its size is at most n
abbrev pub Within : Float → ℕ → Type 0
Within nan n = ⊥
Within (inf s) n = ⊥
Within (fin s m e) n = m * up e ≤ n * down e
