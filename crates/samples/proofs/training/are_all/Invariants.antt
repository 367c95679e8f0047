-- What is left to scan, with what was found before.
use mathlib.Core.Path.{◌≡◌}
use mathlib.Core.Bool.{Bool, true, ◌&&◌}
use mathlib.Core.List.{List, [], ◌∷◌}
use Prim.Native.Nat.{◌-◌, ◌≤◌}
use lib.Ieee.{Float, nan}
use Rattle.lent.specs.Sampled.{entries}
use Rattle.samples.proofs.training.are_all.Given as goal

abbrev pub invariant-loop-i : goal.invariant-loop-i
invariant-loop-i g l = (l.i ≤ l.n) × ((t : Float → Bool) → ((x : Float) (b : Bool) → goal.F-post g l.test x b → b ≡ t x) → (all : List Float → Bool) → all [] ≡ true
    → ((x : Float) (rest : List Float) → all (x ∷ rest) ≡ (t x && all rest))
    → (l.ok && all (entries nan l.xs l.i (l.n - l.i))) ≡ all (entries nan l.xs 0 (l.n - 0)))
