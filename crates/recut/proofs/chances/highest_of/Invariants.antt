-- The highest of the list is at every turn the highest of those left, begun from `top`.
use mathlib.Core.Path.{◌≡◌}
use lib.ListN.{drop}
use Rattle.doubles.specs.Numbers.{zero64}
use Rattle.recut.specs.Chances.{highest}
use Rattle.recut.proofs.chances.highest_of.Given as goal

abbrev pub invariant-loop-p : goal.invariant-loop-p
invariant-loop-p l = highest zero64 l.ps ≡ highest l.top (drop l.p-index l.ps)
