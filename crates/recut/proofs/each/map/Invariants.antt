-- What is changed, and the rest as it will be, stay the whole.
use mathlib.Core.Path.{◌≡◌}
use mathlib.Core.List.{◌++◌, map}
use lib.ListN.{take, drop}
use Rattle.recut.proofs.each.map.Given as goal

abbrev pub invariant-loop-x : goal.invariant-loop-x
invariant-loop-x g l = (h : g.row.T.Denot → g.row.T.Denot) → ((x y : g.row.T.Denot) → goal.F-post g l.f x y → y ≡ h x) → take l.x-index l.xs ++ map h (drop l.x-index l.xs) ≡ map h l.initial.xs
