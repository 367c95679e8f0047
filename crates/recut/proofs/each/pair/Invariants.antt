-- What is changed, and what the rest of both lists will give, stay the whole.
use mathlib.Core.Path.{◌≡◌}
use mathlib.Core.List.{◌++◌}
use lib.ListN.{take, drop}
use Rattle.recut.specs.Pairs.{pairwise}
use Rattle.recut.proofs.each.pair.Given as goal

abbrev pub invariant-loop-i : goal.invariant-loop-i
invariant-loop-i g l = (h : g.row.T.Denot → g.row.U.Denot → g.row.T.Denot) → ((x : g.row.T.Denot) (y : g.row.U.Denot) (z : g.row.T.Denot) → goal.F-post g l.f x y z → z ≡ h x y) → take l.i l.xs ++ pairwise h (drop l.i l.xs) (drop l.i l.ys) ≡ pairwise h l.initial.xs l.ys
