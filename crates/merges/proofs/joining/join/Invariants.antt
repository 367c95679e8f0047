-- What is joined, and what the rest of both parts will give, stay the whole.
use mathlib.Core.Path.{◌≡◌}
use mathlib.Core.List.{◌++◌}
use lib.ListN.{take, drop}
use Rattle.recut.specs.Pairs.{pairwise}
use Rattle.merges.proofs.joining.join.Given as goal

abbrev pub invariant-loop-i : goal.invariant-loop-i
invariant-loop-i g l = (h : g.row.T.Denot → g.row.T.Denot → g.row.T.Denot) → ((x y z : g.row.T.Denot) → goal.F-post g l.f x y z → z ≡ h x y)
    → take l.i l.entry-items ++ pairwise h (drop l.i l.entry-items) (drop l.i l.others) ≡ pairwise h l.initial.entry-items l.others
