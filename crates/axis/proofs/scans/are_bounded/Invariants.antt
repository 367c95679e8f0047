-- The answer so far and that for the counts not yet read make the answer for all.
use mathlib.Core.Path.{◌≡◌}
use mathlib.Core.Bool.{◌&&◌}
use lib.ListN.{drop}
use Rattle.axis.specs.Scans.{all_bounded}
use Rattle.axis.proofs.scans.are_bounded.Given as goal

abbrev pub invariant-loop-n : goal.invariant-loop-n
invariant-loop-n l = (l.ok && all_bounded (drop l.n-index l.ns)) ≡ all_bounded l.ns
