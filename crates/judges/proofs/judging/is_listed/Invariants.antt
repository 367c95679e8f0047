-- Found so far, or listed among those left, stays the answer; it begins with the comparison with `bins`.
use mathlib.Core.Path.{◌≡◌}
use mathlib.Core.Bool.{◌||◌}
use lib.ListN.{drop}
use lib.Dec.{eqb}
use Rattle.model.specs.Sound.{listed}
use Rattle.judges.proofs.judging.is_listed.Given as goal

abbrev pub invariant-loop-value : goal.invariant-loop-value
invariant-loop-value l = (l.found || listed l.n (drop l.value-index l.values)) ≡ (eqb l.n l.bins || listed l.n l.values)
