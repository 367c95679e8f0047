-- `ok`, and all finite from place x-index on, is the answer at every turn.
use mathlib.Core.Path.{◌≡◌}
use mathlib.Core.Bool.{◌&&◌}
use lib.ListN.{drop}
use Rattle.doubles.specs.Total.{all_finite}
use Rattle.axis.proofs.scans.are_finite.Given as goal

abbrev pub invariant-loop-x : goal.invariant-loop-x
invariant-loop-x l = (l.ok && all_finite (drop l.x-index l.xs)) ≡ all_finite l.xs
