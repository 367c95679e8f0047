-- The whole total is the one from the sum so far over the rest.
use mathlib.Core.Path.{◌≡◌}
use lib.ListN.{drop}
use Rattle.doubles.specs.Numbers.{zero64}
use Rattle.doubles.specs.Total.{total_of}
use Rattle.recut.proofs.weights.total.Given as goal

abbrev pub invariant-loop-x : goal.invariant-loop-x
invariant-loop-x l = total_of zero64 l.importances ≡ total_of l.sum (drop l.x-index l.importances)
