-- The whole reaches the least where the rest of the counters reaches the rest of it.
use mathlib.Core.Path.{◌≡◌}
use lib.ListN.{drop}
use Rattle.recut.specs.Gather.{reaches_of}
use Rattle.recut.proofs.reaches.Given as goal

abbrev pub invariant-loop-n : goal.invariant-loop-n
invariant-loop-n l = reaches_of l.least l.counters ≡ reaches_of l.rest (drop l.n-index l.counters)
