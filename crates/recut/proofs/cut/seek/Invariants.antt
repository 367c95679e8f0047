-- The walk from the spot given is the walk from where the loop stands.
use mathlib.Core.Path.{◌≡◌}
use lib.ListN.{drop}
use Rattle.recut.specs.Cut.{walk}
use Rattle.recut.proofs.cut.seek.Given as goal

abbrev pub invariant-loop-bin : goal.invariant-loop-bin
invariant-loop-bin l = walk l.target l.fn.from.passed l.fn.from.bin (drop l.fn.from.bin l.weights) ≡ walk l.target l.passed l.bin (drop l.bin l.weights)
