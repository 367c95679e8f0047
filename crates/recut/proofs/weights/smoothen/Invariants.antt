-- prev and cur are the two bins before the rest as they were, so what is smoothed and what the rest will give stay the whole.
use mathlib.Core.Path.{◌≡◌}
use mathlib.Core.List.{◌++◌}
use lib.ListN.{take, drop}
use Rattle.recut.specs.Weights.{smoothed_from}
use Rattle.recut.proofs.weights.smoothen.Given as goal

abbrev pub invariant-loop-bin : goal.invariant-loop-bin
invariant-loop-bin l = take l.bin l.importances ++ smoothed_from l.prev l.cur (drop 1 (drop l.bin l.importances)) ≡ take 1 l.initial.importances ++ smoothed_from l.initial.prev l.initial.cur (drop 1 (drop 1 l.initial.importances))
