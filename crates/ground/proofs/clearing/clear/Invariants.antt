-- What is cleared, and the value for each entry that is left, stay the whole.
use mathlib.Core.Path.{◌≡◌}
use mathlib.Core.List.{◌++◌}
use lib.ListN.{length, take, drop, replicate}
use Rattle.ground.proofs.clearing.clear.Given as goal

abbrev pub invariant-loop-entry : goal.invariant-loop-entry
invariant-loop-entry g l = take l.entry-index l.entry-items ++ replicate (length (drop l.entry-index l.entry-items)) l.value ≡ replicate (length l.initial.entry-items) l.value
